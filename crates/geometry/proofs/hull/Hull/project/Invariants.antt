-- The loop's invariant is that q is where the first k vectors lead. The measure is what is left of the basis.
-- Assumes nothing.
use Prim.Native.Nat.{◌≤◌}
use lib.ListN.{take}
use Rattle.geometry.specs.Reading.{vector_at}
use Rattle.geometry.proofs.Along.{Along}
use Rattle.geometry.proofs.hull.Hull.project.Given as goal

abbrev pub invariant-loop-k : goal.invariant-loop-k
invariant-loop-k l = (l.k ≤ l.self.count) × Along (vector_at l.d l.self.basis) l.self.count (take l.d l.away) (take l.d l.initial.q) (take l.d l.q) l.k
