-- The loop's invariant is that the rows below i are widened.
-- Assumes nothing.
use mathlib.Core.List.{[]}
use Prim.Native.Nat.{◌≤◌}
use lib.ListN.{get_or}
use Rattle.float.specs.Reading.{padded}
use Rattle.float.proofs.Written.{Written}
use Rattle.copying.proofs.axes.widened.Given as goal

abbrev pub invariant-loop-i : goal.invariant-loop-i
invariant-loop-i l = (l.i ≤ 3) × Written (λ x. x) (λ k. padded (get_or l.row-items k [])) l.initial.r l.r l.i
