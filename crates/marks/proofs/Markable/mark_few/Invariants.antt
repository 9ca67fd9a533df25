-- The rows are taken one after another, and each mark is written behind those before it.
-- Assumes nothing.
use Prim.Native.Nat.{◌≤◌}
use lib.ListN.{length}
use Rattle.ranked.specs.Words.{total}
use Rattle.marks.specs.Marking.{MarkedTo}
use Rattle.marks.proofs.Markable.mark_few.Given as goal

abbrev pub invariant-loop-k : goal.invariant-loop-k
invariant-loop-k l = record { marked : MarkedTo l.self l.vertices l.rows l.marks l.k; room : total l.self.solid.shape ≤ length l.goes }
