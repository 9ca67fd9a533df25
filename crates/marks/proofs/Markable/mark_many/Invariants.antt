-- The rows are taken one after another, and each mark is written behind those before it. The row then joins the table.
-- Assumes nothing.
use Prim.Native.Nat.{◌≤◌}
use lib.ListN.{length}
use Rattle.ranked.specs.Words.{total}
use Rattle.marks.specs.Marking.{MarkedTo}
use Rattle.marks.proofs.Markable.mark_many.Given as goal

abbrev pub invariant-loop-k : goal.invariant-loop-k
invariant-loop-k l = record { marked : MarkedTo l.self l.vertices l.rows l.marks l.k; room : total l.self.solid.shape ≤ length l.goes }
