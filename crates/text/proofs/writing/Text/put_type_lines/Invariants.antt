-- The loop's invariant is that the lines of the types before i are in place.
-- Assumes nothing.
use Prim.Native.Nat.{◌≤◌}
use Rattle.text.specs.Growing.{Grown}
use Rattle.text.specs.Cells.{lines_to}
use Rattle.text.proofs.writing.Text.put_type_lines.Given as goal

abbrev pub invariant-loop-i : goal.invariant-loop-i
invariant-loop-i l = (l.i ≤ l.n) × Grown l.initial.self (lines_to l.table l.i) l.self
