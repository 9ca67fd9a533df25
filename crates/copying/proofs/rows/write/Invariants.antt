-- The loop's invariant is that the rows before j stand in the table, and no cell of them is n.
-- Assumes nothing.
use mathlib.Core.Path.{◌≡◌}
use Prim.Native.Nat.{◌≤◌, ◌*◌}
use lib.ListN.{length}
use Rattle.spec.specs.Copying.{matrices, copy_table}
use Rattle.points.specs.Listed.{listed}
use Rattle.points.proofs.Filled.{CellsFilled}
use Rattle.copying.proofs.rows.write.Given as goal

abbrev pub invariant-loop-j : goal.invariant-loop-j
invariant-loop-j l = (l.j ≤ l.count) × (length l.out ≡ length l.initial.out) × CellsFilled l.n (copy_table (matrices l.d l.turns) (listed l.copies)) l.initial.out l.out (l.j * l.n)
