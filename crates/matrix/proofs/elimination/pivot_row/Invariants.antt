-- The loop's invariant is that p is a row, and the pivot of the rows before r.
-- Assumes nothing.
use Prim.Native.Nat.{◌+◌, ◌<◌}
use Rattle.matrix.specs.Reading.{leading}
use Rattle.matrix.proofs.PivotScan.{Scanned}
use Rattle.matrix.proofs.elimination.pivot_row.Given as goal

abbrev pub invariant-loop-r : goal.invariant-loop-r
invariant-loop-r l = (l.p < l.d) × Scanned (leading l.d (l.d + l.d) l.rows) l.d l.c l.p l.r
