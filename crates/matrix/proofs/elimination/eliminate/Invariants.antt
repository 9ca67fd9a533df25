-- The loop's invariant is that what is left to eliminate gives what the whole elimination gives.
-- Assumes nothing.
use Prim.Native.Nat.{◌+◌}
use Rattle.matrix.specs.Reading.{leading}
use Rattle.matrix.proofs.Columns.{ColumnsDone}
use Rattle.matrix.proofs.elimination.eliminate.Given as goal

abbrev pub invariant-loop-c : goal.invariant-loop-c
invariant-loop-c l = ColumnsDone l.d (leading l.d (l.d + l.d) l.initial.rows) (leading l.d (l.d + l.d) l.rows) l.t l.odd l.c
