-- The invariant is that the types that e elements have stand in their cells.
-- Assumes nothing.
use Rattle.types.proofs.Rows.{Rows}
use Rattle.types.proofs.giving.write_rank.Given as goal

abbrev pub invariant-loop-e : goal.invariant-loop-e
invariant-loop-e l = Rows l.types l.r l.m l.initial.table l.table l.k l.e
