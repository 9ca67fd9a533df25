-- The types of the ranks below r stand in their cells.
-- Assumes nothing.
use Rattle.types.proofs.Ranks.{RanksTabled}
use Rattle.types.proofs.giving.write_table.Given as goal

abbrev pub invariant-loop-r : goal.invariant-loop-r
invariant-loop-r l = RanksTabled l.typed.shape l.typed.words.now l.initial.table l.table l.m l.r
