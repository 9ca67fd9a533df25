-- One element after another is carried, and its cell written.
-- Assumes nothing.
use Rattle.marks.proofs.Carried.{ElementsCarried}
use Rattle.marks.proofs.Permutation.carry_rank.Given as goal

abbrev pub invariant-loop-e : goal.invariant-loop-e
invariant-loop-e l = ElementsCarried l.self l.goes l.r l.e
