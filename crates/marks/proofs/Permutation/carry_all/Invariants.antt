-- One rank after another is carried.
-- Assumes nothing.
use Rattle.marks.proofs.Carried.{RanksCarried}
use Rattle.marks.proofs.Permutation.carry_all.Given as goal

abbrev pub invariant-loop-r : goal.invariant-loop-r
invariant-loop-r l = RanksCarried l.self l.goes l.r
