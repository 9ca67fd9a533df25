-- In the loop over a rank's elements, each takes its value after those before it.
-- Assumes nothing.
use Rattle.geometry.proofs.elements.Ranks.{RankTurn}
use Rattle.geometry.proofs.elements.classes_of_rank.Given as goal

abbrev pub invariant-loop-e : goal.invariant-loop-e
invariant-loop-e l = RankTurn l.realized l.r l.initial.listed l.listed l.n l.m l.cells l.e
