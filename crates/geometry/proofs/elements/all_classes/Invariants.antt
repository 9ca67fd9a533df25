-- In the loop over the proper ranks, each rank's elements take their values after those of the ranks below.
-- Assumes nothing.
use Rattle.geometry.proofs.elements.Ranks.{Round}
use Rattle.geometry.proofs.elements.all_classes.Given as goal

abbrev pub invariant-loop-r : goal.invariant-loop-r
invariant-loop-r l = Round l.solid l.coordinates l.initial.listed l.listed l.n l.cells l.r
