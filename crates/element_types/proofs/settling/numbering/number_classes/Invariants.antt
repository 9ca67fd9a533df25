-- The elements are numbered one after another, as `ClassesScan` says.
-- Assumes nothing.
use Rattle.element_types.proofs.settling.Scanned.{ClassesScan}
use Rattle.element_types.proofs.settling.numbering.number_classes.Given as goal

abbrev pub invariant-loop-e : goal.invariant-loop-e
invariant-loop-e l = ClassesScan l.classes l.numbers l.firsts l.m l.e
