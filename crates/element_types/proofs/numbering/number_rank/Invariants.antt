-- The elements are numbered one after another, as `KeysScan` says.
-- Assumes nothing.
use Rattle.element_types.proofs.Scanned.{KeysScan}
use Rattle.element_types.proofs.numbering.number_rank.Given as goal

abbrev pub invariant-loop-e : goal.invariant-loop-e
invariant-loop-e l = KeysScan l.lists l.base l.own l.next l.numbers l.places l.keys l.m l.q l.e
