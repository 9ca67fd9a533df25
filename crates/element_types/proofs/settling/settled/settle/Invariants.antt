-- What is left of the sweeps gives what those after the first give.
-- Assumes nothing.
use Rattle.element_types.proofs.settling.Ended.{Settling}
use Rattle.element_types.proofs.settling.settled.settle.Given as goal

abbrev pub invariant-loop : goal.invariant-loop
invariant-loop l = Settling l.sh l.initial.words l.words l.count l.all l.counter
