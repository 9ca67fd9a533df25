-- The steps from rank r up are left.
-- Assumes nothing.
use Rattle.element_types.specs.State.{ups}
use Rattle.element_types.proofs.Sweeps.{StepsSwept}
use Rattle.element_types.proofs.sweeping.sweep_up.Given as goal

abbrev pub invariant-loop-r : goal.invariant-loop-r
invariant-loop-r l = StepsSwept l.sh l.initial.words l.words (ups l.r l.sh.rank) (ups 1 l.sh.rank)
