-- The steps below rank r are left.
-- Assumes nothing.
use Rattle.element_types.specs.State.{downs}
use Rattle.element_types.proofs.Sweeps.{StepsSwept}
use Rattle.element_types.proofs.sweeping.sweep_down.Given as goal

abbrev pub invariant-loop-r : goal.invariant-loop-r
invariant-loop-r l = StepsSwept l.sh l.initial.words l.words (downs l.r) (downs l.sh.rank)
