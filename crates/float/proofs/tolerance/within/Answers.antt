-- The constant is the float that the definition `eps` names.
-- Assumes nothing.
use lib.Ieee.{of_bits}
use Rattle.spec.specs.Float.{eps}
use Rattle.float.proofs.tolerance.within.Goals as goal

pub returns : goal.returns
unfolding of_bits eps
returns c = c.within_limit.ensures
