-- The two comparisons together are the one of the magnitude with the limit.
-- Assumes nothing.
use Rattle.float.proofs.Magnitude.{not_above, is_above}
use Rattle.float.proofs.tolerance.within_limit.Goals as goal

pub returns-then-x-limit : goal.returns-then-x-limit
returns-then-x-limit c = not_above _ _ c.if-x-limit.true

pub returns-else-x-limit : goal.returns-else-x-limit
returns-else-x-limit c = is_above _ _ c.if-x-limit.false
