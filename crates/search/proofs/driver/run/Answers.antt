-- Preflight's refusals, 1 to 7, come first, and then what is after them.
-- Assumes nothing.
use Rattle.laws.proofs.Stopped.{stopped}
use Rattle.search.proofs.Steps.{unready-call, benched, passed_call}
use Rattle.search.proofs.driver.run.Goals as goal

pub returns-in_err-sh : goal.returns-in_err-sh
returns-in_err-sh c =
    rw (stopped _ _ c.from_residual.ensures.1) (unready-call c.preflight.ensures c.args.rotations _ c.in_err-sh.was)

pub from8-requires : goal.from8-requires
from8-requires c = benched c.preflight.ensures c.in_ok-sh.was

pub returns : goal.returns
returns c = passed_call c.preflight.ensures c.in_ok-sh.was c.args.rotations _ _ c.from8.ensures
