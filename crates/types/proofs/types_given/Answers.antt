-- The call goes by the answer of the sweeps.
-- Assumes nothing.
use Rattle.spec.specs.Calls.{TypesOut}
use Rattle.laws.proofs.Stopped.{stopped}
use Rattle.types.proofs.Placed.{unsettled_given, settled_given}
use Rattle.types.proofs.types_given.Goals.{Start}
use Rattle.types.proofs.types_given.Goals as goal

-- These are the outputs as they were.
abbrev old : Start → TypesOut
old s = record { elements = s.args.of.now; types = s.args.table.now }

pub returns-in_err-types_of : goal.returns-in_err-types_of
returns-in_err-types_of c =
    rw (stopped _ _ c.from_residual.ensures.1) (unsettled_given _ _ _ _ _ (old (goal.at.returns-in_err-types_of c).Start) (rw c.in_err-types_of.was at c.types_of.ensures))

pub returns : goal.returns
returns c = settled_given _ _ _ _ _ (old (goal.at.returns c).Start) (rw c.in_ok-types_of.was at c.types_of.ensures) _ c.give_out.ensures
