-- The start comes first, and then the sweeps.
-- Assumes nothing.
use Rattle.element_types.proofs.settling.Benched.{typed}
use Rattle.element_types.proofs.settling.types_of.Goals as goal

pub returns : goal.returns
returns c = typed _ _ _ _ _ _ _ c.begin.ensures c.settle.auto.words c.settle.ensures
