-- The turns that are lent are those of the 48.
-- Assumes nothing.
use Rattle.trials.proofs.copying_cases.copies_of.Goals as goal

pub returns : goal.returns
returns c =
    rw c.turns-turns.ensures at c.copy.ensures
