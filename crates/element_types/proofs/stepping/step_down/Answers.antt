-- The rank's elements are told apart by their sups' types.
-- Assumes nothing.
use Rattle.element_types.proofs.States.{down_ready, down_stepped}
use Rattle.element_types.proofs.stepping.step_down.Goals as goal

pub step_at-requires : goal.step_at-requires
step_at-requires c = down_ready _ _ _ c.requires _ c.sups-lists.ensures

pub returns : goal.returns
returns c = let both = down_stepped _ _ _ c.requires _ c.sups-lists.ensures _ c.step_at.ensures in
    record {
      words_unchanged = both.0;
      words_after = both.1;
    }
