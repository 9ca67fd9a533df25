-- The rank's elements are told apart by their subs' types.
-- Assumes nothing.
use Rattle.element_types.proofs.States.{up_ready, up_stepped}
use Rattle.element_types.proofs.stepping.step_up.Goals as goal

pub step_at-requires : goal.step_at-requires
step_at-requires c = up_ready _ _ _ c.requires _ c.subs-lists.ensures

pub returns : goal.returns
returns c = let both = up_stepped _ _ _ c.requires _ c.subs-lists.ensures _ c.step_at.ensures in
    record {
      words_unchanged = both.0;
      words_after = both.1;
    }
