-- The ups come first, and then the downs.
-- Assumes nothing.
use Rattle.element_types.proofs.Sweeps.{sweepable_kept, both}
use Rattle.element_types.proofs.sweeping.sweep.Goals as goal

pub sweep_down-requires : goal.sweep_down-requires
sweep_down-requires c = sweepable_kept _ _ _ c.sweep_up.auto.words c.sweep_up.ensures.words_unchanged c.requires

pub returns : goal.returns
returns c = let both = both _ _ _ c.sweep_up.ensures.words_unchanged c.sweep_up.ensures.words_after _ c.sweep_down.ensures.words_unchanged c.sweep_down.ensures.words_after in
    record {
      words_unchanged = both.0;
      words_after = both.1;
    }
