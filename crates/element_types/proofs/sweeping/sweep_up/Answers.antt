use Rattle.spec.specs.Types.{up}
use Rattle.element_types.proofs.Sweeps.{swept_ready, swept_next, swept_end, ups-next, ups-end}
use Rattle.element_types.proofs.sweeping.sweep_up.Goals as goal

pub step_up-requires : goal.step_up-requires
step_up-requires c = swept_ready _ _ _ _ _ c.loop-r.invariant c.requires (up c.loop-r.r) c.loop-r.auto.r c.loop-r-test.true

pub loop-r-preserved : goal.loop-r-preserved
loop-r-preserved c = swept_next _ _ _ _ _ c.loop-r.invariant (up c.loop-r.r) _ (ups-next c.loop-r.r _ c.loop-r-test.true) _ c.step_up.auto.words c.step_up.ensures.words_unchanged c.step_up.ensures.words_after

pub returns-clause-words_after : goal.returns-clause-words_after
returns-clause-words_after c = (swept_end _ _ _ _ _ c.loop-r.invariant (ups-end c.loop-r.r _ c.loop-r-test.false)).1
