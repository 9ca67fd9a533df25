use native.Mathlib.Omega.{arith}
use Prim.Native.Nat.{◌-◌}
use Rattle.spec.specs.Types.{down}
use Rattle.element_types.proofs.Sweeps.{swept_ready, swept_next, swept_end, downs-next, downs-end}
use Rattle.element_types.proofs.sweeping.sweep_down.Goals as goal

pub step_down-requires : goal.step_down-requires
step_down-requires c = swept_ready _ _ _ _ _ c.loop-r.invariant c.requires (down (c.loop-r.r - 1)) (omega (arith, c.loop-r-test.true)) (omega (arith, c.loop-r-test.true, c.loop-r.auto.r))

pub loop-r-preserved : goal.loop-r-preserved
loop-r-preserved c = swept_next _ _ _ _ _ c.loop-r.invariant (down (c.loop-r.r - 1)) _ (downs-next c.loop-r.r (omega (arith, c.loop-r-test.true))) _ c.step_down.auto.words c.step_down.ensures.words_unchanged c.step_down.ensures.words_after

pub returns-clause-words_after : goal.returns-clause-words_after
returns-clause-words_after c = (swept_end _ _ _ _ _ c.loop-r.invariant (downs-end c.loop-r.r c.loop-r-test.false)).1
