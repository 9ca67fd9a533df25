use mathlib.Core.Path.{refl, sym, ◌∙◌}
use mathlib.Core.List.{◌++◌}
use Rattle.element_types.specs.Start.{Startable}
use Rattle.element_types.proofs.settling.Begun.{startable_opened, fitting, begun-next, begun-end}
use Rattle.element_types.proofs.settling.starting.start.Goals.{After-split_at_mut-held}
use Rattle.element_types.proofs.settling.starting.start.Goals as goal

-- The least and the top have their types.
ready : (c : After-split_at_mut-held)
    → let a = c.args in
    Startable a.sh (c.split_at_mut-held.result.0.now ++ c.split_at_mut-held.result.1.now) a.classes.now
ready c = rw (sym c.split_at_mut-held.ensures.value) (startable_opened _ _ _ c.requires _ _ c.types-least.ensures c.types-last.ensures)

pub number_classes-requires : goal.number_classes-requires
number_classes-requires c = fitting _ _ _ (ready (goal.at.number_classes-requires c).After-split_at_mut-held) _ _ c.loop-r.invariant c.loop-r-test.true _ _ _ _ c.types-to.ensures c.scratch-out.ensures c.size-n.ensures c.proper_number-from.ensures _ _ refl (c.loop-r.auto.held ∙ c.split_at_mut-held.ensures.front_len)

pub loop-r-preserved : goal.loop-r-preserved
loop-r-preserved c =
    begun-next _ _ _ (ready (goal.at.loop-r-preserved c).After-split_at_mut-held) _ _ c.loop-r.invariant c.loop-r-test.true _ _ _ _ c.types-to.ensures c.scratch-out.ensures c.size-n.ensures
    c.proper_number-from.ensures _ _ refl (c.loop-r.auto.held ∙ c.split_at_mut-held.ensures.front_len) _ _ c.number_classes.auto.numbers c.number_classes.auto.firsts c.number_classes.ensures

pub returns : goal.returns
returns c = begun-end _ _ _ c.requires _ _ c.types-least.ensures c.types-last.ensures _ _ (rw (sym c.split_at_mut-held.ensures.value) at c.loop-r.invariant) c.loop-r-test.false
