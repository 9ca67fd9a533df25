use mathlib.Core.Path.{refl}
use Rattle.element_types.proofs.settling.Ended.{ReachedBySteps, first_countable, ready, left_countable, none_left, u-lists, next_countable, stays, settling_next, once, ended}
use Rattle.element_types.proofs.settling.settled.settle.Goals.{After-sweep}
use Rattle.element_types.proofs.settling.settled.settle.Goals as goal

-- After the first sweep, the types come of steps from the start.
swept : (u : After-sweep) → ReachedBySteps u.args.sh u.sweep.new.words u.requires.classes
swept u = once _ _ u.requires _ u.sweep.auto.words u.sweep.ensures.words_unchanged u.sweep.ensures.words_after

pub invariant_of-type_count : goal.invariant_of-type_count
invariant_of-type_count c = record { countable = first_countable _ _ _ (swept (goal.at.invariant_of-type_count c).After-sweep) }

pub sweep-requires-in-loop : goal.sweep-requires-in-loop
sweep-requires-in-loop c = ready _ _ _ (swept (goal.at.sweep-requires-in-loop c).After-sweep) _ _ _ _ c.loop.invariant

pub invariant_of-type_count-in-loop : goal.invariant_of-type_count-in-loop
invariant_of-type_count-in-loop c = record { countable = next_countable _ _ _ (swept (goal.at.invariant_of-type_count-in-loop c).After-sweep) _ _ _ _ c.loop.invariant _ c.sweep-in-loop.auto.words c.sweep-in-loop.ensures.words_unchanged c.sweep-in-loop.ensures.words_after }

pub returns-then-next-count : goal.returns-then-next-count
returns-then-next-count c =
    ended _ _ c.requires _ c.sweep.auto.words c.sweep.ensures.words_unchanged c.sweep.ensures.words_after _ c.proper-all.ensures _ _
    (u-lists _ _ _ (swept (goal.at.returns-then-next-count c).After-sweep) _ _ _ _ c.loop.invariant _ c.sweep-in-loop.auto.words c.sweep-in-loop.ensures.words_unchanged c.sweep-in-loop.ensures.words_after)
    (next_countable _ _ _ (swept (goal.at.returns-then-next-count c).After-sweep) _ _ _ _ c.loop.invariant _ c.sweep-in-loop.auto.words c.sweep-in-loop.ensures.words_unchanged c.sweep-in-loop.ensures.words_after)
    (stays _ _ _ (swept (goal.at.returns-then-next-count c).After-sweep) _ _ _ _ c.loop.invariant _ c.sweep-in-loop.auto.words c.sweep-in-loop.ensures.words_unchanged c.sweep-in-loop.ensures.words_after c.loop-test.true _ c.type_count-next.ensures c.if-next-count.true)

pub loop-preserved : goal.loop-preserved
loop-preserved c = settling_next _ _ _ (swept (goal.at.loop-preserved c).After-sweep) _ _ _ _ c.loop.invariant _ c.sweep-in-loop.auto.words c.sweep-in-loop.ensures.words_unchanged c.sweep-in-loop.ensures.words_after c.loop-test.true _ c.type_count-next.ensures c.if-next-count.false

pub returns : goal.returns
returns c =
    ended _ _ c.requires _ c.sweep.auto.words c.sweep.ensures.words_unchanged c.sweep.ensures.words_after _ c.proper-all.ensures _ _
    c.loop.invariant.lists (left_countable _ _ _ (swept (goal.at.returns c).After-sweep) _ _ _ _ c.loop.invariant) (refl, none_left _ _ _ (swept (goal.at.returns c).After-sweep) _ _ _ _ c.loop.invariant c.loop-test.false)
