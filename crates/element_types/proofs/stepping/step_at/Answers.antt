-- The numbers are copied over the types.
-- Assumes nothing.
use mathlib.Core.Path.{◌∙◌}
use Rattle.element_types.proofs.Copied.{numberable, stepped_at_lem}
use Rattle.element_types.proofs.stepping.step_at.Goals as goal

pub number_rank-requires : goal.number_rank-requires
number_rank-requires c =
    let h = c.split_at_mut-held.ensures in
    let p = c.split_at_mut-numbers.ensures in
    let q = c.split_at_mut-places.ensures in
    numberable _ _ _ _ _ c.requires _ _ h.value (h.front_len ∙ c.scratch.ensures) _ _ _ c.lists.ensures c.rank_types.ensures c.rank_types-2.ensures _ _ _ _ _ c.size-n.ensures
    p.value p.front_len q.value q.front_len

pub returns : goal.returns
returns c =
    let h = c.split_at_mut-held.ensures in
    rw c.replace.ensures
    (stepped_at_lem _ _ _ _ _ c.requires _ _ h.value (h.front_len ∙ c.scratch.ensures) _ _ _ c.lists.ensures c.rank_types.ensures c.rank_types-2.ensures _ _ c.number_rank.ensures _ _
    c.size-n.ensures c.types-from.ensures (c.number_rank.auto.numbers ∙ c.split_at_mut-numbers.ensures.front_len))
