-- The library's search is that of the definition. What fits no word stands in no list.
-- Assumes nothing.
use Rattle.std.proofs.Common.{arith, ◌∙◌, sym, ◌≤◌, ◌^◌}
use Rattle.ranked.proofs.Chains.{any_holds}
use Rattle.ranked.proofs.Solids.{none_larger}
use Rattle.ranked.proofs.lists.long_holds.Goals as goal

pub returns-in_default : goal.returns-in_default
returns-in_default c =
    let large : 2 ^ 32 ≤ c.args.x = omega (arith, c.in_default.ensures) in
    sym (none_larger (2 ^ 32) c.args.x large _ (λ k. omega (arith, c.type_inv.entries k)))

pub returns : goal.returns
returns c = c.contains.ensures.value ∙ rw c.in-Ok.ensures.1 (any_holds c.args.x _)
