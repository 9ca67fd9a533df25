-- Either list has as many, since they are the same.
-- Assumes nothing.
use Rattle.std.proofs.Common.{rules, tests, ◌∙◌, ap, length, eqb}
use Rattle.std.proofs.lemmas.Iterator.{YieldsList-from_slice}
use Rattle.std.proofs.lemmas.Iterator.Consumers.{count_from_yields_List, YieldsList-from_filter}
use Rattle.spec.specs.Lists.{holds}
use Rattle.spec.specs.Types.{subs, sups}
use Rattle.ranked.specs.Lying.{abs_of}
use Rattle.ranked.proofs.Chains.{filter_keep, serves_members}
use Rattle.ranked.proofs.Forks.{sub_above, sup_under, down_is, up_is}
use Rattle.preflight.proofs.check.between.Goals as goal

pub count-requires-clause-can : goal.count-requires-clause-can
count-requires-clause-can c =
    let a = c.args in let s = a.solid.now in (
      tt,
      tt,
      serves_members c.subs-above.result.now (cc) (λ y q k. search (rules, tests)) (λ y m.
          let in_r = sub_above s.shape s.lists.now s.held a.r c.requires.0 c.requires.1 a.g _ c.subs-above.ensures y.now m in search (rules, tests)),
    )

pub count-requires-else-above-below-clause-can : goal.count-requires-else-above-below-clause-can
count-requires-else-above-below-clause-can c =
    let a = c.args in let s = a.solid.now in (
      tt,
      tt,
      serves_members c.sups-below.result.now (cc) (λ y q k. search (rules, tests)) (λ y m.
          let in_r = sup_under s.shape s.lists.now s.held a.r c.requires.0 c.requires.1 a.h _ c.sups-below.ensures y.now m in search (rules, tests)),
    )

pub returns-then-above-below : goal.returns-then-above-below
returns-then-above-below c =
    let a = c.args in let s = a.solid.now in
    let p = λ (y : _). holds eqb a.h (subs (abs_of s) a.r y) in
    let l = c.subs-above.result.now in
    count_from_yields_List c.filter.result c.count.result c.count.ensures.ran (YieldsList-from_filter _ p (YieldsList-from_slice l (cc)) c.filter.ensures.closure (λ y t q k. search (rules, tests)))
    ∙ ap length (filter_keep p l ∙ down_is s.shape s.lists.now s.held a.r c.requires.0 c.requires.1 a.g a.h l c.subs-above.ensures)

pub returns-else-above-below : goal.returns-else-above-below
returns-else-above-below c =
    let a = c.args in let s = a.solid.now in
    let p = λ (y : _). holds eqb a.g (sups (abs_of s) a.r y) in
    let l = c.sups-below.result.now in
    count_from_yields_List c.filter-else-above-below.result c.count-else-above-below.result c.count-else-above-below.ensures.ran (YieldsList-from_filter _ p (YieldsList-from_slice l (cc)) c.filter-else-above-below.ensures.closure (λ y t q k. search (rules, tests)))
    ∙ ap length (filter_keep p l ∙ up_is s.shape s.lists.now s.held a.r c.requires.0 c.requires.1 a.g a.h l c.requires.2 c.sups-below.ensures)
