-- Either list gives the same, since they hold the same elements between in the same order.
-- Assumes nothing.
use Rattle.std.proofs.Common.{rules, tests, ◌≡◌, ◌∙◌, ap, not, ◌&&◌, eqb, option_map}
use Rattle.std.proofs.lemmas.Iterator.{YieldsList-from_slice}
use Rattle.std.proofs.lemmas.Iterator.Search.{find_from_yields_List}
use Rattle.spec.specs.Lists.{holds}
use Rattle.spec.specs.Types.{subs, sups}
use Rattle.ranked.specs.Lying.{abs_of}
use Rattle.ranked.proofs.Chains.{serves_members}
use Rattle.ranked.proofs.Forks.{sub_above, sup_under, down_is, up_is}
use Rattle.flag.specs.Reading.{other_in}
use Rattle.flag.proofs.Flags.{find_other}
use Rattle.flag.proofs.other_between.Goals as goal

pub find-requires-clause-callable : goal.find-requires-clause-callable
find-requires-clause-callable c =
    let a = c.args in let s = a.solid.now in
    serves_members c.subs-above.result.now (cc) (λ y q k. search (rules, tests)) (λ y m.
    let in_r = sub_above s.shape s.lists.now s.held a.r c.requires.0 c.requires.1 a.g _ c.subs-above.ensures y.now m in search (rules, tests))

pub find-requires-else-above-below-clause-callable : goal.find-requires-else-above-below-clause-callable
find-requires-else-above-below-clause-callable c =
    let a = c.args in let s = a.solid.now in
    serves_members c.sups-below.result.now (cc) (λ y q k. search (rules, tests)) (λ y m.
    let in_r = sup_under s.shape s.lists.now s.held a.r c.requires.0 c.requires.1 a.h _ c.sups-below.ensures y.now m in search (rules, tests))

pub returns-then-above-below : goal.returns-then-above-below
returns-then-above-below c =
    let a = c.args in let s = a.solid.now in
    let p = λ (y : _). holds eqb a.h (subs (abs_of s) a.r y) in
    let l = c.subs-above.result.now in
    let as_read : c.map.result ≡ option_map (λ x. x.now) c.find.result = search (rules, tests) in
    as_read
    ∙ find_from_yields_List (λ y. not (eqb y a.e) && p y) _ _ c.find.result c.find.ensures.ran (YieldsList-from_slice l (cc)) (λ y t q k. search (rules, tests))
    ∙ find_other a.e p l
    ∙ ap (other_in a.e) (down_is s.shape s.lists.now s.held a.r c.requires.0 c.requires.1 a.g a.h l c.subs-above.ensures)

pub returns-else-above-below : goal.returns-else-above-below
returns-else-above-below c =
    let a = c.args in let s = a.solid.now in
    let p = λ (y : _). holds eqb a.g (sups (abs_of s) a.r y) in
    let l = c.sups-below.result.now in
    let as_read : c.map-else-above-below.result ≡ option_map (λ x. x.now) c.find-else-above-below.result = search (rules, tests) in
    as_read
    ∙ find_from_yields_List (λ y. not (eqb y a.e) && p y) _ _ c.find-else-above-below.result c.find-else-above-below.ensures.ran (YieldsList-from_slice l (cc)) (λ y t q k. search (rules, tests))
    ∙ find_other a.e p l
    ∙ ap (other_in a.e) (up_is s.shape s.lists.now s.held a.r c.requires.0 c.requires.1 a.g a.h l c.requires.2 c.sups-below.ensures)
