-- The element's subs are read, its first sub's image, and the elements over that.
-- Assumes nothing.
use Rattle.std.proofs.Common.{rules, tests, arith, ◌≡◌, ◌∙◌, ◌+◌, ◌<◌, length, get_or, option_map}
use Rattle.std.proofs.lemmas.Iterator.{YieldsList-from_slice}
use Rattle.std.proofs.lemmas.Iterator.Search.{find_from_yields_List}
use Rattle.spec.specs.Lists.{In}
use Rattle.spec.specs.Types.{subs}
use Rattle.ranked.specs.Words.{size_at}
use Rattle.ranked.specs.Lying.{abs_of}
use Rattle.ranked.proofs.Chains.{serves_members}
use Rattle.marks.specs.Rises.{onto}
use Rattle.marks.proofs.Found.{rises, some_sub, sub_low, first_low, over-low}
use Rattle.marks.proofs.rise.Goals.{After-subs-subs}
use Rattle.marks.proofs.rise.Goals as goal

first : (c : After-subs-subs) → get_or c.subs-subs.result.now 0 0 < size_at c.args.solid.now.shape c.args.r
first c = first_low c.args.solid.now c.args.r c.args.e c.requires.r_bound.0 c.requires.r_bound.1 _ c.subs-subs.ensures

pub bounds-subs-0 : goal.bounds-subs-0
bounds-subs-0 c = some_sub c.args.solid.now c.args.r c.args.e c.requires.r_bound.0 c.requires.r_bound.1 _ c.subs-subs.ensures

pub bounds-goes-subs : goal.bounds-goes-subs
bounds-goes-subs c = omega (arith, first (goal.at.bounds-goes-subs c).After-subs-subs, c.requires.r_bound.2)

pub sups-requires : goal.sups-requires
sups-requires c =
    let low = c.requires.by_index _ (first (goal.at.sups-requires c).After-subs-subs) in
    (omega (arith, c.requires.r_bound.0), rw c.from-y.ensures low)

pub find-requires-clause-callable : goal.find-requires-clause-callable
find-requires-clause-callable c =
    let a = c.args in
    let s = a.solid.now in
    let p = c.requires.r_bound in
    let in_cells : (f : _) → In f c.subs-subs.result.now → f < length a.goes.now = λ f m. omega (arith, sub_low s a.r a.e p.0 p.1 _ c.subs-subs.ensures f m, p.2) in
    serves_members c.sups.result.now (cc) (λ g q k. search (rules, tests)) (λ g m.
    let in_r = over-low s a.r _ p.0 _ c.sups.ensures g.now m in search (rules, tests))

pub returns : goal.returns
returns c =
    let a = c.args in
    let s = abs_of a.solid.now in
    let to = λ (f : _). get_or a.goes.now f 0 in
    let es = c.subs-subs.result.now in
    let as_read : c.map.result ≡ option_map (λ x. x.now) c.find.result = search (rules, tests) in
    as_read
    ∙ find_from_yields_List (λ g. onto to es (subs s (a.r + 1) g)) _ _ c.find.result c.find.ensures.ran (YieldsList-from_slice c.sups.result.now (cc)) (λ g t q k. search (rules, tests))
    ∙ rises s to a.r a.e es c.sups.result.now c.subs-subs.ensures c.from-y.result c.from-y.ensures c.sups.ensures
