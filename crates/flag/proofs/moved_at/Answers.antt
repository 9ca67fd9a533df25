-- The element has a place among the subs of the one above it, and the sub after that is taken.
-- Assumes nothing.
use borrow.Author.Rules.{rules}
use native.Mathlib.Omega.{arith}
use mathlib.Core.Path.{◌≡◌, sym, ◌∙◌}
use Prim.Native.Nat.{◌<◌}
use lib.ListN.{length, get_or}
use lib.Dec.{eqb}
use Rattle.spec.specs.Lists.{place}
use Rattle.ranked.proofs.Chains.{place_some, place_none}
use Rattle.flag.proofs.Iterate.{SubsUnder, moved_in, moved-some, moved-none}
use Rattle.flag.proofs.moved_at.Goals.{After-subs-above, After-get}
use Rattle.flag.proofs.moved_at.Goals as goal

under : (c : After-subs-above) → let s = c.args.solid.now in SubsUnder s.shape s.lists.now c.args.elements c.args.r c.subs-above.result.now
under c = record { held = c.args.solid.now.held; low = c.requires.0; long = search rules; subs = c.subs-above.ensures }

-- The place that was found is the element's.
here : (c : After-get) → let l = c.subs-above.result.now in
    (c.in_ok-here.here ≡ place eqb (get_or c.args.elements c.args.r 0) l) × (c.in_ok-here.here < length l)
here c = place_some _ _ _ (sym c.place.ensures ∙ c.in_ok-here.was)

pub returns-in_err-here : goal.returns-in_err-here
returns-in_err-here c =
    let out = place_none (get_or c.args.elements c.args.r 0) c.subs-above.result.now (sym c.place.ensures ∙ c.in_err-here.was) in
    rw c.from_residual.ensures (moved-none (under (goal.at.returns-in_err-here c).After-subs-above) (omega arith))

pub returns-in_err-next : goal.returns-in_err-next
returns-in_err-next c =
    rw c.from_residual-in_err-next.ensures
    (moved-none (under (goal.at.returns-in_err-next c).After-subs-above) (omega (arith, (here (goal.at.returns-in_err-next c).After-get).0, c.in_err-next.ensures.lookup.3)))

pub down-requires : goal.down-requires
down-requires c =
    let next = c.in_ok-next.ensures.lookup.3 in
    (omega (arith, c.requires.0), moved_in (under (goal.at.down-requires c).After-subs-above) _ _ (here (goal.at.down-requires c).After-get).0 next.0 (next.1 0))

pub returns : goal.returns
returns c =
    let next = c.in_ok-next.ensures.lookup.3 in
    moved-some (under (goal.at.returns c).After-subs-above) _ _ (here (goal.at.returns c).After-get).0 next.0 (next.1 0) _ c.down.ensures
