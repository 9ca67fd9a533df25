-- `symmetry::exchange::exchange` meets its contract: its steps are those of `Exchanged`, and exchanging facet 0 changes nothing. Assumes nothing.
use native.Mathlib.Omega.{arith}
use mathlib.Core.Path.{refl, sym, ap, ◌∙◌}
use Prim.Native.Nat.{ℕ}
use Rattle.spec.specs.Search.{exchanged_in}
use Rattle.laws.proofs.Exchange.{exchange-none}
use Rattle.ranked.specs.Words.{lists_of, abs_in}
use Rattle.symmetry.proofs.exchange.Exchanged.{tall, facet_fits, lists_fit, derive_call, solid₂, laid₂, past₂}
use Rattle.symmetry.proofs.exchange.exchange.Goals as goal

pub returns-then-f-eq0 : goal.returns-then-f-eq0
returns-then-f-eq0 c =
    let d = abs_in c.args.sh (lists_of c.args.sh c.args.words.now) in
    record {
      words_after = sym (ap (λ (f : ℕ). exchanged_in d f) c.if-f-eq0.true ∙ exchange-none d);
      laid_after = c.requires.laid;
      words_unchanged = refl;
    }

pub subs-i-requires : goal.subs-i-requires
subs-i-requires c = (omega (arith, tall _ c.args.words.now c.requires.laid _ c.requires.le_rank), omega (arith, facet_fits _ c.args.words.now c.requires.laid _ c.requires.le_rank))

pub subs-j-requires : goal.subs-j-requires
subs-j-requires c = (omega (arith, tall _ c.args.words.now c.requires.laid _ c.requires.le_rank), omega (arith, facet_fits _ c.args.words.now c.requires.laid _ c.requires.le_rank))

pub swap_lists-requires : goal.swap_lists-requires
swap_lists-requires c = lists_fit _ c.args.words.now c.requires.laid _ c.requires.le_rank _ c.subs-i.ensures _ c.subs-j.ensures

pub derive_sups-requires : goal.derive_sups-requires
derive_sups-requires c = let both = derive_call _ c.args.words.now c.requires.laid _ c.requires.le_rank _ c.subs-i.ensures _ c.subs-j.ensures _ c.swap_lists.ensures in
    record {
      stored = both.0;
      sups_room = both.1;
    }

pub returns : goal.returns
returns c =
    let e = c.derive_sups.ensures in
    let k = c.derive_sups.auto.words in
    record {
      words_after = solid₂ _ c.args.words.now c.requires.laid _ c.requires.le_rank _ c.subs-i.ensures _ c.subs-j.ensures _ c.swap_lists.ensures _ k e.held e.words_after e.stored_after e.words_unchanged e.rest_unchanged;
      laid_after = laid₂ _ c.args.words.now c.requires.laid _ c.requires.le_rank _ c.subs-i.ensures _ c.subs-j.ensures _ c.swap_lists.ensures _ k e.held e.words_after e.stored_after e.words_unchanged e.rest_unchanged;
      words_unchanged = past₂ _ c.args.words.now c.requires.laid _ c.requires.le_rank _ c.subs-i.ensures _ c.subs-j.ensures _ c.swap_lists.ensures _ k e.held e.words_after e.stored_after e.words_unchanged e.rest_unchanged;
    }
