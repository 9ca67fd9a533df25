-- This file has the loop over the proper ranks that writes their fingerprints.
-- Assumes nothing.
use mathlib.Core.Path.{◌≡◌, sym, ap, ◌∙◌}
use mathlib.Core.List.{List, ◌++◌, map}
use Prim.Native.Nat.{ℕ, suc, ◌+◌, ◌≤◌, ◌<◌}
use native.Mathlib.Numerals.{add-one}
use native.Mathlib.Omega.{arith}
use lib.ListN.{length, get_or, take, length-append, get_or-append}
use lib.Seq.{length-take-le, get_or-append-add, get_or-take, take-append-le}
use borrow.Author.Count.{below_more}
use borrow.Rule.Slice.PartMut.{put_mid}
use Rattle.spec.specs.Lists.{range}
use Rattle.spec.specs.Types.{vertices}
use Rattle.laws.proofs.Lists.{get_d_table, length_table}
use Rattle.ranked.specs.declared.Shape.{Shape}
use Rattle.ranked.specs.Words.{first_at, size_at, total, lists_of, abs_in, Held}
use Rattle.ranked.specs.Layout.{scratch_at}
use Rattle.ranked.proofs.Solids.{in_order_lem}
use Rattle.symmetry.specs.Fingerprints.{fingerprint_of, Fingerprinted}

-- The fingerprints below rank r stand.
pub record RanksStand (sh : Shape) (lists prints : List ℕ) (r : ℕ) : Type 0 where
  pub proper : 1 ≤ r
  pub done : (q : ℕ) → q < r → (e : ℕ) → 1 ≤ q → e < size_at sh q → get_or prints (first_at sh q + e) 0 ≡ fingerprint_of (vertices (abs_in sh lists) q e)

module _ {sh : Shape} {lists prints : List ℕ} {r : ℕ} (t : RanksStand sh lists prints r) (h : Held sh lists) (under : r < sh.rank) (room : total sh ≤ length prints) where
  -- The rank's part lies within the fingerprints.
  pub part_in : (first_at sh r < first_at sh (r + 1)) × (first_at sh (r + 1) ≤ length prints)
  part_in = rw add-one (h.some r (omega arith), omega (arith, in_order_lem sh lists h (suc r) (suc sh.rank) (omega arith) (omega arith)))

  pub ranks-next : (k : ℕ) (part : List ℕ) → part ≡ map (λ e. fingerprint_of (vertices (abs_in sh lists) r e)) (range 0 (size_at sh r))
      → RanksStand sh lists (put_mid (first_at sh r) k prints part) (r + 1)
  ranks-next k part is = record {
    proper = omega arith;
    done = below_more (λ q. (e : ℕ) → 1 ≤ q → e < size_at sh q → get_or (put_mid a k prints part) (first_at sh q + e) 0 ≡ fingerprint_of (vertices (abs_in sh lists) q e)) r
        (λ q b e c i. let low : first_at sh q + e < a = omega (arith, in_order_lem sh lists h (suc q) r b (omega arith)) in
        get_or-append (take a prints) _ 0 (first_at sh q + e) (omega (arith, long)) ∙ get_or-take a prints (first_at sh q + e) 0 low ∙ t.done q b e c i)
        (λ e c i. ap (λ n. get_or (put_mid a k prints part) (n + e) 0) (sym long) ∙ get_or-append-add (take a prints) _ e 0
        ∙ get_or-append part _ 0 e (omega (arith, ap length is, length_table (λ j. fingerprint_of (vertices (abs_in sh lists) r j)) (size_at sh r)))
        ∙ ap (λ (l : List ℕ). get_or l e 0) is ∙ get_d_table (λ j. fingerprint_of (vertices (abs_in sh lists) r j)) 0 (size_at sh r) e i);
  }
    where
      a : ℕ
      a = first_at sh r

      long : length (take a prints) ≡ a
      long = length-take-le a prints (omega (arith, part_in))

-- Behind the solid they are the words' fingerprints.
pub ranks-end : (sh : Shape) (held prints : List ℕ) (r : ℕ) → RanksStand sh (lists_of sh held) prints r → sh.rank ≤ r → Held sh (lists_of sh held) → length held ≡ scratch_at sh
    → total sh ≤ length prints → Fingerprinted sh (held ++ prints)
ranks-end sh held prints r t k h long room =
    let same : lists_of sh (held ++ prints) ≡ lists_of sh held = take-append-le sh.low held prints (omega (arith, long)) in
    record {
      held = rw same h;
      room = omega (arith, length-append held prints, long);
      stand = λ q e m.
          let at : scratch_at sh + first_at sh q + e ≡ length held + (first_at sh q + e) = omega (arith, long) in
          ap (λ i. get_or (held ++ prints) i 0) at ∙ get_or-append-add held prints (first_at sh q + e) 0 ∙ t.done q (omega (arith, m.under)) e m.above m.inside
          ∙ ap (λ (w : List ℕ). fingerprint_of (vertices (abs_in sh w) q e)) (sym same);
    }
