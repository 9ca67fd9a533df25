-- The words that preflight asks for are room for every step of a sweep.
-- Assumes nothing.
use mathlib.Core.Path.{◌≡◌, refl, sym, ap, ap₂, ◌∙◌}
use mathlib.Core.Logic.{inl, inr}
use mathlib.Core.Bool.{Bool, true, false}
use mathlib.Core.List.{List, [], ◌∷◌, map}
use Prim.Native.Nat.{ℕ, zero, suc, ◌+◌, ◌-◌, ◌*◌, ◌^◌, ◌≤◌, ◌<◌, zero-le}
use native.Mathlib.Nat.{add-zero, mul-le-mul_left}
use native.Mathlib.Decide.{ℕ_discrete}
use native.Mathlib.Omega.{arith}
use lib.Dec.{eqb}
use lib.ListN.{length, get_or}
use Rattle.spec.specs.Limits.{max_rank, max_count}
use Rattle.spec.specs.Lists.{In, holds, range, keep, sum}
use Rattle.spec.specs.Types.{Solid, top, size, subs, sups, proper_ranks, elements, Step, up, down, at}
use Rattle.spec.specs.Solid as solids
use Rattle.laws.proofs.Lists.{length-range, in_range_lem, of_range, once_range}
use Rattle.laws.proofs.Distinct.{pigeons}
use Rattle.laws.proofs.Counts.{numbers, sum-le, in_keep, once_keep, in_holds}
use Rattle.laws.proofs.Carry.{rising_once}
use Rattle.ranked.specs.declared.Shape.{Shape}
use Rattle.ranked.specs.Words.{first_at, size_at, total, lists_of, abs_in, Held}
use Rattle.ranked.specs.Layout.{sub_entries, low_of}
use Rattle.ranked.proofs.Solids.{top_is, size_is}
use Rattle.ranked.proofs.Low.{sub-entries_is}
use Rattle.ranked.proofs.Counted.{proper_few}
use Rattle.element_types.specs.State.{entries, needed, Sweepable}

-- ---- sums

-- One of the summed numbers is at most their sum, and numbers under a bound have a sum under one.
sum_has : (f : ℕ → ℕ) (l : List ℕ) (r : ℕ) → In r l → f r ≤ sum (map f l)
unfolding sum
sum_has f [] r x' = elim x' [ ]
sum_has f (q ∷ l) r (inl e) = rw e (omega arith)
sum_has f (q ∷ l) r (inr m) = omega (arith, sum_has f l r m)

pub sum-under : (f : ℕ → ℕ) (c : ℕ) (l : List ℕ) → ((r : ℕ) → In r l → f r ≤ c) → sum (map f l) ≤ length l * c
unfolding sum
sum-under f c [] h = zero-le
sum-under f c (q ∷ l) h = omega (arith, h q (inl refl), sum-under f c l (λ r m. h r (inr m)))

-- ---- pairs are counted from either side

one_if : Bool → ℕ
one_if true = 1
one_if false = 0

add_row : (p : ℕ → Bool) (g h : ℕ → ℕ) (l : List ℕ) → ((f : ℕ) → h f ≡ one_if (p f) + g f) → sum (map h l) ≡ length (keep p l) + sum (map g l)
unfolding sum keep one_if
add_row p g h [] e = refl
add_row p g h (f ∷ l) e = go (p f) refl (add_row p g h l e)
  where
    go : (b : Bool) → p f ≡ b → sum (map h l) ≡ length (keep p l) + sum (map g l) → h f + sum (map h l) ≡ length (keep p (f ∷ l)) + (g f + sum (map g l))
    go true q ih = let k : h f ≡ 1 + g f = e f ∙ ap (λ (b : Bool). one_if b + g f) q in rw (q, keep) (omega arith)
    go false q ih = let k : h f ≡ 0 + g f = e f ∙ ap (λ (b : Bool). one_if b + g f) q in rw (q, keep) (omega arith)

none_kept : (l : List ℕ) → sum (map (λ f. 0) l) ≡ 0
unfolding sum
none_kept [] = refl
none_kept (f ∷ l) = omega (arith, none_kept l)

both_ways : (p : ℕ → ℕ → Bool) (es fs : List ℕ) → sum (map (λ e. length (keep (p e) fs)) es) ≡ sum (map (λ f. length (keep (λ e. p e f) es)) fs)
unfolding sum keep one_if
both_ways p [] fs = sym (none_kept fs)
both_ways p (e ∷ es) fs =
    ap (λ (n : ℕ). length (keep (p e) fs) + n) (both_ways p es fs)
    ∙ sym (add_row (p e) (λ f. length (keep (λ e. p e f) es)) (λ f. length (keep (λ e. p e f) (e ∷ es))) fs (λ f. go f (p e f) refl))
  where
    go : (f : ℕ) (b : Bool) → p e f ≡ b → length (keep (λ e. p e f) (e ∷ es)) ≡ one_if (p e f) + length (keep (λ e. p e f) es)
    go f true q = rw (q, keep) (omega arith)
    go f false q = rw (q, keep) (omega arith)

-- The sups of a rank are no more than the subs of the one above.
down_few : (s : Solid) (r : ℕ) → entries s (down r) ≤ entries s (up (suc r))
unfolding entries sups
down_few s r =
    let es = range 0 (size s r) in
    let fs = range 0 (size s (suc r)) in
    rw (both_ways (λ e f. holds eqb e (subs s (suc r) f)) es fs)
    (sum-le (λ f. length (keep (λ e. holds eqb e (subs s (suc r) f)) es)) (λ f. length (subs s (suc r) f)) fs
    (λ f m. pigeons eqb numbers (keep (λ e. holds eqb e (subs s (suc r) f)) es) (subs s (suc r) f)
    (once_keep (λ e. holds eqb e (subs s (suc r) f)) es (once_range 0 (size s r)))
    (λ e k. in_holds e (subs s (suc r) f) (in_keep (λ e. holds eqb e (subs s (suc r) f)) e es k).1)))

-- The lengths of a list's lists make a table.
lengths : (a : ℕ) (l : List (List ℕ)) (f : ℕ → ℕ) → ((e : ℕ) → e < length l → f (a + e) ≡ length (get_or l e [])) → map length l ≡ map f (range a (length l))
unfolding range
lengths a [] f h = refl
lengths a (x ∷ l) f h =
    ap₂ {C = List ℕ} (λ y ys. y ∷ ys) (sym (rw (add-zero a) at (h 0 (omega arith))))
    (lengths (suc a) l f (λ e k. let q : suc a + e ≡ a + suc e = omega arith in rw q (h (suc e) (omega arith))))

rank-entries : (s : Solid) (r : ℕ) → sum (map length (get_or s r [])) ≡ entries s (up r)
unfolding entries subs
rank-entries s r = ap sum (lengths 0 (get_or s r []) (λ e. length (subs s r e)) (λ e k. let q : 0 + e ≡ e = omega arith in rw q refl))

module _ (sh : Shape) (l : List ℕ) (h : Held sh l) where
  abbrev s : Solid
  s = abs_in sh l

  abbrev E : ℕ
  E = elements s

  abbrev I : ℕ
  I = solids.entries s

  -- ---- entries of a rank

  product : (r : ℕ) → entries s (up (suc r)) ≤ size s (suc r) * size s r
  unfolding entries
  product r =
      rw (length-range 0 (size s (suc r))) at
      (sum-under (λ e. length (subs s (suc r) e)) (size s r) (range 0 (size s (suc r)))
      (λ e m. rw (length-range 0 (size s r)) at
      (pigeons eqb numbers (subs s (suc r) e) (range 0 (size s r)) (rising_once (subs s (suc r) e) (h.sound.rising (suc r) e))
      (λ x k. in_range_lem 0 (size s r) x (omega arith) (omega (arith, h.sound.below r e x k))))))

  size_few : (r : ℕ) → r ≤ sh.rank → size s r ≤ max_count
  size_few r k = rw (size_is sh l r k) (h.few r k)

  -- The entries of ranks 2 to R − 1 are among I.
  stored_in_lem : (r : ℕ) → 2 ≤ r → r < sh.rank → entries s (up r) ≤ I
  unfolding solids.entries
  stored_in_lem r a b =
      rw (rank-entries s r) at
      (sum_has (λ q. sum (map length (get_or s q []))) (range 2 (top s - 2)) r (in_range_lem 2 (top s - 2) r a (omega (arith, top_is sh l))))

  pub least-one : size s 0 ≡ 1
  least-one = ap length h.sound.least

  pub top_one : size s sh.rank ≡ 1
  top_one = rw (top_is sh l) at h.sound.one

  up_few : (r : ℕ) → 1 ≤ r → r ≤ sh.rank → 2 ≤ sh.rank → entries s (up r) ≤ E + I
  up_few zero a b c = absurd (omega arith)
  up_few (suc zero) a b c =
      let p : entries s (up 1) ≤ size s 1 * 1 = rw least-one at (product 0) in
      omega (arith, proper_few sh l h 1 (omega arith) (omega arith))
  up_few (suc (suc q)) a b c = go (ℕ_discrete (suc (suc q)) sh.rank)
    where
      go : Dec (suc (suc q) ≡ sh.rank) → entries s (up (suc (suc q))) ≤ E + I
      go (yes e) =
          let o : size s (suc (suc q)) ≡ 1 = ap (size s) e ∙ top_one in
          let p : entries s (up (suc (suc q))) ≤ 1 * size s (suc q) = rw o at (product (suc q)) in
          omega (arith, proper_few sh l h (suc q) (omega arith) (omega arith))
      go (no e) = omega (arith, stored_in_lem (suc (suc q)) (omega arith) (omega arith))

  entries_few : (x : Step) → 1 ≤ at x → at x < sh.rank → entries s x ≤ E + I
  entries_few (up r) a b = up_few r a (omega arith) (omega arith)
  entries_few (down r) a b = omega (arith, down_few s r, up_few (suc r) (omega arith) (omega arith) (omega arith))

  -- ---- the limits

  elements_few : E ≤ (max_rank - 1) * max_count
  unfolding elements proper_ranks
  elements_few =
      let p = sum-under (λ q. size s q) max_count (range 1 (top s - 1)) (λ r m. size_few r (omega (arith, of_range 1 (top s - 1) r m, top_is sh l))) in
      let k : top s - 1 ≤ max_rank - 1 = omega (arith, top_is sh l, h.tall) in
      omega (arith, rw (length-range 1 (top s - 1)) at p)

  square : (r : ℕ) → suc r ≤ sh.rank → entries s (up (suc r)) ≤ max_count * max_count
  square r k =
      omega (arith, product r, mul-le-mul_left (size s (suc r)) (size_few r (omega arith)), size_few (suc r) k)

  stored_few : I ≤ (max_rank - 2) * (max_count * max_count)
  unfolding solids.entries
  stored_few =
      let p = sum-under (λ q. sum (map length (get_or s q []))) (max_count * max_count) (range 2 (top s - 2)) (λ r m. one r (of_range 2 (top s - 2) r m)) in
      let k : top s - 2 ≤ max_rank - 2 = omega (arith, top_is sh l, h.tall) in
      omega (arith, rw (length-range 2 (top s - 2)) at p)
    where
      one : (r : ℕ) → (2 ≤ r) × (r < 2 + (top s - 2)) → sum (map length (get_or s r [])) ≤ max_count * max_count
      one zero b = absurd (omega arith)
      one (suc r) b = rw (rank-entries s (suc r)) (square r (omega (arith, top_is sh l)))

  -- ---- all elements

  sizes_sum : (n a : ℕ) → a + n ≤ suc sh.rank → first_at sh (a + n) ≡ first_at sh a + sum (map (λ r. size s r) (range a n))
  unfolding sum range
  sizes_sum zero a k = rw (add-zero a) (omega arith)
  sizes_sum (suc n) a k =
      let e : a + suc n ≡ suc a + n = omega arith in
      rw e (omega (arith, size_is sh l a (omega arith), h.some a (omega arith), sizes_sum n (suc a) (omega arith)))

  -- The elements are the proper ones, the least and the top.
  total_is : 2 ≤ sh.rank → total sh ≡ E + 2
  unfolding elements proper_ranks
  total_is k =
      let a : 1 + (top s - 1) ≡ sh.rank = omega (arith, top_is sh l) in
      let p : first_at sh sh.rank ≡ first_at sh 1 + sum (map (λ r. size s r) (range 1 (top s - 1))) = rw a at (sizes_sum (top s - 1) 1 (omega (arith, top_is sh l))) in
      omega (arith, h.start, size_is sh l 0 (omega arith), least-one, h.some 0 (omega arith), size_is sh l sh.rank (omega arith), top_one, h.some sh.rank (omega arith))

  -- ---- the words

  sub-entries_few : 2 ≤ sh.rank → sub_entries sh I ≤ 2 * E + I
  sub-entries_few k = go sh.rank refl
    where
      go : (Q : ℕ) → sh.rank ≡ Q → sub_entries sh I ≤ 2 * E + I
      go zero e = absurd (omega arith)
      go (suc zero) e = absurd (omega arith)
      go (suc (suc z)) e =
          omega (
            arith,
            sub-entries_is sh I z e,
            size_is sh l 1 (omega arith),
            size_is sh l (suc z) (omega arith),
            proper_few sh l h 1 (omega arith) (omega arith),
            proper_few sh l h (suc z) (omega arith) (omega arith),
          )

  -- A step's words are bounded by the solid's counts.
  step_words : (x : Step) → 1 ≤ at x → at x < sh.rank → low_of sh I + total sh + 4 * size_at sh (at x) + entries s x ≤ 14 * E + 3 * I + 10
  unfolding low_of
  step_words x a b =
      omega (
        arith,
        total_is (omega arith),
        sub-entries_few (omega arith),
        size_is sh l (at x) (omega arith),
        proper_few sh l h (at x) a b,
        entries_few x a b,
      )

-- A "workspace under 16 times (E+I+4) 32-bit words" is refused. One that is not is enough, and its words can hold any place in it that a step uses.
room_enough : (sh : Shape) (w : List ℕ) → Held sh (lists_of sh w) → sh.low ≡ low_of sh (solids.entries (abs_in sh (lists_of sh w)))
    → solids.words_for (elements (abs_in sh (lists_of sh w))) (solids.entries (abs_in sh (lists_of sh w))) ≤ length w
    → (x : Step) → 1 ≤ at x → at x < sh.rank → (needed sh w x ≤ length w) × (needed sh w x < 2 ^ 32)
unfolding needed
room_enough sh w h e room x a b =
    let p = step_words sh (lists_of sh w) h x a b in
    (omega arith, omega (arith, elements_few sh (lists_of sh w) h, stored_few sh (lists_of sh w) h))

pub sweepable : (sh : Shape) (w : List ℕ) → Held sh (lists_of sh w) → sh.low ≡ low_of sh (solids.entries (abs_in sh (lists_of sh w)))
    → solids.words_for (elements (abs_in sh (lists_of sh w))) (solids.entries (abs_in sh (lists_of sh w))) ≤ length w → Sweepable sh w
sweepable sh w h e room = record {
  held = h;
  room = λ x a b. (room_enough sh w h e room x a b).0;
  small = λ x a b. (room_enough sh w h e room x a b).1;
}
