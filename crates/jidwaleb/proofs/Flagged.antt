-- The flags that a sheet's solid can have are bounded: from one rank to the second above it, there are at most the entries between times as many.
-- Assumes nothing.
use mathlib.Core.Path.{◌≡◌, refl, sym, ap, ◌∙◌}
use mathlib.Core.Logic.{inl, inr}
use mathlib.Core.Bool.{Bool, true, false}
use mathlib.Core.List.{List, [], ◌∷◌, ◌++◌, map}
use Prim.Native.Nat.{ℕ, zero, suc, ◌+◌, ◌-◌, ◌*◌, ◌^◌, ◌≤◌, ◌<◌, zero-le}
use native.Mathlib.Nat.{le_refl, le_trans, zero-mul, add-mul, mul-le-mul}
use native.Mathlib.Decide.{ℕ_discrete}
use native.Mathlib.Omega.{arith}
use borrow.Author.Tests.{ltb-true, ltb-false}
use lib.Dec.{eqb, ltb}
use lib.ListN.{length, get_or, length-map, get_or-eq_default}
use lib.Seq.{ext_get_or}
use Rattle.spec.specs.Limits.{max_rank, max_stored}
use Rattle.spec.specs.Lists.{In, holds, every, range, sum}
use Rattle.spec.specs.Types.{Solid, top, size, subs}
use Rattle.spec.specs.Demand.{RisingAbove, Rising, Sound}
use Rattle.spec.specs.Solid.{entries, between, diamond}
use Rattle.spec.specs.Flags.{Flag, flags_to, flags}
use Rattle.laws.proofs.Lists.{length-range, in_range_lem, map_same, get_or-map, get_d_table, length_table}
use Rattle.laws.proofs.Distinct.{pigeons}
use Rattle.laws.proofs.Counts.{numbers, keep_in, holds_in, sum-le}
use Rattle.laws.proofs.Carry.{rising_once}
use Rattle.laws.proofs.Marked.{every_in}
use Rattle.laws.proofs.FlagChange.{diamond-at}
use Rattle.laws.proofs.Accepted.{From}
use Rattle.element_types.proofs.Room.{sum-under}
use Rattle.types.proofs.Call.{length-join}

-- ---- sums

-- The sum over a rising list is at most the sum over all numbers that it lies among.
sum_some : (g : ℕ → ℕ) (c a n : ℕ) (l : List ℕ) → From a c l → c ≤ a + n → sum (map g l) ≤ sum (map g (range a n))
unfolding sum range From
sum_some g c a n [] h k = zero-le
sum_some g c a zero (x ∷ l) h k = absurd (omega (arith, h.0, h.1))
sum_some g c a (suc n) (x ∷ l) h k = go (ℕ_discrete x a) (λ w. sum_some g c (suc a) n l w (omega arith)) (λ w. sum_some g c (suc a) n (x ∷ l) w (omega arith))
  where
    go : Dec (x ≡ a) → (From (suc a) c l → sum (map g l) ≤ sum (map g (range (suc a) n)))
        → (From (suc a) c (x ∷ l) → g x + sum (map g l) ≤ sum (map g (range (suc a) n)))
        → g x + sum (map g l) ≤ g a + sum (map g (range (suc a) n))
    go (yes p) here later = omega (arith, ap g p, here (rw p at h.2))
    go (no m) here later = omega (arith, later (omega (arith, h.0), h.1, h.2))

rising_from : (c x : ℕ) (l : List ℕ) → RisingAbove x l → ((y : ℕ) → In y l → y < c) → From (suc x) c l
unfolding From
rising_from c x [] r b = tt
rising_from c x (y ∷ l) r b = (r.0, b y (inl refl), rising_from c y l r.1 (λ z m. b z (inr m)))

from_zero : (c : ℕ) (l : List ℕ) → Rising l → ((y : ℕ) → In y l → y < c) → From 0 c l
unfolding From
from_zero c [] r b = tt
from_zero c (x ∷ l) r b = (zero-le, b x (inl refl), rising_from c x l r (λ z m. b z (inr m)))

sum-times : (g : ℕ → ℕ) (k : ℕ) (l : List ℕ) → sum (map (λ x. g x * k) l) ≡ sum (map g l) * k
unfolding sum
sum-times g k [] = sym (zero-mul k)
sum-times g k (x ∷ l) = ap (λ (n : ℕ). g x * k + n) (sum-times g k l) ∙ sym (add-mul (g x) (sum (map g l)) k)

by_number : (ls : List (List ℕ)) → sum (map (λ e. length (get_or ls e [])) (range 0 (length ls))) ≡ sum (map length ls)
by_number ls =
    let n = length_table (λ e. length (get_or ls e [])) (length ls) in
    ap sum (ext_get_or 0 _ (map length ls) (n ∙ sym (length-map ls length)) λ e h.
    let k : e < length ls = omega (arith, n) in
    get_d_table (λ i. length (get_or ls i [])) 0 (length ls) e k ∙ sym (get_or-map length [] 0 ls e k))

-- ---- flags up to an element

module _ (s : Solid) (v : Sound s) where
  abbrev many : ℕ → ℕ → ℕ
  many r e = length (flags_to s r e)

  many-sum : (r e : ℕ) → many (suc r) e ≡ sum (map (many r) (subs s (suc r) e))
  unfolding flags_to
  many-sum r e =
      length-join _ (subs s (suc r) e) ∙ ap sum (map_same _ (many r) (subs s (suc r) e) (λ f m. length-map (flags_to s r f) (λ (F : Flag). F ++ (e ∷ []))))

  subs_few : (r e : ℕ) → length (subs s (suc r) e) ≤ size s r
  subs_few r e =
      rw (length-range 0 (size s r)) at
      (pigeons eqb numbers (subs s (suc r) e) (range 0 (size s r)) (rising_once (subs s (suc r) e) (v.rising (suc r) e))
      (λ x m. in_range_lem 0 (size s r) x (omega arith) (omega (arith, v.below r e x m))))

  -- One rank up, an element has at most k flags for each of its subs.
  next : (r k : ℕ) → ((f : ℕ) → many r f ≤ k) → (e : ℕ) → many (suc r) e ≤ length (subs s (suc r) e) * k
  next r k h e = rw (many-sum r e) (sum-under (many r) k (subs s (suc r) e) (λ f m. h f))

  -- Two ranks up, each pair of an element between and a sub of it is met once.
  over : (r k : ℕ) → ((f : ℕ) → many r f ≤ k) → (e : ℕ) → many (suc (suc r)) e ≤ sum (map length (get_or s (suc r) [])) * k
  unfolding subs
  over r k h e =
      let g : ℕ → ℕ = λ f. length (subs s (suc r) f) * k in
      let l = subs s (suc (suc r)) e in
      let a = sum-le (many (suc r)) g l (λ f m. next r k h f) in
      let b = sum_some g (size s (suc r)) 0 (size s (suc r)) l (from_zero (size s (suc r)) l (v.rising (suc (suc r)) e) (v.below (suc r) e)) (omega arith) in
      let c = sum-times (λ f. length (subs s (suc r) f)) k (range 0 (size s (suc r))) ∙ ap (λ (n : ℕ). n * k) (by_number (get_or s (suc r) [])) in
      omega (arith, many-sum (suc r) e, a, b, c)

-- ---- the flags of a solid

-- This many flags at most go down from an element of rank r: one from a vertex, two from an edge, and from two ranks up as many for each entry.
unfoldable flag_limit : ℕ → ℕ
flag_limit zero = 1
flag_limit (suc zero) = 1
flag_limit (suc (suc zero)) = 2
flag_limit (suc (suc (suc r))) = max_stored * flag_limit (suc r)

-- A code has 32 bits for the count, and no rank that a sheet can have needs more. Of the proofs of this crate, only this one asks how great the limits are.
limits_fit : every (λ r. ltb (flag_limit r) (2 ^ 32)) (range 0 (suc max_rank)) ≡ true
unfolding every range flag_limit
limits_fit = refl

module _ (s : Solid) (v : Sound s) (d : diamond s ≡ true) (filled : (r e : ℕ) → e < size s (suc r) → 0 < length (subs s (suc r) e)) (few : entries s ≤ max_stored) where
  entries_in : (r : ℕ) → 2 ≤ r → r < top s → sum (map length (get_or s r [])) ≤ max_stored
  unfolding entries sum From
  entries_in r a b = omega (arith, few, sum_some (λ q. sum (map length (get_or s q []))) (suc r) 2 (top s - 2) (r ∷ []) (a, omega arith, tt) (omega arith))

  at_one : (e : ℕ) → many s v 1 e ≤ 1
  unfolding flags_to
  at_one e = omega (arith, next s v 0 1 (λ f. omega arith) e, subs_few s v 0 e, ap length v.least)

  -- Each vertex has the least element as a sub.
  on_least : (x : ℕ) → x < size s 1 → In 0 (subs s 1 x)
  on_least x h = go (subs s 1 x) (filled 0 x h) (λ y m. omega (arith, v.below 0 x y m, ap length v.least))
    where
      go : (l : List ℕ) → 0 < length l → ((y : ℕ) → In y l → 0 ≡ y) → In 0 l
      go [] k f = absurd (omega arith)
      go (y ∷ l) k f = inl (f y (inl refl))

  -- So all vertices of an edge lie between it and the least element, and the diamond says how many they are.
  ends-two : 1 < top s → (e : ℕ) → length (subs s 2 e) ≤ 2
  unfolding subs between
  ends-two h e = at-rank (ltb e (size s 2)) refl
    where
      at-sub : (x : ℕ) → In x (subs s 2 e) → e < size s 2 → length (subs s 2 e) ≤ 2
      at-sub x m k =
          rw (diamond-at s d 1 (omega arith) h e 0 x k m (on_least x (v.below 1 e x m))) at
          (pigeons eqb numbers (subs s 2 e) (between s 1 e 0) (rising_once (subs s 2 e) (v.rising 2 e)) λ y n.
          keep_in (λ f. holds eqb 0 (subs s 1 f)) y (subs s 2 e) n (holds_in 0 (subs s 1 y) (on_least y (v.below 1 e y n))))

      some : e < size s 2 → (l : List ℕ) → subs s 2 e ≡ l → length (subs s 2 e) ≤ 2
      some k [] p = rw p (omega arith)
      some k (x ∷ l) p = at-sub x (rw p (inl refl)) k

      at-rank : (b : Bool) → ltb e (size s 2) ≡ b → length (subs s 2 e) ≤ 2
      at-rank true p = some (ltb-true e (size s 2) p) (subs s 2 e) refl
      at-rank false p = rw (get_or-eq_default (get_or s 2 []) [] {n = e} (ltb-false e (size s 2) p)) (omega arith)

  at-two : 1 < top s → (e : ℕ) → many s v 2 e ≤ 2
  at-two h e = omega (arith, next s v 1 1 at_one e, ends-two h e)

  above : (r k : ℕ) → 1 ≤ r → suc r < top s → ((f : ℕ) → many s v r f ≤ k) → (e : ℕ) → many s v (suc (suc r)) e ≤ max_stored * k
  above r k a b h e = le_trans (over s v r k h e) (mul-le-mul (entries_in (suc r) (omega arith) b) (le_refl k))

  to_rank : (r : ℕ) → r ≤ top s → (e : ℕ) → many s v r e ≤ flag_limit r
  unfolding flags_to flag_limit
  to_rank zero h e = omega arith
  to_rank (suc zero) h e = at_one e
  to_rank (suc (suc zero)) h e = at-two h e
  to_rank (suc (suc (suc r))) h e = above (suc r) (flag_limit (suc r)) (omega arith) (omega arith) (to_rank (suc r) (omega arith)) e

  pub few_flags : top s ≤ max_rank → length (flags s) < 2 ^ 32
  unfolding flags
  few_flags h =
      omega (
        arith,
        to_rank (top s) (omega arith) 0,
        ltb-true (flag_limit (top s)) (2 ^ 32) (every_in (λ r. ltb (flag_limit r) (2 ^ 32)) (range 0 (suc max_rank)) limits_fit (top s) (in_range_lem 0 (suc max_rank) (top s) (omega arith) (omega arith))),
      )
