-- Section 1's sentence on the root leaves one value, since whatever satisfies it is `root`.
-- Assumes nothing.
use mathlib.Core.Path.{◌≡◌, sym, ap, ◌∙◌, subst}
use mathlib.Core.Logic.{◌⊎◌, inl, inr}
use Prim.Native.Nat.{ℕ, zero, suc, ◌+◌, ◌-◌, ◌*◌, ◌/◌, ◌%◌, ◌^◌, ◌≤◌, ◌<◌, compare, Ordering}
use native.Mathlib.Nat.{eq-or-lt_of_le, le_trans, le_of_eq, lt_of_lt_of_le, le_of_lt, lt_irrefl, zero-add, mul-one, mul_assoc, mul_comm, mul-le-mul_right, mod-lt, mod-eq_of_lt, div-eq_of_lt, div-add-mod', div-lt_iff_lt-mul, mul-lt-mul_of_pos_right}
use native.Mathlib.Omega.{arith}
use mathlib.Core.Bool.{Bool, true, false, ◌&&◌}
use lib.IntN.{ℤ}
use lib.Dec.{T, leb, ltb, eqb, ltb→lt, lit<}
use lib.Arith.{lt→nleb}
use lib.Pow.{pow-add, pow_pos}
use lib.Ieee.{Float, nan, inf, fin, binary64, low, up, down, size, odd, fits, of_fields, of_bits, to_bits}
use lib.Ieee.Digits.{size-le}
use lib.Ieee.Exact.{odd_sign}
use lib.Ieee.Fits.{and_r, down_pos, kept-lt}
use lib.Ieee.Bits.{is_false, of_bits-to_bits}
use lib.Ieee.Positive.{positive}
use Rattle.spec.specs.Float.{root}
use Rattle.spec.specs.Root.{in_units, above, below, scaled, IsRoot}
use Rattle.laws.proofs.RootIs.{units_of, fields-of, twice_pow, sq_le, Cmp, cmp, root_is}

-- ---- a pattern's value grows with the pattern

abbrev U : ℕ → ℕ
U b = in_units (of_bits binary64 b)

pub zero_field : (t : ℕ) → t < 2 ^ 52 → U t ≡ t
zero_field t h =
    ap in_units fields ∙ units_of (odd 53 false t 0 (low binary64)) (t * 2 ^ 0) (odd_sign 53 false t 0 (low binary64)) ∙ mul-one t
  where
    small : t < 2 ^ 63
    small = lt_of_lt_of_le h (omega arith)

    fields : of_bits binary64 t ≡ odd 53 false t 0 (low binary64)
    fields = unfold of_bits of_fields in
        ap (λ (s : Bool). of_fields binary64 s (t % 2 ^ 63 / 2 ^ 52) (t % 2 ^ 52)) (is_false (leb (2 ^ 63) t) (lt→nleb (2 ^ 63) t small))
        ∙ ap (λ (y : ℕ). of_fields binary64 false (y / 2 ^ 52) (t % 2 ^ 52)) (mod-eq_of_lt small)
        ∙ ap (λ (y : ℕ). of_fields binary64 false y (t % 2 ^ 52)) (div-eq_of_lt h)
        ∙ ap (λ (y : ℕ). of_fields binary64 false 0 y) (mod-eq_of_lt h)

some_field : (k t : ℕ) → k < 2046 → t < 2 ^ 52 → U (suc k * 2 ^ 52 + t) ≡ (2 ^ 52 + t) * 2 ^ k
some_field k t K h = ap in_units (fields-of k t K h) ∙ units_of (odd 53 false (2 ^ 52 + t) k (low binary64)) ((2 ^ 52 + t) * 2 ^ k) (odd_sign 53 false (2 ^ 52 + t) k (low binary64))

step : (x t : ℕ) → t < 2 ^ 52 → suc (x * 2 ^ 52 + t) < 2047 * 2 ^ 52 → U (x * 2 ^ 52 + t) ≤ U (suc (x * 2 ^ 52 + t))
step zero t h l = rw (zero-add t) (go (eq-or-lt_of_le h))
  where
    go : (suc t ≡ 2 ^ 52) ⊎ (suc t < 2 ^ 52) → U t ≤ U (suc t)
    go (inr g) = le_trans (le_of_eq (zero_field t h)) (le_trans (omega arith) (le_of_eq (sym (zero_field (suc t) g))))
    go (inl g) = le_trans (le_of_eq (zero_field t h)) (le_trans (omega arith) (le_of_eq (sym (ap U g ∙ some_field 0 0 (lit< tt) (lit< tt)))))
step (suc k) t h l = go (eq-or-lt_of_le h)
  where
    go : (suc t ≡ 2 ^ 52) ⊎ (suc t < 2 ^ 52) → U (suc k * 2 ^ 52 + t) ≤ U (suc (suc k * 2 ^ 52 + t))
    go (inr g) =
        let e : suc k * 2 ^ 52 + suc t ≡ suc (suc k * 2 ^ 52 + t) = omega arith in
        let c : 2 ^ 52 + t ≤ 2 ^ 52 + suc t = omega arith in
        le_trans (le_of_eq (some_field k t (omega arith) h)) (le_trans (mul-le-mul_right (2 ^ k) c) (le_of_eq (sym (some_field k (suc t) (omega arith) g) ∙ ap U e)))
    go (inl g) =
        let e : suc (suc k) * 2 ^ 52 + 0 ≡ suc (suc k * 2 ^ 52 + t) = omega arith in
        let c : 2 ^ 52 + t ≤ 2 ^ 53 = omega arith in
        le_trans (le_of_eq (some_field k t (omega arith) h)) (le_trans (mul-le-mul_right (2 ^ k) c) (le_of_eq (twice_pow k ∙ sym (some_field (suc k) 0 (omega arith) (lit< tt)) ∙ ap U e)))

next : (b : ℕ) → suc b < 2047 * 2 ^ 52 → U b ≤ U (suc b)
next b l =
    let e = div-add-mod' b (2 ^ 52) in
    subst (λ (y : ℕ). U y ≤ U (suc y)) e (step (b / 2 ^ 52) (b % 2 ^ 52) (mod-lt b (lit< tt)) (subst (λ (y : ℕ). suc y < 2047 * 2 ^ 52) (sym e) l))

grows : (a b : ℕ) → a ≤ b → b < 2047 * 2 ^ 52 → U a ≤ U b
grows a zero h l = let e : a ≡ 0 = omega arith in le_of_eq (ap U e)
grows a (suc b) h l = go (eq-or-lt_of_le h) (λ g. grows a b g (omega arith))
  where
    go : (a ≡ suc b) ⊎ (a < suc b) → (a ≤ b → U a ≤ U b) → U a ≤ U (suc b)
    go (inl e) f = le_of_eq (ap U e)
    go (inr g) f = le_trans (f (omega arith)) (next b l)

-- ---- the pattern of a positive value is that of a finite one

bound : (m : ℕ) (e : ℤ) → T (fits binary64 (fin false (suc m) e)) → suc m * up e < 2 ^ 1024 * down e
unfolding fits
bound m e h = ltb→lt (suc m * up e) (2 ^ 1024 * down e) (and_r (eqb (suc m % 2) 1 && ltb (suc m) (2 ^ 53) && leb (down e) (2 ^ 1074)) (ltb (suc m * up e) (2 ^ 1024 * down e)) h)

in_range_lem : (a d l : ℕ) → 0 < d → a < 2 ^ 1024 * d → a * 2 ^ l / d < 2 ^ (1024 + l)
in_range_lem a d l p h =
    (div-lt_iff_lt-mul p).1 (lt_of_lt_of_le (mul-lt-mul_of_pos_right h (pow_pos l)) (le_of_eq (mul_assoc (2 ^ 1024) d (2 ^ l) ∙ ap (λ (y : ℕ). 2 ^ 1024 * y) (mul_comm d (2 ^ l)) ∙ sym (mul_assoc (2 ^ 1024) (2 ^ l) d) ∙ ap (λ (y : ℕ). y * d) (sym (pow-add 2 1024 l)))))

pub finite-pattern : (r : Float) → T (fits binary64 r) → T (positive r) → to_bits binary64 r < 2047 * 2 ^ 52
unfolding to_bits
finite-pattern nan h p = absurd p
finite-pattern (inf s) h p = absurd p
finite-pattern (fin true m e) h p = absurd p
finite-pattern (fin false zero e) h p = absurd p
finite-pattern (fin false (suc m) e) h p =
    let n = suc m * up e * 2 ^ 1074 / down e in
    let a : size n ≤ 2098 = size-le n 2098 (in_range_lem (suc m * up e) (down e) 1074 (down_pos e) (bound m e h)) in
    let b : n / 2 ^ (size n - 53) < 2 ^ 53 = kept-lt 53 n in
    under (size n) (n / 2 ^ (size n - 53)) a b
  where
    under : (z y : ℕ) → z ≤ 2098 → y < 2 ^ 53 → 0 + (z - 53) * 2 ^ 52 + y < 2047 * 2 ^ 52
    under z y a b = omega arith

-- ---- of two values that both satisfy the sentence, neither pattern is below the other

apart : (x r s : Float) → IsRoot x r → IsRoot x s → to_bits binary64 r < to_bits binary64 s → ⊥
unfolding above below
apart x r s R S h =
    let a = to_bits binary64 r in
    let b = to_bits binary64 s in
    let l = finite-pattern s S.value S.sign in
    let er : U a ≡ in_units r = ap in_units (of_bits-to_bits binary64 r R.value) in
    let es : U b ≡ in_units s = ap in_units (of_bits-to_bits binary64 s S.value) in
    let p : U a ≤ U (b - 1) = grows a (b - 1) (omega arith) (omega arith) in
    let q : U (a + 1) ≤ U b = grows (a + 1) b (omega arith) l in
    let c : in_units r + U (a + 1) ≤ U (b - 1) + in_units s = omega arith in
    lt_irrefl (scaled x) (lt_of_lt_of_le R.under (le_trans (sq_le c) (le_of_lt S.over)))

pub same_root : (x r s : Float) → IsRoot x r → IsRoot x s → r ≡ s
same_root x r s R S = go (compare (to_bits binary64 r) (to_bits binary64 s)) (cmp (to_bits binary64 r) (to_bits binary64 s))
  where
    go : (o : Ordering) → Cmp o (to_bits binary64 r) (to_bits binary64 s) → r ≡ s
    go Ordering.lt h = absurd (apart x r s R S h)
    go Ordering.eq h = sym (of_bits-to_bits binary64 r R.value) ∙ ap (of_bits binary64) h ∙ of_bits-to_bits binary64 s S.value
    go Ordering.gt h = absurd (apart x s r S R h)

-- Whatever satisfies the sentence is `root`.
pub root_only : (x r : Float) → T (fits binary64 x) → T (positive x) → IsRoot x r → r ≡ root x
root_only x r h p R = same_root x r (root x) R (root_is x h p)
