-- Refusal 3 goes by the pattern: a value is finite and of magnitude at most 1,048,576 exactly when its pattern, without the sign, is at most that
-- number's. So no pattern of a NaN is ever read as a float.
-- Assumes nothing.
use mathlib.Core.Path.{◌≡◌, refl, sym, ap, ◌∙◌, subst}
use mathlib.Core.Logic.{◌⊎◌, inl, inr}
use Prim.Native.Nat.{ℕ, zero, suc, ◌+◌, ◌*◌, ◌/◌, ◌%◌, ◌^◌, ◌≤◌, ◌<◌, compare, Ordering}
use native.Mathlib.Nat.{eq-or-lt_of_le, le_trans, le_of_eq, le_of_lt, lt_of_lt_of_le, lt_of_le_of_lt, mul-one, one-mul, mul_right_comm, mul-le-mul_right, mul-lt-mul_of_pos_right, le_of_mul-le-mul_right, lt_of_mul-lt-mul_right, mod-lt, mod-mod_of_dvd, dvd-mul_right, div-add-mod', div-lt_iff_lt-mul}
use native.Mathlib.Omega.{arith}
use mathlib.Core.Bool.{Bool, true, false, ◌&&◌, ◌||◌, cond}
use lib.IntN.{pos}
use lib.Dec.{leb, ltb, eqb, not_T, eqb→eq, lit<, lit≤}
use lib.Pow.{pow-add, pow_pos, pow_mono, pow-lt, shl_lt}
use lib.Ieee.{Float, nan, inf, fin, binary64, up, down, odd, le, lt, eq, of_fields, of_bits}
use lib.Ieee.Exact.{HasValue, odd_sign}
use lib.Ieee.Bits.{cond_no}
use lib.Ieee.Fits.{down_pos}
use borrow.Author.Tests.{lt-ltb, le-ltb, le-leb, lt-leb, leb-true, leb-false, eq-eqb, ne_eqb}
use Rattle.spec.specs.Limits.{max_magnitude}
use Rattle.spec.specs.Eval.{evaluate}
use Rattle.laws.proofs.RootIs.{Cmp, cmp}
use Rattle.spec.specs.Float.{abs_f, finite, in_range}

-- ---- tests on numbers

-- Two tests are one if each number order goes with the other.
same_leb : (a b c d : ℕ) → (a ≤ b → c ≤ d) → (b < a → d < c) → leb a b ≡ leb c d
same_leb a b c d f g = go (leb a b) refl
  where
    go : (t : Bool) → leb a b ≡ t → t ≡ leb c d
    go true e = sym (le-leb c d (f (leb-true a b e)))
    go false e = sym (lt-leb c d (g (leb-false a b e)))

-- One number is less than or equal to another exactly if it is less, or equal.
less_or_same : (a b : ℕ) → (ltb a b || (eqb a b && true)) ≡ leb a b
less_or_same a b = go (leb a b) refl
  where
    go : (t : Bool) → leb a b ≡ t → (ltb a b || (eqb a b && true)) ≡ t
    go false e = let h = leb-false a b e in let n : a ≡ b → ⊥ = λ q. omega arith in rw (le-ltb a b (omega arith), ne_eqb a b n)
    go true e = at (eq-or-lt_of_le (leb-true a b e))
      where
        at : (a ≡ b) ⊎ (a < b) → (ltb a b || (eqb a b && true)) ≡ true
        at (inl q) = rw (le-ltb a b (le_of_eq (sym q)), eq-eqb a b q)
        at (inr h) = rw (lt-ltb a b h)

-- ---- a finite value, in units of the smallest, 2 ^ -1074: the greatest magnitude, 2 ^ 20, is 2 ^ 1094 of them

greatest : max_magnitude ≡ fin false 1 (pos 20)
unfolding evaluate
greatest = refl

-- The two sides of the comparison may be multiplied across.
crossed : (x a d u g : ℕ) → 0 < d → 0 < u → x * u ≡ a * d → leb (x * 1) (1 * g * d) ≡ leb a (g * u)
crossed x a d u g p q e =
    same_leb (x * 1) (1 * g * d) a (g * u)
    (λ h. le_of_mul-le-mul_right (subst (λ (y : ℕ). y ≤ g * u * d) e (le_trans (mul-le-mul_right u (le_trans (le_of_eq (sym (mul-one x))) (le_trans h (le_of_eq (ap (λ (y : ℕ). y * d) (one-mul g)))))) (le_of_eq (mul_right_comm g d u)))) p)
    (λ h. lt_of_mul-lt-mul_right d (subst (λ (y : ℕ). g * u * d < y) e (lt_of_le_of_lt (le_of_eq (mul_right_comm g u d)) (mul-lt-mul_of_pos_right (lt_of_le_of_lt (le_of_eq (ap (λ (y : ℕ). y * d) (sym (one-mul g)))) (lt_of_lt_of_le h (le_of_eq (mul-one x)))) q))))

in_units_lem : (v : Float) (s : Bool) (a : ℕ) → HasValue v s a (2 ^ 1074) → in_range v ≡ leb a (2 ^ 1094)
unfolding in_range finite abs_f le lt eq
in_units_lem nan s a h = absurd h
in_units_lem (inf t) s a h = absurd h
in_units_lem (fin t m e) s a h =
    ap (λ (g : Float). le (fin false m e) g) greatest
    ∙ less_or_same (m * up e * 1) (1 * 2 ^ 20 * down e)
    ∙ crossed (m * up e) a (down e) (2 ^ 1074) (2 ^ 20) (down_pos e) (pow_pos 1074) h.1

-- ---- the three kinds of fields: no leading digit, a leading digit, and no finite value

abbrev most : ℕ
most = 1043 * 2 ^ 52

low-fields : (s : Bool) (t : ℕ) → t < 2 ^ 52 → in_range (of_fields binary64 s 0 t) ≡ leb (0 * 2 ^ 52 + t) most
unfolding of_fields
low-fields s t h =
    in_units_lem (odd 53 s t 0 1074) s (t * 2 ^ 0) (odd_sign 53 s t 0 1074)
    ∙ le-leb (t * 2 ^ 0) (2 ^ 1094) (le_trans (le_of_eq (mul-one t)) (le_trans (le_of_lt h) (pow_mono {i = 52} {j = 1094} (lit≤ tt))))
    ∙ sym (le-leb (0 * 2 ^ 52 + t) most (omega arith))

-- The test holds of a pattern with a leading digit.
shifted : (k t : ℕ) → t < 2 ^ 52 → leb ((2 ^ 52 + t) * 2 ^ k) (2 ^ 1094) ≡ leb (suc k * 2 ^ 52 + t) most
shifted k t h = go (compare k 1042) (cmp k 1042)
  where
    go : (o : Ordering) → Cmp o k 1042 → leb ((2 ^ 52 + t) * 2 ^ k) (2 ^ 1094) ≡ leb (suc k * 2 ^ 52 + t) most
    go Ordering.lt q =
        let c : 53 + k ≤ 1094 = omega arith in
        let d : 2 ^ 52 + t < 2 ^ 53 = omega arith in
        let e : (2 ^ 52 + t) * 2 ^ k ≤ 2 ^ 1094 = le_of_lt (lt_of_lt_of_le (shl_lt 53 k d) (pow_mono c)) in
        le-leb ((2 ^ 52 + t) * 2 ^ k) (2 ^ 1094) e ∙ sym (le-leb (suc k * 2 ^ 52 + t) most (omega arith))
    go Ordering.eq q =
        ap (λ (j : ℕ). leb ((2 ^ 52 + t) * 2 ^ j) (2 ^ 1094)) q
        ∙ same_leb ((2 ^ 52 + t) * 2 ^ 1042) (2 ^ 52 * 2 ^ 1042) (1043 * 2 ^ 52 + t) most
        (λ a. let b : 2 ^ 52 + t ≤ 2 ^ 52 = le_of_mul-le-mul_right a (pow_pos 1042) in omega arith)
        (λ a. let b : 2 ^ 52 < 2 ^ 52 + t = lt_of_mul-lt-mul_right (2 ^ 1042) a in omega arith)
        ∙ ap (λ (j : ℕ). leb (suc j * 2 ^ 52 + t) most) (sym q)
    go Ordering.gt q =
        let d : 2 ^ 52 ≤ 2 ^ 52 + t = omega arith in
        let e : 2 ^ 1095 ≤ (2 ^ 52 + t) * 2 ^ k = le_trans (pow_mono {i = 1095} {j = 52 + k} (omega arith)) (le_trans (le_of_eq (pow-add 2 52 k)) (mul-le-mul_right (2 ^ k) d)) in
        lt-leb ((2 ^ 52 + t) * 2 ^ k) (2 ^ 1094) (lt_of_lt_of_le (pow-lt {i = 1094} {j = 1095} (lit< tt)) e) ∙ sym (lt-leb (suc k * 2 ^ 52 + t) most (omega arith))

high_fields : (s : Bool) (k t : ℕ) → suc k < 2047 → t < 2 ^ 52 → in_range (of_fields binary64 s (suc k) t) ≡ leb (suc k * 2 ^ 52 + t) most
unfolding of_fields
high_fields s k t l h =
    let n : suc k ≡ 2047 → ⊥ = λ e. omega arith in
    ap in_range (cond_no (eqb (suc k) 2047) (cond (eqb t 0) (inf s) nan) (odd 53 s (2 ^ 52 + t) k 1074) (not_T (eqb (suc k) 2047) (λ p. n (eqb→eq (suc k) 2047 p))))
    ∙ in_units_lem (odd 53 s (2 ^ 52 + t) k 1074) s ((2 ^ 52 + t) * 2 ^ k) (odd_sign 53 s (2 ^ 52 + t) k 1074)
    ∙ shifted k t h

last-fields : (s : Bool) (x t : ℕ) → x ≡ 2047 → in_range (of_fields binary64 s x t) ≡ leb (x * 2 ^ 52 + t) most
unfolding of_fields in_range finite
last-fields s x t e = ap (λ (y : ℕ). in_range (of_fields binary64 s y t)) e ∙ none (eqb t 0) ∙ sym (lt-leb (x * 2 ^ 52 + t) most (omega arith))
  where
    none : (b : Bool) → in_range (cond b (inf s) nan) ≡ false
    none true = refl
    none false = refl

by-fields : (s : Bool) (x t : ℕ) → x < 2048 → t < 2 ^ 52 → in_range (of_fields binary64 s x t) ≡ leb (x * 2 ^ 52 + t) most
by-fields s zero t l h = low-fields s t h
by-fields s (suc k) t l h = go (eq-or-lt_of_le l)
  where
    go : (suc (suc k) ≡ 2048) ⊎ (suc (suc k) < 2048) → in_range (of_fields binary64 s (suc k) t) ≡ leb (suc k * 2 ^ 52 + t) most
    go (inl e) = let q : suc k ≡ 2047 = omega arith in last-fields s (suc k) t q
    go (inr g) = high_fields s k t (omega arith) h

-- The test of the pattern n is the test of its value.
pub on_board : (n : ℕ) → in_range (of_bits binary64 n) ≡ leb (n % 2 ^ 63) 0x4130_0000_0000_0000
unfolding of_bits
on_board n =
    let r = n % 2 ^ 63 in
    let e : n % 2 ^ 52 ≡ r % 2 ^ 52 = sym (mod-mod_of_dvd (2 ^ 52) n (dvd-mul_right (2 ^ 52) 2048)) in
    by-fields (leb (2 ^ 63) n) (r / 2 ^ 52) (n % 2 ^ 52) ((div-lt_iff_lt-mul (pow_pos 52)).1 (mod-lt n (pow_pos 63))) (mod-lt n (pow_pos 52))
    ∙ ap (λ (y : ℕ). leb y most) (ap (λ (y : ℕ). r / 2 ^ 52 * 2 ^ 52 + y) e ∙ div-add-mod' r (2 ^ 52))
