-- The magnitude goes by two tests against 0, and each public lemma is one of the three ways through the tests.
-- Assumes nothing.
use mathlib.Core.Path.{◌≡◌, refl, sym, ap, ◌∙◌}
use mathlib.Core.Bool.{Bool, true, false, ◌&&◌, ◌||◌}
use Prim.Native.Nat.{ℕ, zero, suc, ◌+◌, ◌*◌, ◌^◌, ◌<◌}
use native.Mathlib.Nat.{zero-mul, mul-pos, zero-lt-suc, pow-suc}
use native.Mathlib.Decide.{ℕ_discrete}
use native.Mathlib.Omega.{arith}
use lib.IntN.{ℤ, pos, negsuc}
use lib.Ieee.{Float, nan, inf, fin, binary64, of_bits, fits, lt, eq, le, neg, up, down}
use lib.Dec.{eqb, ltb}
use lib.Ieee.Fits.{up_pos}
use borrow.Author.Tests.{eqb-true, eqb-false, eq-eqb, ne_eqb, ltb-true, ltb-false, lt-ltb}
use Rattle.spec.specs.Float.{abs_f}

pub below-zero : (x : Float) → lt x (of_bits binary64 0) ≡ true → neg x ≡ abs_f x
unfolding lt neg abs_f of_bits
below-zero nan h = cc
below-zero (inf false) h = cc
below-zero (inf true) h = refl
below-zero (fin false m e) h = absurd (omega (arith, ltb-true (m * up e * 1) (0 * down e) h, zero-mul (down e)))
below-zero (fin true m e) h = refl

-- A zero that fits is written with the exponent 0.
zero_is : (s : Bool) (e : ℤ) → fits binary64 (fin s 0 e) ≡ true → e ≡ pos 0
unfolding fits
zero_is s (pos zero) h = refl
zero_is s (pos (suc k)) h = absurd (omega (arith, eqb-true (2 ^ suc k * 1) 1 h, pow-suc 2 k))
zero_is s (negsuc k) h = absurd (omega (arith, eqb-true (1 * 2 ^ suc k) 1 h, pow-suc 2 k))

and_left : (p q : Bool) → p && q ≡ true → p ≡ true
and_left false q h = h
and_left true q h = refl

-- The magnitude of a number that is not zero is not zero.
some : (m : ℕ) (e : ℤ) → 0 < suc m * up e
some m e = mul-pos (zero-lt-suc m) (up_pos e)

pub at_zero : (x : Float) → fits binary64 x ≡ true → eq x (of_bits binary64 0) ≡ true → of_bits binary64 0 ≡ abs_f x
unfolding eq abs_f of_bits
at_zero nan f h = cc
at_zero (inf s) f h = cc
at_zero (fin s zero e) f h = ap (fin false 0) (sym (zero_is s e f))
at_zero (fin s (suc m) e) f h = absurd (omega (arith, eqb-true (suc m * up e * 1) (0 * down e) (and_left _ _ h), zero-mul (down e), some m e))

pub above_zero : (x : Float) → lt x (of_bits binary64 0) ≡ false → eq x (of_bits binary64 0) ≡ false → x ≡ abs_f x
unfolding lt eq abs_f of_bits
above_zero nan h k = refl
above_zero (inf false) h k = refl
above_zero (inf true) h k = cc
above_zero (fin false m e) h k = refl
above_zero (fin true zero e) h k = let z = simp zero-mul at k in cc
above_zero (fin true (suc m) e) h k = absurd (omega (arith, ltb-false 0 (suc m * up e * 1 + 0 * down e) h, some m e))

-- ---- at most a limit, by one comparison on each side of 0

-- What is below 0 or 0 is at most what is not below 0.
under : (a b : ℕ) → (ltb 0 (a + b) || (eqb a b && (false || eqb a 0))) ≡ true
under zero zero = refl
under zero (suc b) = rw (lt-ltb 0 (zero + suc b) (omega arith))
under (suc a) b = rw (lt-ltb 0 (suc a + b) (omega arith))

and_true : (p : Bool) → p ≡ (p && true)
and_true true = refl
and_true false = refl

or_true : (p : Bool) → (p || true) ≡ true
or_true true = refl
or_true false = refl

eqb_swap : (a b : ℕ) → eqb a b ≡ eqb b a
eqb_swap a b = go (eqb b a) refl
  where
    go : (t : Bool) → eqb b a ≡ t → eqb a b ≡ t
    go true e = eq-eqb a b (sym (eqb-true b a e))
    go false e = ne_eqb a b (λ h. eqb-false b a e (sym h))

-- Below a limit that is negative, or a zero with a sign, lies at most a zero.
above_negative : (a b : ℕ) → ((eqb a b && (false || eqb a 0)) && (ltb b a || (eqb b a && true))) ≡ (eqb a b && (false || eqb a 0))
above_negative a b = rw (eqb_swap b a) (go (eqb a b) (eqb a 0) (ltb b a))
  where
    go : (p q r : Bool) → ((p && (false || q)) && (r || (p && true))) ≡ (p && (false || q))
    go false q r = refl
    go true q r = rw (or_true r) (sym (and_true (false || q)))

below_negative : (a b : ℕ) → ((ltb b a || (eqb a b && true)) && (eqb b a && (false || eqb b 0))) ≡ (eqb a b && (false || eqb a 0))
below_negative a b = go (ℕ_discrete a b)
  where
    go : Dec (a ≡ b) → ((ltb b a || (eqb a b && true)) && (eqb b a && (false || eqb b 0))) ≡ (eqb a b && (false || eqb a 0))
    go (yes e) = rw (e, eq-eqb b b refl, or_true (ltb b b))
    go (no n) = rw (ne_eqb a b n, ne_eqb b a (λ h. n (sym h))) (nothing (ltb b a || false))
      where
        nothing : (p : Bool) → (p && false) ≡ false
        nothing true = refl
        nothing false = refl

within_is : (x w : Float) → (le x w && le (neg w) x) ≡ le (abs_f x) w
unfolding le lt eq neg abs_f
within_is nan w = refl
within_is (inf s) nan = refl
within_is (fin s m e) nan = refl
within_is (inf false) (inf false) = refl
within_is (inf false) (inf true) = refl
within_is (inf true) (inf false) = refl
within_is (inf true) (inf true) = refl
within_is (inf false) (fin t n d) = refl
within_is (inf true) (fin t n d) = refl
within_is (fin s m e) (inf false) = refl
within_is (fin s m e) (inf true) = refl
within_is (fin false m e) (fin false n d) = rw (under (n * up d * down e) (m * up e * down d)) (sym (and_true _))
within_is (fin true m e) (fin false n d) = rw (under (m * up e * down d) (n * up d * down e), eqb_swap (n * up d * down e) (m * up e * down d))
within_is (fin false m e) (fin true n d) = above_negative (m * up e * down d) (n * up d * down e)
within_is (fin true m e) (fin true n d) = below_negative (m * up e * down d) (n * up d * down e)

-- So where the number is not above the limit, the test of the other side decides; where it is above, the magnitude is too.
pub not_above : (x w : Float) → le x w ≡ true → le (neg w) x ≡ le (abs_f x) w
not_above x w h = rw h at (within_is x w)

pub is_above : (x w : Float) → le x w ≡ false → le x w ≡ le (abs_f x) w
is_above x w h = h ∙ rw h at (within_is x w)
