-- The root's pattern comes from the whole part of the root of the digits kept.
-- Assumes nothing.
use mathlib.Core.Path.{◌≡◌, refl, sym, ap, ◌∙◌, subst}
use Prim.Native.Nat.{ℕ, suc, ◌+◌, ◌-◌, ◌*◌, ◌/◌, ◌%◌, ◌^◌, ◌≤◌, ◌<◌, compare, Ordering}
use native.Mathlib.Nat.{le_trans, le_of_eq, le_of_lt, lt_irrefl, lt_of_lt_of_le, lt_of_le_of_lt, mul_assoc, mul-one, mul-le-mul_left, mul-lt-mul_of_pos_right, mul-div_cancel}
use native.Mathlib.Numerals.{add-one}
use native.Mathlib.Omega.{arith}
use mathlib.Core.Bool.{false}
use lib.Pow.{pow-add, pow_pos, pow_mono, shl_lt, shl_exact}
use lib.Ieee.{Float, binary64, size, nearest, units, of_bits}
use lib.Ieee.Bits.{of_bits-to_bits}
use Rattle.spec.specs.Float.{root_down, root_units}
use Rattle.laws.proofs.RootIs.{sq_twice, sq_suc, four-two, four_pos, DigitsKept, kept_is, digits_of, at_units, units_fit, pattern-at, Cmp, cmp}
use Rattle.float.proofs.root.Digits.{Root}

-- ---- an even number of zeros dropped

pub record Even (d z : ℕ) : Type 0 where
  pub least : 2 ^ 52 ≤ d * 2 ^ (z % 2)
  pub short : d * 2 ^ (z % 2) < 2 ^ 54
  pub whole : d * 2 ^ (z % 2) % 2 ^ 64 ≡ d * 2 ^ (z % 2)

pub even : (d z : ℕ) → 2 ^ 52 ≤ d → d < 2 ^ 53 → Even d z
even d z lo hi =
    let p : z % 2 ≤ 1 = omega arith in
    let e : 53 + z % 2 ≤ 54 = omega arith in
    record {
      least = le_trans lo (le_trans (le_of_eq (sym (mul-one d))) (mul-le-mul_left d (pow_pos (z % 2))));
      short = lt_of_lt_of_le (shl_lt 53 (z % 2) hi) (pow_mono e);
      whole = shl_exact 53 (z % 2) 64 hi (omega arith);
    }

-- ---- what `root_units` is, once the digits kept and dropped are known

abbrev rounding : ℕ → ℕ → ℕ → Float
rounding n k q = units binary64 false (nearest q (compare (4 * n) ((2 * q + 1) * (2 * q + 1) * 4 ^ k))) k

root_units-at : (n k q : ℕ) → (size n + 1) / 2 - 53 ≡ k → root_down 53 (n / 4 ^ k) ≡ q → root_units n ≡ rounding n k q
unfolding root_units
root_units-at n k q e f = ap (λ (k : ℕ). rounding n k (root_down 53 (n / 4 ^ k))) e ∙ ap (λ (q : ℕ). rounding n k q) f

nearest_up : (q a b : ℕ) → b < a → nearest q (compare a b) ≡ suc q
nearest_up q a b h = go (compare a b) (cmp a b)
  where
    go : (o : Ordering) → Cmp o a b → nearest q o ≡ suc q
    go Ordering.lt l = absurd (lt_irrefl a (lt_of_lt_of_le l (le_of_lt h)))
    go Ordering.eq e = absurd (lt_irrefl b (lt_of_lt_of_le h (le_of_eq e)))
    go Ordering.gt l = refl

nearest_down : (q a b : ℕ) → a < b → nearest q (compare a b) ≡ q
nearest_down q a b h = go (compare a b) (cmp a b)
  where
    go : (o : Ordering) → Cmp o a b → nearest q o ≡ q
    go Ordering.lt l = refl
    go Ordering.eq e = absurd (lt_irrefl a (lt_of_lt_of_le h (le_of_eq (sym e))))
    go Ordering.gt l = absurd (lt_irrefl a (lt_of_lt_of_le h (le_of_lt l)))

-- This is the square of twice a midpoint.
odd_square : (q : ℕ) → (2 * q + 1) * (2 * q + 1) ≡ 4 * (q * q) + 4 * q + 1
odd_square q =
    let e : 2 * q + 1 ≡ suc (2 * q) = omega arith in
    let s = sq_suc (2 * q) in
    let t = sq_twice q in
    ap (λ (x : ℕ). x * x) e ∙ omega arith

-- ---- the pattern

written : (p k : ℕ) → 2 ^ 52 ≤ p → p ≤ 2 ^ 53 → 0 < k → k < 2000 → of_bits binary64 (k * 2 ^ 52 + p) ≡ units binary64 false p k
written p k lo hi z h =
    ap (of_bits binary64) (sym (pattern-at (units binary64 false p k) p k (at_units p k lo hi z h))) ∙ of_bits-to_bits binary64 (units binary64 false p k) (units_fit p k hi h)

-- These are the number of zeros that are dropped from a root with z in its square, and what is kept of the square.
abbrev K : ℕ → ℕ
K z = (z - 52) / 2

abbrev N : ℕ → ℕ → ℕ
N d z = d * 2 ^ (z % 2) * 2 ^ 52

-- The number n is d with z zeros after it, and q is the whole part of the root of d with 52 zeros or 53, an even number less than z.
module _ (n d z q c : ℕ) (lo : 2 ^ 52 ≤ d) (hi : d < 2 ^ 53) (least : 1022 ≤ z) (most : z < 3120) (e : d * 2 ^ z ≡ n) (r : Root 53 (d * 2 ^ (z % 2) * 2 ^ 52) q c) where
  spread : n ≡ N d z * 4 ^ K z
  spread =
      let s : z ≡ z % 2 + (52 + (K z + K z)) = omega arith in
      sym e ∙ ap (λ (x : ℕ). d * 2 ^ x) s ∙ ap (λ (x : ℕ). d * x) (pow-add 2 (z % 2) (52 + (K z + K z))) ∙ sym (mul_assoc d (2 ^ (z % 2)) (2 ^ (52 + (K z + K z))))
      ∙ ap (λ (x : ℕ). d * 2 ^ (z % 2) * x) (pow-add 2 52 (K z + K z)) ∙ sym (mul_assoc (d * 2 ^ (z % 2)) (2 ^ 52) (2 ^ (K z + K z))) ∙ ap (λ (x : ℕ). N d z * x) (sym (four-two (K z)))

  long : size n ≡ 53 + z
  long = ap size (sym e) ∙ digits_of d z lo hi

  dropped : (size n + 1) / 2 - 53 ≡ K z
  dropped = let s = long in omega arith

  kept : root_down 53 (n / 4 ^ K z) ≡ q
  kept = ap (λ (x : ℕ). root_down 53 (x / 4 ^ K z)) spread ∙ ap (root_down 53) (mul-div_cancel (N d z) (four_pos (K z))) ∙ sym r.0

  is_kept : DigitsKept n (K z) q
  is_kept = let s = long in subst (λ (x : ℕ). DigitsKept n (K z) x) kept (kept_is n (K z) (sym dropped) (omega arith))

  -- The number and the midpoint's square, each four times, keep their order.
  four : 4 * n ≡ 4 * N d z * 4 ^ K z
  four = ap (λ (x : ℕ). 4 * x) spread ∙ sym (mul_assoc 4 (N d z) (4 ^ K z))

  pub root_short : q < 2 ^ 53
  root_short = is_kept.most

  pub rounded_up : q < c → of_bits binary64 (K z * 2 ^ 52 + (q + 1)) ≡ root_units n
  rounded_up h =
      let s = odd_square q in
      let v = r.1 in
      let l : (2 * q + 1) * (2 * q + 1) * 4 ^ K z < 4 * n = lt_of_lt_of_le (mul-lt-mul_of_pos_right {m = (2 * q + 1) * (2 * q + 1)} {n = 4 * N d z} (omega arith) (four_pos (K z))) (le_of_eq (sym four)) in
      let a = is_kept.least in
      let b = is_kept.most in
      ap (λ (x : ℕ). of_bits binary64 (K z * 2 ^ 52 + x)) (add-one q) ∙ written (suc q) (K z) (omega arith) (omega arith) (omega arith) (omega arith)
      ∙ ap (λ (x : ℕ). units binary64 false x (K z)) (sym (nearest_up q (4 * n) ((2 * q + 1) * (2 * q + 1) * 4 ^ K z) l)) ∙ sym (root_units-at n (K z) q dropped kept)

  pub rounded_down : c ≤ q → of_bits binary64 (K z * 2 ^ 52 + q) ≡ root_units n
  rounded_down h =
      let s = odd_square q in
      let v = r.1 in
      let l : 4 * n < (2 * q + 1) * (2 * q + 1) * 4 ^ K z = lt_of_le_of_lt (le_of_eq four) (mul-lt-mul_of_pos_right {m = 4 * N d z} {n = (2 * q + 1) * (2 * q + 1)} (omega arith) (four_pos (K z))) in
      let a = is_kept.least in
      let b = is_kept.most in
      written q (K z) (omega arith) (omega arith) (omega arith) (omega arith)
      ∙ ap (λ (x : ℕ). units binary64 false x (K z)) (sym (nearest_down q (4 * n) ((2 * q + 1) * (2 * q + 1) * 4 ^ K z) l)) ∙ sym (root_units-at n (K z) q dropped kept)
