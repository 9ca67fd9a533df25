-- The argument's pattern is taken apart into 53 digits, and the zeros after them in the square of the root in units.
-- Assumes nothing.
use mathlib.Core.Path.{◌≡◌, sym, ap, ◌∙◌, subst}
use Prim.Native.Nat.{ℕ, suc, ◌+◌, ◌-◌, ◌*◌, ◌/◌, ◌%◌, ◌^◌, ◌≤◌, ◌<◌}
use native.Mathlib.Nat.{le_trans, le_of_eq, lt_irrefl, lt_of_lt_of_le, lt_of_not-le, mul_assoc, mul-le-mul_right}
use native.Mathlib.Omega.{arith}
use lib.Count.{count_leading_zeros, leading_top}
use lib.Pow.{pow-add, pow_mono, shl_lt, shl_exact}
use lib.Ieee.{binary64, of_bits}
use Rattle.spec.specs.Root.{in_units}
use Rattle.laws.proofs.RootIs.{units_at}
use Rattle.laws.proofs.RootOnly.{zero_field}

-- The numbers d and z are the digits and the zeros of the argument with the pattern b.
abbrev pub IsArgument : ℕ → ℕ → ℕ → Type 0
IsArgument b d z = (2 ^ 52 ≤ d) × (d < 2 ^ 53) × (1022 ≤ z) × (z < 3120) × (d * 2 ^ z ≡ in_units (of_bits binary64 b) * 2 ^ 1074)

-- ---- an exponent's field of 0: the leading digit is moved up to its place

pub record Shifted (b s : ℕ) : Type 0 where
  pub most : s ≤ 52
  pub least : 2 ^ 52 ≤ b * 2 ^ s
  pub short : b * 2 ^ s < 2 ^ 53
  pub whole : b * 2 ^ s % 2 ^ 64 ≡ b * 2 ^ s

pub shifted : (b : ℕ) → 0 < b → b < 2 ^ 52 → (11 ≤ count_leading_zeros 64 b) × Shifted b (count_leading_zeros 64 b - 11)
shifted b p h = go (count_leading_zeros 64 b) t.0 t.1 t.2 t.3
  where
    t : (j : ℕ) × (count_leading_zeros 64 b + suc j ≡ 64) × (2 ^ j ≤ b) × (b < 2 ^ suc j)
    t = leading_top 64 b p (lt_of_lt_of_le h (omega arith))

    go : (l j : ℕ) → l + suc j ≡ 64 → 2 ^ j ≤ b → b < 2 ^ suc j → (11 ≤ l) × Shifted b (l - 11)
    go l j e lo hi =
        let k : j < 52 = lt_of_not-le (λ (n : 52 ≤ j). lt_irrefl b (lt_of_lt_of_le h (le_trans (pow_mono n) lo))) in
        let f : j + (l - 11) ≡ 52 = omega arith in
        let g : suc j + (l - 11) ≡ 53 = omega arith in (
          omega arith,
          record {
            most = omega arith;
            least = le_trans (le_of_eq (ap (λ (n : ℕ). 2 ^ n) (sym f) ∙ pow-add 2 j (l - 11))) (mul-le-mul_right (2 ^ (l - 11)) lo);
            short = lt_of_lt_of_le (shl_lt (suc j) (l - 11) hi) (le_of_eq (ap (λ (n : ℕ). 2 ^ n) g));
            whole = shl_exact (suc j) (l - 11) 64 hi (omega arith);
          },
        )

moved : (b s l : ℕ) → s ≤ l → b * 2 ^ s * 2 ^ (l - s) ≡ b * 2 ^ l
moved b s l h = let e : s + (l - s) ≡ l = omega arith in mul_assoc b (2 ^ s) (2 ^ (l - s)) ∙ ap (λ (x : ℕ). b * x) (sym (pow-add 2 s (l - s)) ∙ ap (λ (n : ℕ). 2 ^ n) e)

pub subnormal : (b s : ℕ) → b < 2 ^ 52 → Shifted b s → IsArgument b (b * 2 ^ s % 2 ^ 64) (1074 - s)
subnormal b s h S =
    let m = S.most in
    subst (λ (d : ℕ). IsArgument b d (1074 - s)) (sym S.whole)
    (S.least, S.short, omega arith, omega arith, moved b s 1074 (omega arith) ∙ ap (λ (x : ℕ). x * 2 ^ 1074) (sym (zero_field b h)))

-- ---- any other field: the leading digit is not written

pub normal : (b : ℕ) → (b / 2 ^ 52 ≡ 0 → ⊥) → b < 2047 * 2 ^ 52 → IsArgument b (b % 2 ^ 52 + 2 ^ 52) (b / 2 ^ 52 + 1073)
normal b n h =
    let k = b / 2 ^ 52 - 1 in
    let q = b % 2 ^ 52 + 2 ^ 52 in
    let p : 0 < b / 2 ^ 52 = omega arith in
    let e : k * 2 ^ 52 + q ≡ b = omega arith in
    let f : k + 1074 ≡ b / 2 ^ 52 + 1073 = omega arith in
    let lo : 2 ^ 52 ≤ q = omega arith in
    let hi : q < 2 ^ 53 = omega arith in
    let u : in_units (of_bits binary64 b) ≡ q * 2 ^ k = subst (λ (x : ℕ). in_units (of_bits binary64 x) ≡ q * 2 ^ k) e (units_at q k (omega arith) lo hi) in
    (lo, hi, omega arith, omega arith, ap (λ (z : ℕ). q * 2 ^ z) (sym f) ∙ ap (λ (x : ℕ). q * x) (pow-add 2 k 1074) ∙ sym (mul_assoc q (2 ^ k) (2 ^ 1074)) ∙ ap (λ (x : ℕ). x * 2 ^ 1074) (sym u))
