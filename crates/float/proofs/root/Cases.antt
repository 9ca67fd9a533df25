-- This file gives the root of each kind of argument, as the tests against zero and the infinity's pattern tell them apart.
-- Assumes nothing.
use mathlib.Core.Path.{◌≡◌, refl, sym, ap, ◌∙◌, subst}
use mathlib.Core.Logic.{◌⊎◌, inl, inr}
use Prim.Native.Nat.{ℕ, zero, suc, ◌+◌, ◌*◌, ◌^◌, ◌≤◌, ◌<◌}
use native.Mathlib.Nat.{lt_irrefl, lt_of_lt_of_le, zero-lt-suc, eq-zero-or-pos, mul-pos, mul_assoc}
use native.Mathlib.Omega.{arith}
use mathlib.Core.Bool.{Bool, true, false, not, true≢false}
use lib.Dec.{T, ltb→lt, lt→ltb, nltb→le}
use lib.Pow.{pow-add}
use lib.Ieee.{Float, nan, inf, fin, binary64, up, down, div, lt, fits, is_nan, nan_bits, of_bits, to_bits}
use lib.Ieee.Bits.{of_bits-to_bits, nan_bits_is}
use lib.Ieee.Fits.{up_pos}
use lib.Ieee.Positive.{positive, first_pos}
use Rattle.spec.specs.Float.{root_units, root}
use Rattle.spec.specs.Root.{in_units}
use Rattle.laws.proofs.RootIs.{argument, root_is}
use Rattle.laws.proofs.RootOnly.{finite-pattern}

yes_of : {b : Bool} → b ≡ true → T b
yes_of e = subst T (sym e) tt

no_of : {b : Bool} → b ≡ false → T (not b)
no_of e = subst (λ (b : Bool). T (not b)) (sym e) tt

-- ---- the tests

abbrev zero_of : Float
zero_of = of_bits binary64 0

-- An argument above zero is the infinity or positive and finite.
pub above : (x : Float) → lt zero_of x ≡ true → (x ≡ inf false) ⊎ T (positive x)
unfolding lt of_bits
above nan e = absurd (true≢false (sym e))
above (inf true) e = absurd (true≢false (sym e))
above (inf false) e = inl refl
above (fin true m d) e = absurd (true≢false (sym e))
above (fin false m d) e = let l = ltb→lt (0 * down d) (m * up d * 1) (yes_of e) in inr (lt→ltb 0 m (first_pos m (up d) (omega arith)))

-- The root of an argument below zero is NaN.
pub below : (x : Float) → lt x zero_of ≡ true → nan ≡ root x
unfolding lt of_bits root
below nan e = absurd (true≢false (sym e))
below (inf true) e = refl
below (inf false) e = absurd (true≢false (sym e))
below (fin true zero d) e = let l = ltb→lt 0 (0 * up d * 1 + 0 * down d) (yes_of e) in absurd (none l)
  where
    none : 0 < 0 * up d * 1 + 0 * down d → ⊥
    none l = omega arith
below (fin true (suc m) d) e = refl
below (fin false m d) e = absurd (none (ltb→lt (m * up d * 1) (0 * down d) (yes_of e)))
  where
    none : m * up d * 1 < 0 * down d → ⊥
    none l = omega arith

-- An argument that is neither above nor below zero is its own root.
pub neither : (x : Float) → lt zero_of x ≡ false → lt x zero_of ≡ false → x ≡ root x
unfolding lt of_bits root
neither nan e f = refl
neither (inf true) e f = absurd (true≢false f)
neither (inf false) e f = absurd (true≢false e)
neither (fin true zero d) e f = refl
neither (fin false zero d) e f = refl
neither (fin true (suc m) d) e f = absurd (none (mul-pos (zero-lt-suc m) (up_pos d)) (nltb→le 0 (suc m * up d * 1 + 0 * down d) (no_of f)))
  where
    none : 0 < suc m * up d → suc m * up d * 1 + 0 * down d ≤ 0 → ⊥
    none p l = omega arith
neither (fin false (suc m) d) e f = absurd (none (mul-pos (zero-lt-suc m) (up_pos d)) (nltb→le (0 * down d) (suc m * up d * 1) (no_of e)))
  where
    none : 0 < suc m * up d → suc m * up d * 1 ≤ 0 * down d → ⊥
    none p l = omega arith

pub nan_is : nan ≡ div binary64 zero_of zero_of
unfolding div of_bits
nan_is = refl

-- ---- above zero, by the pattern

pub no_nan : (x : Float) → lt zero_of x ≡ true → T (not (is_nan x))
unfolding lt is_nan of_bits
no_nan nan e = absurd (true≢false (sym e))
no_nan (inf s) e = tt
no_nan (fin s m d) e = tt

pub finite_is : (x : Float) → lt zero_of x ≡ true → to_bits binary64 x < 2047 * 2 ^ 52 → T (positive x)
unfolding to_bits
finite_is x e h = go (above x e)
  where
    go : (x ≡ inf false) ⊎ T (positive x) → T (positive x)
    go (inl i) = absurd (lt_irrefl (2047 * 2 ^ 52) (subst (λ (y : Float). to_bits binary64 y < 2047 * 2 ^ 52) i h))
    go (inr p) = p

pub infinite_is : (x : Float) → T (fits binary64 x) → lt zero_of x ≡ true → 2047 * 2 ^ 52 ≤ to_bits binary64 x → x ≡ root x
unfolding root
infinite_is x f e h = go (above x e)
  where
    go : (x ≡ inf false) ⊎ T (positive x) → x ≡ root x
    go (inl i) = subst (λ (y : Float). y ≡ root y) (sym i) refl
    go (inr p) = absurd (lt_irrefl (to_bits binary64 x) (lt_of_lt_of_le (finite-pattern x f p) h))

-- ---- positive and finite

pub pattern_some : (x : Float) → T (fits binary64 x) → T (positive x) → 0 < to_bits binary64 x
unfolding of_bits
pattern_some x f p = go (eq-zero-or-pos (to_bits binary64 x))
  where
    go : (to_bits binary64 x ≡ 0) ⊎ (0 < to_bits binary64 x) → 0 < to_bits binary64 x
    go (inl z) = absurd (subst (λ (y : Float). T (positive y)) (sym (of_bits-to_bits binary64 x f) ∙ ap (of_bits binary64) z) p)
    go (inr l) = l

root_units_lem : (x : Float) → T (fits binary64 x) → T (positive x) → root_units (in_units x * 2 ^ 1074) ≡ root x
unfolding root
root_units_lem nan f p = absurd p
root_units_lem (inf s) f p = absurd p
root_units_lem (fin true m d) f p = absurd p
root_units_lem (fin false zero d) f p = absurd p
root_units_lem (fin false (suc m) d) f p =
    let a = argument m d f in
    ap root_units (ap (λ (u : ℕ). u * 2 ^ 1074) a.units ∙ mul_assoc (suc m) (2 ^ a.zeros) (2 ^ 1074) ∙ ap (λ (u : ℕ). suc m * u) (sym (pow-add 2 a.zeros 1074)) ∙ sym a.scale)

positive_no_nan : (x : Float) → T (positive x) → T (not (is_nan x))
unfolding is_nan
positive_no_nan nan p = absurd p
positive_no_nan (inf s) p = tt
positive_no_nan (fin s m d) p = tt

-- What `root_bits` gives is the root's pattern.
module _ (x : Float) (f : T (fits binary64 x)) (p : T (positive x)) (r : ℕ) (e : of_bits binary64 r ≡ root_units (in_units (of_bits binary64 (to_bits binary64 x)) * 2 ^ 1074)) where
  pub pattern_is : of_bits binary64 r ≡ root x
  pattern_is = e ∙ ap (λ (y : Float). root_units (in_units y * 2 ^ 1074)) (of_bits-to_bits binary64 x f) ∙ root_units_lem x f p

  pub pattern_no_nan : T (not (nan_bits binary64 r))
  pattern_no_nan = subst (λ (b : Bool). T (not b)) (sym (nan_bits_is binary64 r ∙ ap is_nan pattern_is)) (positive_no_nan (root x) (root_is x f p).sign)
