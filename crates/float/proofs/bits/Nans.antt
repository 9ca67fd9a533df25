-- This file tells which patterns are those of NaNs, and which floats are NaN.
-- Assumes nothing.
use mathlib.Core.Path.{◌≡◌, refl, sym, ap, ◌∙◌, subst}
use Prim.Native.Nat.{ℕ, ◌*◌, ◌%◌, ◌^◌, ◌≤◌, ◌<◌}
use mathlib.Core.Bool.{Bool, true, false, not, true≢false}
use borrow.Author.Tests.{le-ltb, lt-ltb}
use lib.Dec.{T}
use lib.Ieee.{Float, nan, inf, fin, binary64, div, ne, is_nan, nan_bits, of_bits, to_bits}
use lib.Ieee.Bits.{nan_bits_is, nan_bits_above}
use lib.Ieee.Compare.{differs_from_itself}

pub no_nan_pattern : (n : ℕ) → n % 2 ^ 63 ≤ 2047 * 2 ^ 52 → T (not (nan_bits binary64 n))
no_nan_pattern n h = subst (λ (b : Bool). T (not b)) (sym (nan_bits_above binary64 n ∙ le-ltb _ _ h)) tt

is_nan_lem : (x : Float) → is_nan x ≡ true → nan ≡ x
unfolding is_nan
is_nan_lem nan e = refl
is_nan_lem (inf s) e = absurd (true≢false (sym e))
is_nan_lem (fin s m d) e = absurd (true≢false (sym e))

quotient : nan ≡ div binary64 (of_bits binary64 0) (of_bits binary64 0)
unfolding div of_bits
quotient = refl

pub nan_pattern : (n : ℕ) → 2047 * 2 ^ 52 < n % 2 ^ 63 → div binary64 (of_bits binary64 0) (of_bits binary64 0) ≡ of_bits binary64 n
nan_pattern n h = sym quotient ∙ is_nan_lem (of_bits binary64 n) (sym (nan_bits_is binary64 n) ∙ nan_bits_above binary64 n ∙ lt-ltb _ _ h)

pub differs : (x : Float) → ne x x ≡ true → x ≡ nan
differs x e = differs_from_itself x (subst T (sym e) tt)

pub the_pattern : (x : Float) → x ≡ nan → 0x7ff8_0000_0000_0000 ≡ to_bits binary64 x
unfolding to_bits
the_pattern x e = ap (to_bits binary64) (sym e)

pub no_nan : (x : Float) → ne x x ≡ false → T (not (is_nan x))
unfolding is_nan ne
no_nan nan e = absurd (true≢false e)
no_nan (inf s) e = tt
no_nan (fin s m d) e = tt
