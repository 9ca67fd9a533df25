-- This file has section 1: the 64-bit floats, sums of products, and the square root.
-- Assumes nothing.
use Prim.Native.Nat.{ℕ, zero, suc, ◌+◌, ◌-◌, ◌*◌, ◌/◌, ◌^◌, compare}
use Rattle.std.specs.Prelude.{Bool, true, false, ◌&&◌, List, [], ◌∷◌, leb, Float}
use Rattle.std.specs.Float.{nan, inf, fin, binary64}
use Rattle.std.specs.Float.Ieee.{prec, low, up, down, size, nearest, units, add, sub, mul, div, le, of_bits}
use Rattle.spec.specs.Limits.{max_magnitude}

-- ---- constants

-- "EPS is the constant 1e-7 of the 64-bit float type."
unfoldable pub eps : Float
eps = of_bits binary64 0x3e7a_d7f2_9abc_af48

unfoldable pub zero_f : Float
zero_f = of_bits binary64 0

unfoldable pub one_f : Float
one_f = of_bits binary64 0x3ff0_0000_0000_0000

-- ---- operations, each rounded once

abbrev pub plus : Float → Float → Float
plus x y = add binary64 x y

abbrev pub minus : Float → Float → Float
minus x y = sub binary64 x y

abbrev pub times : Float → Float → Float
times x y = mul binary64 x y

abbrev pub over : Float → Float → Float
over x y = div binary64 x y

-- This is the magnitude of x, which is x without its sign.
unfoldable pub abs_f : Float → Float
abs_f nan = nan
abs_f (inf s) = inf false
abs_f (fin s m e) = fin false m e

unfoldable pub finite : Float → Bool
finite nan = false
finite (inf s) = false
finite (fin s m e) = true

-- Tells whether x may be a coordinate or a matrix entry. Refusal 3, "coordinate or matrix entry not finite or too large", is the contrary.
unfoldable pub in_range : Float → Bool
in_range x = finite x && le (abs_f x) max_magnitude

-- ---- vectors

-- This is the list of f applied to the members of two lists at each index, as far as both lists go.
unfoldable pub zip : {A B C : Type 0} → (A → B → C) → List A → List B → List C
zip f [] ys = []
zip f (x ∷ xs) [] = []
zip f (x ∷ xs) (y ∷ ys) = f x y ∷ zip f xs ys

-- This is the sum that begins with s and to which the other values are added by rising index.
unfoldable pub add_on : Float → List Float → Float
add_on s [] = s
add_on s (x ∷ xs) = add_on (plus s x) xs

-- This is the sum of a dot's products, which "starts with the first product and adds the others by rising index; empty, it is 0".
unfoldable pub total : List Float → Float
total [] = zero_f
total (x ∷ xs) = add_on x xs

-- "A dot product starts with the first product ..", and `total` says how it goes on.
unfoldable pub dot : List Float → List Float → Float
dot u v = total (zip times u v)

-- ---- the root

-- This is the whole part of the root of n, for an n below 4 ^ d.
unfoldable pub root_down : ℕ → ℕ → ℕ
root_down zero n = zero
root_down (suc d) n =
    let r = 2 * root_down d (n / 4) in
    elim (leb (suc r * suc r) n) [ true ↦ suc r | false ↦ r ]

-- This is the value nearest to the root of n, ties to even, where the root is in units of the format's smallest value. Of the root's whole part the
-- format keeps the leading digits, q, and drops k digits, so the root is compared with the midpoint (q + 1/2) * 2 ^ k.
unfoldable pub root_units : ℕ → Float
root_units n =
    let k = (size n + 1) / 2 - prec binary64 in
    let q = root_down (prec binary64) (n / 4 ^ k) in
    units binary64 false (nearest q (compare (4 * n) ((2 * q + 1) * (2 * q + 1) * 4 ^ k))) k

-- "The root is the exact root rounded to nearest, ties to even." By IEEE 754 the root of a zero is that zero, and the root of what is below zero is
-- not a number.
unfoldable pub root : Float → Float
root nan = nan
root (inf true) = nan
root (inf false) = inf false
root (fin s zero e) = fin s zero e
root (fin true (suc m) e) = nan
root (fin false (suc m) e) = root_units (suc m * up e * 4 ^ low binary64 / down e)

-- "A norm is the square root of a vector's dot with itself."
unfoldable pub norm : List Float → Float
norm v = root (dot v v)
