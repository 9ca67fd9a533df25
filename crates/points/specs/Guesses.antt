-- This file has points that are lone, so that one of them is found at once by being near, and the table of guesses that only such points have.
-- Assumes nothing.
use Rattle.std.specs.Prelude.{◌≡◌, ◌⊎◌, Bool, true, false, List, [], ◌∷◌, ℕ, ◌+◌, ◌*◌, ◌%◌, ◌^◌, ◌<◌, length, get_or, set, take, drop, Float, Option, Some, None}
use Rattle.std.specs.Float.{binary64}
use Rattle.std.specs.Float.Ieee.{of_bits, le}
use Rattle.spec.specs.Limits.{max_count}
use Rattle.spec.specs.Float.{abs_f, minus}
use Rattle.spec.specs.Matrix.{Vector}
use Rattle.points.specs.Finding.{found_at}

-- This is the number 2 ^ -22, which is more than twice EPS.
unfoldable pub wide_f : Float
wide_f = of_bits binary64 0x3e90_0000_0000_0000

-- This is document 01's `near` with w for EPS.
unfoldable pub within : Float → Vector → Vector → Bool
within w [] ys = true
within w (x ∷ xs) [] = true
within w (x ∷ xs) (y ∷ ys) = elim (le (abs_f (minus x y)) w) [ true ↦ within w xs ys | false ↦ false ]

-- No two points are within 2 ^ -22 on every axis, so at most one is near a point.
pub record Lone (ps : List Vector) : Type 0 where
  pub lone : (j k : ℕ) → j < k → k < length ps → within wide_f (get_or ps j []) (get_or ps k []) ≡ false

-- Of the points of d floats in l, none before point j is within 2 ^ -22 of point k on every axis.
pub record Clear (d : ℕ) (l : List Float) (k j : ℕ) : Type 0 where
  pub clear : (i : ℕ) → i < j → within wide_f (take d (drop (i * d) l)) (take d (drop (k * d) l)) ≡ false

-- A table of guesses has this many places.
abbrev pub places : ℕ
places = 2 * max_count

-- This many places in a row are looked at.
abbrev pub tries : ℕ
tries = 16

-- This is the number that stands in a free place. No point has it.
abbrev pub free : ℕ
free = 65535

-- Mixes x into h. The result decides how often a guess is right, and nothing else.
abbrev pub mixed : ℕ → ℕ → ℕ
mixed h x = (h + x) % 2 ^ 32 * 0x9e37_79b1

-- Numbers that are mixed stay below this, so that no sum of two wraps.
abbrev pub mixed_limit : ℕ
mixed_limit = 2 ^ 44

-- One place at most has changed, and it has the number k.
abbrev pub PlaceFilled : ℕ → List ℕ → List ℕ → Type 0
PlaceFilled k before after = (after ≡ before) ⊎ ((p : ℕ) × (after ≡ set before p k))

-- Where a place of the table has the number of a point, the points are lone.
pub record Guesses (ps : List Vector) (table : List ℕ) : Type 0 where
  pub lone : (i : ℕ) → i < places → get_or table i 0 < length ps → Lone ps

-- A guess is made at what is found, where x is the number sought among n.
-- One that names a number has to be right, and one that names none says nothing.
abbrev pub Guessed : ℕ → ℕ → Option ℕ → Type 0
Guessed n x (Some k) = Some k ≡ found_at n x
Guessed n x None = Unit
