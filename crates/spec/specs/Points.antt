-- This file has the finding of a point among points, by nearness on every axis.
-- Assumes nothing.
use Rattle.std.specs.Prelude.{ℕ, Bool, true, false, List, [], ◌∷◌, map}
use Rattle.std.specs.Float.Ieee.{le}
use Rattle.spec.specs.Lists.{place, holds}
use Rattle.spec.specs.Float.{eps, minus, abs_f}
use Rattle.spec.specs.Matrix.{Vector, Matrix, mul_vec}

-- Tells whether two points are "within EPS, EPS included, .. on every axis" of each other.
unfoldable pub near : Vector → Vector → Bool
near [] ys = true
near (x ∷ xs) [] = true
near (x ∷ xs) (y ∷ ys) = elim (le (abs_f (minus x y)) eps) [ true ↦ near xs ys | false ↦ false ]

-- Tells whether the point q is found among ps.
unfoldable pub found : List Vector → Vector → Bool
found ps q = holds near q ps

-- This is the number of the point that is found, "lowest number taken", or how many points there are where none is near.
unfoldable pub find : List Vector → Vector → ℕ
find ps q = place near q ps

-- This is the row of m over the points: the number of the point that each one's image is "within EPS, EPS included, of .. on every axis (lowest number
-- taken)", or how many points there are where there is none. A search looks its vertices up so, and "a table row per matrix gives each copy's image".
unfoldable pub row_of : List Vector → Matrix → List ℕ
row_of ps m = map (λ p. find ps (mul_vec m p)) ps
