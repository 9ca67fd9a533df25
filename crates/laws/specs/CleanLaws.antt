-- The clauses of section 6's "clean" as statements, which the tests of Clean decide.
-- Assumes nothing.
use Rattle.std.specs.Prelude.{◌≡◌, ◌↔◌, ℕ, ◌<◌, true, List, [], ◌++◌, length, get_or, Float}
use Rattle.spec.specs.Lists.{In}
use Rattle.spec.specs.Float.{zero_f, finite}
use Rattle.spec.specs.Matrix.{Vector}
use Rattle.spec.specs.Hull.{nearer}
use Rattle.spec.specs.Clean.{within_eps, on_axis, clean_points, listed_by, clean_distances}

-- "differ by at most EPS" is transitive among the values of xs.
abbrev pub Transitive : List Float → Type 0
Transitive xs = (x y z : Float) → In x xs → In y xs → In z xs → within_eps x y ≡ true → within_eps y z ≡ true → within_eps x z ≡ true

-- These are the first two clauses, of the points ps with the images qs in d dimensions.
pub record CleanPoints (d : ℕ) (ps qs : List Vector) : Type 0 where
  pub axes : (k : ℕ) → k < d → Transitive (on_axis (ps ++ qs) k)
  pub images : (q : Vector) → In q qs → (x : Float) → In x q → finite x ≡ true

-- This is the third clause, of the distances xs: where a distance is nearer than EPS to the listed values of the numbers i and j, these are one
-- number.
abbrev pub CleanDistances : List Float → Type 0
CleanDistances xs = (x : Float) → In x xs → (i j : ℕ) → i < length (listed_by [] xs) → j < length (listed_by [] xs)
    → nearer (get_or (listed_by [] xs) i zero_f) x ≡ true → nearer (get_or (listed_by [] xs) j zero_f) x ≡ true → i ≡ j

pub record EveryClean : Type 0 where
  pub points : (d : ℕ) (ps qs : List Vector) → (clean_points d ps qs ≡ true) ↔ CleanPoints d ps qs
  pub distances : (xs : List Float) → (clean_distances xs ≡ true) ↔ CleanDistances xs
