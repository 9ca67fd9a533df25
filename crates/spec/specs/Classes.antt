-- This file has section 3's distance classes for the elements of a solid, and section 4's types that start from them.
-- Assumes nothing.
use Rattle.std.specs.Prelude.{ℕ, List, [], ◌∷◌, map, get_or, take, drop, Float, Option}
use Rattle.spec.specs.Lists.{range, join}
use Rattle.spec.specs.Types.{size, proper_ranks, Classes, State, result, vertices}
use Rattle.spec.specs.Matrix.{Vector}
use Rattle.spec.specs.Hull.{hull_of, distance, class_numbers}
use Rattle.spec.specs.Solid.{Concrete}

-- These are the coordinates of vertex v.
unfoldable pub point_of : Concrete → ℕ → Vector
point_of c v = get_or c.points v []

-- This is the distance from the origin of the hull of an element's vertices, which are "used in rising order".
unfoldable pub distance_of : Concrete → ℕ → ℕ → Float
distance_of c r e = distance c.dimension (hull_of c.dimension (map (point_of c) (vertices c.abs r e)))

-- These are the distances in the order in which classes are given: "Elements are taken by rising rank, then index, once".
unfoldable pub distances : Concrete → List Float
distances c = join (map (λ r. map (distance_of c r) (range 0 (size c.abs r))) (proper_ranks c.abs))

-- Gives the list l cut into parts of the given sizes.
unfoldable pub by_rank : {A : Type 0} → List ℕ → List A → List (List A)
by_rank [] l = []
by_rank (n ∷ ns) l = take n l ∷ by_rank ns (drop n l)

-- This is the distance class of each element as a number for each listed value, by rank and then by index. Rank 0 has no classes, so its list is
-- empty.
unfoldable pub class_table : Concrete → List (List ℕ)
class_table c = [] ∷ by_rank (map (λ r. size c.abs r) (proper_ranks c.abs)) (class_numbers (distances c))

abbrev pub by_table : List (List ℕ) → Classes
by_table t r e = get_or (get_or t r []) e 0

-- These are the types of a solid's elements, or `None` where the sweeps do not settle.
unfoldable pub types_of : Concrete → Option State
types_of c = let t = class_table c in result c.abs (by_table t)
