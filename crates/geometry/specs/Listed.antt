-- Distances join a list one after another, and the list and the classes stand in lent floats.
-- Assumes nothing.
use Rattle.std.specs.Prelude.{◌≡◌, List, [], ◌∷◌, map, ℕ, ◌+◌, ◌≤◌, length, take, drop, Float}
use Rattle.spec.specs.Lists.{range}
use Rattle.spec.specs.Types.{size}
use Rattle.spec.specs.Hull.{listing, classes_from, classes}
use Rattle.spec.specs.Classes.{distance_of, distances}
use Rattle.spec.specs.Solid.{Concrete}
use Rattle.ranked.specs.declared.Shape.{Shape}
use Rattle.ranked.specs.Layout.{proper, coordinates, solid_on, classes_in}

-- Gives the list that results when distances join the list l one after another.
unfoldable pub list_after : List Float → List Float → List Float
list_after l [] = l
list_after l (x ∷ xs) = list_after (listing l x).1 xs

-- Lists the distances of the elements of rank r.
unfoldable pub rank_distances : Concrete → ℕ → List Float
rank_distances c r = map (distance_of c r) (range 0 (size c.abs r))

-- The distances xs were taken. The list had n values before and has m now, and `values` are those that the distances took.
pub record ListGrown (old new : List Float) (n m : ℕ) (xs values : List Float) : Type 0 where
  pub few : m ≤ n + length xs
  pub list : take m new ≡ list_after (take n old) xs
  pub taken : values ≡ classes_from (take n old) xs

-- The whole solid is classed: n values are listed, and each proper element has its class.
pub record Classed (sh : Shape) (w : List ℕ) (old new : List Float) (n : ℕ) : Type 0 where
  pub same : take (coordinates sh) new ≡ take (coordinates sh) old
  pub long : length new ≡ length old
  pub few : n ≤ proper sh
  pub list : take n (drop (coordinates sh) new) ≡ list_after [] (distances (solid_on sh w old))
  pub cells : classes_in sh new ≡ classes (distances (solid_on sh w old))
