-- This file says how the answers about distance classes are read, and when two listed values are one class.
-- Assumes nothing.
use Rattle.std.specs.Prelude.{◌≡◌, Bool, ◌&&◌, ◌||◌, List, ℕ, ◌+◌, ◌≤◌, take, drop, Float}
use Rattle.std.specs.Float.Ieee.{eq, is_nan}
use Rattle.spec.specs.Hull.{listing}
use Rattle.geometry.specs.declared.classes.ListedValue.{ListedValue}

-- Taking x gives a value, and the list afterwards is the first `count` cells, of which one may be new. The other cells are as before.
pub record Takes (before after : List Float) (n : ℕ) (x : Float) (r : ListedValue) : Type 0 where
  pub is : ◌≡◌ {A = Float × List Float} (r.value, take r.count after) (listing (take n before) x)
  pub room : r.count ≤ n + 1
  pub rest : drop r.count after ≡ drop r.count before

-- Tells whether two values are one class: either they are equal as numbers, so that the two zeros are one class, or both are NaN.
unfoldable pub same_class : Float → Float → Bool
same_class x y = eq x y || (is_nan x && is_nan y)
