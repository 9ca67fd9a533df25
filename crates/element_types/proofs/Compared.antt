-- Keys that stand in words are compared as lists of numbers.
-- Assumes nothing.
use mathlib.Core.Path.{◌≡◌, refl, ap}
use mathlib.Core.Bool.{Bool, ◌&&◌}
use mathlib.Core.List.{List, [], ◌∷◌}
use Prim.Native.Nat.{ℕ}
use lib.Dec.{eqb}
use lib.Pointwise.{pointwise}
use Rattle.spec.specs.Lists.{eq_list}

-- The library's equality of slices is the definitions' of lists.
pub eq_list_is : (l m : List ℕ) → pointwise eqb l m ≡ eq_list l m
unfolding eq_list
eq_list_is [] [] = refl
eq_list_is [] (y ∷ m) = refl
eq_list_is (x ∷ l) [] = refl
eq_list_is (x ∷ l) (y ∷ m) = ap (λ (b : Bool). eqb x y && b) (eq_list_is l m)
