-- The library's test of a float and the definition's are one, and the rows of a corner are tested where they stand in the matrix.
-- Assumes nothing.
use Rattle.std.specs.Float.{float_is_finite}
use mathlib.Core.Path.{◌≡◌, refl, sym, ap}
use mathlib.Core.Bool.{Bool, true, false}
use mathlib.Core.List.{List, [], ◌∷◌, map}
use Prim.Native.Nat.{ℕ}
use lib.ListN.{take}
use lib.Ieee.{Float, nan, inf, fin}
use Rattle.spec.specs.Float.{finite}
use Rattle.spec.specs.Lists.{every}
use Rattle.spec.specs.Search.{all_finite}
use Rattle.matrix.specs.Reading.{leading, corner}

pub finite_is : (x : Float) → float_is_finite x ≡ finite x
unfolding float_is_finite finite
finite_is nan = refl
finite_is (inf s) = refl
finite_is (fin s m e) = refl

pub every-map : {A B : Type 0} (f : A → B) (p : B → Bool) (l : List A) → every p (map f l) ≡ every (λ x. p (f x)) l
unfolding every
every-map f p [] = refl
every-map f p (x ∷ l) = ap (λ b. elim (p (f x)) as (λ t. Bool) [ true ↦ b | false ↦ false ]) (every-map f p l)

pub rows_finite : (d : ℕ) (m : List (List Float)) → every (λ row. every finite (take d row)) (take d m) ≡ all_finite (corner d m)
unfolding all_finite corner leading
rows_finite d m = sym (every-map (take d) (every finite) (take d m))
