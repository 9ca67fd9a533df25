-- Two distances share a class number exactly when their listed values are one class.
-- Assumes nothing.
use mathlib.Core.Path.{◌≡◌, refl, sym, ap, ap₂, ◌∙◌}
use mathlib.Core.Bool.{Bool, true, false, not, ◌&&◌, ◌||◌}
use mathlib.Core.List.{List, [], ◌∷◌}
use Prim.Native.Nat.{ℕ, suc, ◌*◌, ◌<◌}
use lib.Dec.{eqb}
use lib.ListN.{length, get_or}
use lib.Ieee.{Float, nan, inf, fin, up, down, eq, is_nan}
use borrow.Author.Tests.{eq-eqb}
use Rattle.std.proofs.lemmas.Float.{floats_per}
use Rattle.spec.specs.Hull.{listing, classes_from, classes, class_numbers}
use Rattle.geometry.specs.Classes.{same_class}
use Rattle.geometry.proofs.Numbers.{renumber_shares}

-- Every float but NaN equals itself.
eq_self : (x : Float) → is_nan x ≡ not (eq x x)
unfolding eq is_nan
eq_self nan = refl
eq_self (inf true) = refl
eq_self (inf false) = refl
eq_self (fin true m e) = rw (eq-eqb (m * up e * down e) (m * up e * down e) refl)
eq_self (fin false m e) = rw (eq-eqb (m * up e * down e) (m * up e * down e) refl)

length_from : (l xs : List Float) → length (classes_from l xs) ≡ length xs
unfolding classes_from
length_from l [] = refl
length_from l (x ∷ xs) = ap suc (length_from (listing l x).1 xs)

pub length-classes : (xs : List Float) → length (classes xs) ≡ length xs
unfolding classes
length-classes xs = length_from [] xs

class_is : (x y : Float) → (eq x y || (not (eq x x) && not (eq y y))) ≡ same_class x y
unfolding same_class
class_is x y = ap₂ (λ (p q : Bool). eq x y || (p && q)) (sym (eq_self x)) (sym (eq_self y))

pub share_class : (xs : List Float) (i j : ℕ) → i < length xs → j < length xs →
    eqb (get_or (class_numbers xs) i 0) (get_or (class_numbers xs) j 0) ≡ same_class (get_or (classes xs) i nan) (get_or (classes xs) j nan)
unfolding class_numbers
share_class xs i j hi hj =
    let e = length-classes xs in
    renumber_shares eq floats_per (classes xs) nan i j (rw e hi) (rw e hj) ∙ class_is _ _
