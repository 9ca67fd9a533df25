-- This file has the laws of the leading d by d part of a matrix.
-- Assumes nothing.
use mathlib.Core.Path.{◌≡◌, refl, sym, ap, ap₂, ◌∙◌}
use mathlib.Core.List.{List, [], ◌∷◌, map}
use Prim.Native.Nat.{ℕ, zero, suc, ◌≤◌, ◌<◌}
use native.Mathlib.Omega.{arith}
use lib.ListN.{get_or, take, length, length-map}
use lib.Seq.{length-take-le, get_or-take}
use lib.Ieee.{Float}
use Rattle.spec.specs.Lists.{range}
use Rattle.spec.specs.Float.{zero_f, dot}
use Rattle.spec.specs.Matrix.{Vector, Matrix, columns, mul_vec}
use Rattle.laws.proofs.Lists.{map-map}
use Rattle.matrix.specs.Reading.{corner, leading}
use Rattle.float.proofs.Dots.{dot-swap}
use Rattle.float.proofs.Written.{table_map}

pub take-map : {A B : Type 0} (f : A → B) (n : ℕ) (l : List A) → take n (map f l) ≡ map f (take n l)
take-map f zero l = refl
take-map f (suc n) [] = refl
take-map {B = B} f (suc n) (x ∷ l) = ap (λ (y : List B). f x ∷ y) (take-map f n l)

-- A loop over the first d rows knows of each that it is the array's row of that number.
module _ {A : Type 0} (d : ℕ) (m : List (List A)) (h : d ≤ length m) {i : ℕ} where
  pub below : i < length (take d m) → i < d
  below p = omega (arith, length-take-le d m h)

  pub at-most : i ≤ length (take d m) → i ≤ d
  at-most p = omega (arith, length-take-le d m h)

  pub at-end : length (take d m) ≤ i → d ≤ i
  at-end p = omega (arith, length-take-le d m h)

  pub item : i < length (take d m) → get_or (take d m) i [] ≡ get_or m i []
  item p = get_or-take d m i [] (below p)

pub length-corner : (d : ℕ) (m : List (List Float)) → d ≤ length m → length (corner d m) ≡ d
unfolding corner leading
length-corner d m h = length-map (take d m) (take d) ∙ length-take-le d m h

-- Applying g to the rows by number gives g of the rows.
pub over-leading : {B : Type 0} (g : Vector → B) (d n : ℕ) (m : List (List Float)) → d ≤ length m →
    map (λ i. g (take n (get_or m i []))) (range 0 d) ≡ map g (leading d n m)
unfolding leading
over-leading g d n m h = table_map (λ r. g (take n r)) [] m d h ∙ sym (map-map (take n) g (take d m))

pub over-corner : {B : Type 0} (g : Vector → B) (d : ℕ) (m : List (List Float)) → d ≤ length m →
    map (λ i. g (take d (get_or m i []))) (range 0 d) ≡ map g (corner d m)
unfolding corner
over-corner g d m h = over-leading g d d m h

pub columns-corner : (d : ℕ) (m : List (List Float)) → d ≤ length m →
    map (λ j. map (λ r. get_or r j zero_f) (corner d m)) (range 0 d) ≡ columns (corner d m)
unfolding columns
columns-corner d m h = rw (length-corner d m)

-- The image of a row under the columns of a matrix is a row of the product.
pub image_dots : (m : Matrix) (v : Vector) → mul_vec m v ≡ map (dot v) m
unfolding mul_vec
image_dots [] v = refl
image_dots (r ∷ m) v = ap₂ (λ (x : Float) (l : List Float). x ∷ l) (dot-swap r v) (image_dots m v)
