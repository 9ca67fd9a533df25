-- Arrays of arrays whose cells past the entries hold zeros: the entries are read of them again, and a loop that writes the first rows of zeros leaves one.
-- Assumes nothing.
use mathlib.Core.Path.{◌≡◌, refl, sym, ap, ap₂, ◌∙◌}
use mathlib.Core.Logic.{inl, inr}
use mathlib.Core.List.{List, [], ◌∷◌, ◌++◌, map}
use Prim.Native.Nat.{ℕ, ◌-◌, ◌≤◌, ◌<◌}
use native.Mathlib.Omega.{arith}
use lib.ListN.{get_or, take, length, length-map, replicate}
use lib.Seq.{take_at}
use lib.Ieee.{Float}
use Rattle.spec.specs.Limits.{max_dimension}
use Rattle.spec.specs.Lists.{In, range}
use Rattle.spec.specs.Float.{zero_f, dot}
use Rattle.spec.specs.Matrix.{Vector, Matrix, columns, mul_vec, mul_mat}
use Rattle.laws.proofs.Lists.{map-map, in_map, of_range, length_table}
use Rattle.laws.proofs.Shapes.{Square}
use Rattle.float.specs.Reading.{padded}
use Rattle.matrix.specs.Reading.{leading, corner, padded_rows}
use Rattle.float.proofs.Written.{Written, whole, drop_replicate}
use Rattle.float.proofs.Padded.{take-padded}

-- ---- what is read of them

pub corner-padded : (d : ℕ) (m r : Matrix) → Square d m → r ≡ padded_rows m → corner d r ≡ m
unfolding corner leading padded_rows
corner-padded d m r s e = ap (λ (x : Matrix). map (take d) (take d x)) e ∙ ap (map (take d)) (take_at (map padded m) _ d (length-map m padded ∙ s.0)) ∙ rows m s.1
  where
    rows : (m : Matrix) → ((r : Vector) → In r m → length r ≡ d) → map (take d) (map padded m) ≡ m
    rows [] f = refl
    rows (x ∷ m) f = ap₂ (λ (y : Vector) (z : Matrix). y ∷ z) (take-padded d x _ (f x (inl refl)) refl) (rows m (λ y q. f y (inr q)))

-- ---- the same of an image, of columns and of a product: each has d entries, or d rows of d, where the matrix has d rows

-- Rows that are told by their numbers make a square.
pub square_table : (g : ℕ → Vector) (d : ℕ) → ((k : ℕ) → k < d → length (g k) ≡ d) → Square d (map g (range 0 d))
square_table g d f = (length_table g d, λ r m. let u = in_map g r (range 0 d) m in ap length u.2 ∙ f u.0 (omega (arith, (of_range 0 d u.0 u.1).1)))

square-map : {A : Type 0} (f : A → Vector) (d : ℕ) (l : List A) → length l ≡ d → ((x : A) → length (f x) ≡ d) → Square d (map f l)
square-map f d l h k = (length-map l f ∙ h, λ r m. let u = in_map f r l m in ap length u.2 ∙ k u.0)

columns_long : (a : Matrix) → length (columns a) ≡ length a
unfolding columns
columns_long a = length_table _ (length a)

module _ (d : ℕ) (a : Matrix) (h : length a ≡ d) where
  pub take-image : (v r : Vector) → r ≡ padded (mul_vec a v) → take d r ≡ mul_vec a v
  unfolding mul_vec
  take-image v r e = take-padded d (mul_vec a v) r (length-map a _ ∙ h) e

  pub corner-columns : (r : Matrix) → r ≡ padded_rows (columns a) → corner d r ≡ columns a
  unfolding columns
  corner-columns r e =
      let s = square_table (λ c. map (λ x. get_or x c zero_f) a) (length a) (λ k q. length-map a _) in
      corner-padded d (columns a) r (s.0 ∙ h, λ x m. s.1 x m ∙ h) e

  pub corner-product : (b r : Matrix) → length b ≡ d → r ≡ padded_rows (mul_mat a b) → corner d r ≡ mul_mat a b
  unfolding mul_mat
  corner-product b r k e = corner-padded d (mul_mat a b) r (square-map _ d a h (λ x. length-map (columns b) (dot x) ∙ columns_long b ∙ k)) e

-- ---- the loops that leave one

pub padded-rows_table : (g : ℕ → Vector) (r : List (List Float)) (i n : ℕ) → i ≤ n → n ≤ i
    → Written (λ x. x) (λ k. padded (g k)) (replicate max_dimension (replicate max_dimension zero_f)) r i → r ≡ padded_rows (map g (range 0 n))
unfolding padded_rows
padded-rows_table g r i n p q w =
    whole n p q w
    ∙ ap₂ ◌++◌ (sym (map-map g padded (range 0 n)))
    (drop_replicate n max_dimension _ ∙ ap (λ (k : ℕ). replicate (max_dimension - k) (replicate max_dimension zero_f)) (sym (length_table g n)))
