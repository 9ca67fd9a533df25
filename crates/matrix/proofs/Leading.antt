-- The steps of the elimination on whole arrays are those that their leading parts show, for d rows and n entries of any arrays.
-- Assumes nothing.
use mathlib.Core.Path.{◌≡◌, refl, sym, ap, ap₂, ◌∙◌}
use mathlib.Core.Bool.{Bool, true, false}
use mathlib.Core.List.{List, [], ◌∷◌, map}
use Prim.Native.Nat.{ℕ, zero, suc, ◌≤◌, ◌<◌}
use lib.Dec.{eqb}
use lib.ListN.{take, set, length, length-map}
use lib.Seq.{take-nil, get_or-take, take-set-lt, length-take-le}
use lib.Ieee.{Float}
use Rattle.spec.specs.Lists.{range}
use Rattle.spec.specs.Float.{zero_f, zip}
use Rattle.spec.specs.Matrix.{Vector, Matrix, row, entry, swap_rows, divided, cleared, clear}
use Rattle.matrix.specs.Reading.{leading}
use Rattle.float.proofs.Written.{table_count}
use Rattle.matrix.proofs.Corner.{take-map}

-- ---- maps and parts

map-set : {A B : Type 0} (f : A → B) (l : List A) (i : ℕ) (x : A) → map f (set l i x) ≡ set (map f l) i (f x)
map-set f [] i x = refl
map-set f (y ∷ l) zero x = refl
map-set {B = B} f (y ∷ l) (suc i) x = ap (λ (z : List B). f y ∷ z) (map-set f l i x)

take-zip : {A B C : Type 0} (f : A → B → C) (n : ℕ) (a : List A) (b : List B) → take n (zip f a b) ≡ zip f (take n a) (take n b)
unfolding zip
take-zip f zero a b = refl
take-zip f (suc n) [] b = refl
take-zip f (suc n) (x ∷ a) [] = refl
take-zip {C = C} f (suc n) (x ∷ a) (y ∷ b) = ap (λ (z : List C). f x y ∷ z) (take-zip f n a b)

zip-map : {A B C D : Type 0} (f : A → C → D) (g : B → C) (a : List A) (b : List B) → zip f a (map g b) ≡ zip (λ x y. f x (g y)) a b
unfolding zip
zip-map f g [] b = refl
zip-map f g (x ∷ a) [] = refl
zip-map {D = D} f g (x ∷ a) (y ∷ b) = ap (λ (z : List D). f x (g y) ∷ z) (zip-map f g a b)

-- This is what row r becomes in column c, where the pivot row is divided.
abbrev pub next_row : ℕ → Vector → ℕ → Vector → Vector
next_row c pivot r v = elim (eqb r c) [ true ↦ pivot | false ↦ cleared c pivot v ]

-- ---- rows and entries

row-map : (n : ℕ) (l : Matrix) (p : ℕ) → row (map (take n) l) p ≡ take n (row l p)
row-map n [] p = sym (take-nil n)
row-map n (x ∷ l) zero = refl
row-map n (x ∷ l) (suc p) = row-map n l p

module _ (d n : ℕ) (rows : Matrix) where
  pub length-leading : d ≤ length rows → length (leading d n rows) ≡ d
  unfolding leading
  length-leading h = length-map (take d rows) (take n) ∙ length-take-le d rows h

  pub row-leading : (p : ℕ) → p < d → row (leading d n rows) p ≡ take n (row rows p)
  unfolding leading
  row-leading p h = row-map n (take d rows) p ∙ rw (get_or-take d rows p [] h)

  pub entry-leading : (p c : ℕ) → p < d → c < n → entry (leading d n rows) p c ≡ entry rows p c
  entry-leading p c h k = rw (row-leading p h, get_or-take n (row rows p) c zero_f k)

  -- ---- the three steps of a column

  pub swap-leading : (p c : ℕ) → p < d → c < d → leading d n (swap_rows rows p c) ≡ swap_rows (leading d n rows) p c
  unfolding leading swap_rows
  swap-leading p c h k =
      rw (take-set-lt d (set rows p (row rows c)) c (row rows p), take-set-lt d rows p (row rows c), map-set, map-set)
      (ap₂ (λ (x y : Vector). set (set (map (take n) (take d rows)) p x) c y) (sym (row-leading c k)) (sym (row-leading p h)))

  pub clear-leading : (c : ℕ) (pivot : Vector) → d ≤ length rows → map (λ r. next_row c pivot r (take n (row rows r))) (range 0 d) ≡ clear c pivot (leading d n rows)
  unfolding clear leading
  clear-leading c pivot h =
      table_count (λ r v. next_row c pivot r (take n v)) [] rows d h
      ∙ sym (zip-map (next_row c pivot) (take n) (range 0 d) (take d rows))
      ∙ ap (λ (k : ℕ). zip (next_row c pivot) (range 0 k) (map (take n) (take d rows))) (sym (length-leading h))

pub divided-take : (n : ℕ) (v : Vector) (x : Float) → take n (divided v x) ≡ divided (take n v) x
unfolding divided
divided-take n v x = take-map _ n v

pub cleared-take : (n c : ℕ) (pivot v : Vector) → c < n → take n (cleared c pivot v) ≡ cleared c (take n pivot) (take n v)
unfolding cleared
cleared-take n c pivot v h = take-zip _ n v pivot ∙ rw (get_or-take n v c zero_f h)

pub next-take : (n c : ℕ) (pivot : Vector) (r : ℕ) (v : Vector) → c < n → take n (next_row c pivot r v) ≡ next_row c (take n pivot) r (take n v)
next-take n c pivot r v h = go (eqb r c)
  where
    go : (b : Bool) →
        take {A = Float} n (elim b as (λ _. Vector) [ true ↦ pivot | false ↦ cleared c pivot v ])
        ≡ elim b as (λ _. Vector) [ true ↦ take n pivot | false ↦ cleared c (take n pivot) (take n v) ]
    go true = refl
    go false = cleared-take n c pivot v h

-- A whole column takes the swap, the division and the clearing.
pub column-leading : (d n : ℕ) (rows : Matrix) (p c : ℕ) (x : Float) → p < d → c < d →
    clear c (take n (divided (row (swap_rows rows p c) c) x)) (leading d n (swap_rows rows p c))
    ≡ (let a = swap_rows (leading d n rows) p c in clear c (divided (row a c) x) a)
column-leading d n rows p c x h k =
    ap (λ (v : Vector). clear c v (leading d n (swap_rows rows p c))) (divided-take n _ x ∙ ap (λ (v : Vector). divided v x) (sym (row-leading d n (swap_rows rows p c) c k)))
    ∙ ap (λ (a : Matrix). clear c (divided (row a c) x) a) (swap-leading d n rows p c h k)
