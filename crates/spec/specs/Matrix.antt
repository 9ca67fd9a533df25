-- This file has section 1's matrices, "held as rows of rows", with the inverse and the determinant by Gauss-Jordan.
-- Assumes nothing.
use Rattle.std.specs.Prelude.{ℕ, suc, ◌-◌, ◌%◌, true, false, List, [], ◌∷◌, ◌++◌, map, length, get_or, set, drop, eqb, Float, None, Option, Some}
use Rattle.std.specs.Float.Ieee.{neg, lt, eq}
use Rattle.spec.specs.Lists.{range}
use Rattle.spec.specs.Float.{zero_f, one_f, minus, times, over, abs_f, zip, dot}

abbrev pub Vector : Type 0
Vector = List Float

abbrev pub Matrix : Type 0
Matrix = List (List Float)

abbrev pub row : Matrix → ℕ → Vector
row a r = get_or a r []

abbrev pub entry : Matrix → ℕ → ℕ → Float
entry a r c = get_or (row a r) c zero_f

-- These are the columns of a square matrix. Transposing goes both ways, so this is also the square matrix with the given columns.
unfoldable pub columns : Matrix → Matrix
columns a = map (λ c. map (λ r. get_or r c zero_f) a) (range 0 (length a))

-- This is a point's image, each entry of which is the dot of a row and the point.
unfoldable pub mul_vec : Matrix → Vector → Vector
mul_vec a v = map (λ r. dot r v) a

-- This is the product of two matrices: "A matrix product uses such dots".
unfoldable pub mul_mat : Matrix → Matrix → Matrix
mul_mat a b = let cs = columns b in map (λ r. map (dot r) cs) a

-- ---- Gauss-Jordan

-- This is row i of the identity.
unfoldable pub unit : ℕ → ℕ → Vector
unit d i = map (λ j. elim (eqb i j) [ true ↦ one_f | false ↦ zero_f ]) (range 0 d)

unfoldable pub identity : ℕ → Matrix
identity d = map (unit d) (range 0 d)

-- These are the rows as they stand, the pivots so far in order, and the number of swaps.
pub record Work : Type 0 where
  pub rows : Matrix
  pub pivots : List Float
  pub swaps : ℕ

-- This is the row that the pivot is taken from: "scanning down from row c, a later row is taken only if strictly larger". Here p is the row taken so
-- far, and rs are the rows that are left.
unfoldable pub scan : Matrix → ℕ → ℕ → List ℕ → ℕ
scan a c p [] = p
scan a c p (r ∷ rs) = elim (lt (abs_f (entry a p c)) (abs_f (entry a r c))) [ true ↦ scan a c r rs | false ↦ scan a c p rs ]

-- "In column c the pivot is the largest magnitude in rows c and below, lowest row on ties."
unfoldable pub pivot_row : Matrix → ℕ → ℕ
pivot_row a c = scan a c c (range (suc c) (length a - suc c))

-- The step "Swap": the rows p and c change places.
unfoldable pub swap_rows : Matrix → ℕ → ℕ → Matrix
swap_rows a p c = set (set a p (row a c)) c (row a p)

-- This is the pivot row after the step "divide the whole pivot row by the pivot".
unfoldable pub divided : Vector → Float → Vector
divided v x = map (λ y. over y x) v

-- This is another row after the step "subtract its entry in c times the pivot row, product and difference each rounded".
unfoldable pub cleared : ℕ → Vector → Vector → Vector
cleared c pivot v = let x = get_or v c zero_f in zip (λ y z. minus y (times x z)) v pivot

-- These are the rows with the pivot row at c, and with every other row cleared by it.
unfoldable pub clear : ℕ → Vector → Matrix → Matrix
clear c pivot a = zip (λ r v. elim (eqb r c) [ true ↦ pivot | false ↦ cleared c pivot v ]) (range 0 (length a)) a

-- This is the elimination in column c, which gives `None` where the pivot is zero.
unfoldable pub column : ℕ → Work → Option Work
column c w =
    let p = pivot_row w.rows c in
    let x = entry w.rows p c in
    let a = swap_rows w.rows p c in
    elim (eq x zero_f) [
      | true ↦ None
      | false ↦ Some (record { rows = clear c (divided (row a c) x) a; pivots = w.pivots ++ x ∷ []; swaps = elim (eqb p c) [ true ↦ w.swaps | false ↦ suc w.swaps ] })
    ]

-- This is the elimination in one column after another.
unfoldable pub eliminate : List ℕ → Work → Option Work
eliminate [] w = Some w
eliminate (c ∷ cs) w = elim (column c w) [ None ↦ None | Some v ↦ eliminate cs v ]

-- This is the elimination of all columns: "Gauss-Jordan beside an identity".
unfoldable pub gauss_jordan : Matrix → Option Work
gauss_jordan a =
    let d = length a in
    eliminate (range 0 d) (record { rows = zip (λ r e. r ++ e) a (identity d); pivots = []; swaps = 0 })

-- This is the half of the rows that was the identity, or `None` where the matrix is singular.
unfoldable pub inverse : Matrix → Option Matrix
inverse a = elim (gauss_jordan a) [ None ↦ None | Some w ↦ Some (map (drop (length a)) w.rows) ]

-- This is the product of x and the others, in order.
unfoldable pub times_on : Float → List Float → Float
times_on x [] = x
times_on x (y ∷ ys) = times_on (times x y) ys

unfoldable pub product : List Float → Float
product [] = one_f
product (x ∷ xs) = times_on x xs

-- The determinant is "the product of those pivots in order, negated if swaps were odd; singular gives 0".
unfoldable pub determinant : Matrix → Float
determinant a = elim (gauss_jordan a) [
  | None ↦ zero_f
  | Some w ↦ elim (eqb (w.swaps % 2) 1) [ true ↦ neg (product w.pivots) | false ↦ product w.pivots ]
]
