-- This file has section 7: copying, with its answers and outputs.
-- Assumes nothing.
use Rattle.std.specs.Prelude.{ℕ, ◌-◌, ◌*◌, ◌/◌, ◌%◌, ◌^◌, min, true, false, ◌&&◌, List, [], ◌∷◌, ◌++◌, map, length, take, replicate, eqb, leb, ltb, Float, Err, Ok}
use Rattle.std.specs.Float.Ieee.{neg}
use Rattle.spec.specs.declared.Refusal.TheVariants.{CutSheet, Format, OffTheBoard, Blank, ShortSheet, Open}
use Rattle.spec.specs.Refusal.{Answer, refused_with}
use Rattle.spec.specs.Limits.{max_dimension, max_count}
use Rattle.spec.specs.Judged.{Judged, ◌>>◌, judge}
use Rattle.spec.specs.Lists.{holds, range, join, every, parts, written}
use Rattle.spec.specs.Float.{zero_f, one_f, in_range, zip}
use Rattle.spec.specs.Matrix.{Vector, Matrix, mul_vec}
use Rattle.spec.specs.Points.{found, row_of}

-- ---- copying

-- These are the copies after one point is "multiplied by every matrix in order; each image not found joins".
unfoldable pub spread : List Matrix → Vector → List Vector → List Vector
spread [] p cs = cs
spread (m ∷ ms) p cs =
    let q = mul_vec m p in
    elim (found cs q) [ true ↦ spread ms p cs | false ↦ spread ms p (cs ++ q ∷ []) ]

-- These are the copies after all points are taken in turn: "A point not found among the copies is multiplied ..".
unfoldable pub copies_from : List Matrix → List Vector → List Vector → List Vector
copies_from ms [] cs = cs
copies_from ms (p ∷ ps) cs = elim (found cs p) [ true ↦ copies_from ms ps cs | false ↦ copies_from ms ps (spread ms p cs) ]

-- These are the copies of all points, starting with none.
unfoldable pub copies : List Matrix → List Vector → List Vector
copies ms ps = copies_from ms ps []

-- This is the whole table: "a table row per matrix gives each copy's image". The rows are stored one after another.
unfoldable pub copy_table : List Matrix → List Vector → List ℕ
copy_table ms cs = join (map (row_of cs) ms)

-- This fills the table where an image isn't among the copies: 14 "sets the table's entries, matrices times copies, to 65,535".
abbrev pub no_image : ℕ
no_image = 65535

-- ---- the constant table

-- These are the orders of three axes, in dictionary order.
unfoldable pub orders : List (List ℕ)
orders = (0 ∷ 1 ∷ 2 ∷ []) ∷ (0 ∷ 2 ∷ 1 ∷ []) ∷ (1 ∷ 0 ∷ 2 ∷ []) ∷ (1 ∷ 2 ∷ 0 ∷ []) ∷ (2 ∷ 0 ∷ 1 ∷ []) ∷ (2 ∷ 1 ∷ 0 ∷ []) ∷ []

-- This is the unit of row i, which the sign bits decide: "s three sign bits, first axis highest, 1 minus".
unfoldable pub signed : ℕ → ℕ → Float
signed s i = elim (eqb (s / 2 ^ (2 - i) % 2) 1) [ true ↦ neg one_f | false ↦ one_f ]

-- This is the matrix of an order and its signs: "row i has its unit at the column the order names".
unfoldable pub axis_order : List ℕ → ℕ → Matrix
axis_order o s = zip (λ i c. map (λ j. elim (eqb j c) [ true ↦ signed s i | false ↦ zero_f ]) (range 0 3)) (range 0 3) o

-- This is the table of "48 signed axis orders in 3 dimensions: entry 8 times p + s, p the order's dictionary rank".
unfoldable pub axis_orders : List Matrix
axis_orders = join (map (λ o. map (axis_order o) (range 0 8)) orders)

-- ---- the call

-- These are the points of a buffer, and below them its matrices, which are stored row by row.
unfoldable pub points : ℕ → List Float → List Vector
points d l = parts (length l / d) d l

unfoldable pub matrices : ℕ → List Float → List Matrix
matrices d l = map (parts d d) (parts (length l / (d * d)) (d * d) l)

-- These are the refusals of copying that look at the input alone. They are the first four of "copying goes 2, 1, 3, 12, 13, 14".
unfoldable pub judge_copy : ℕ → List Float → List Float → Judged (Unit {0})
judge_copy d ps ts = do
  judge Format (leb 1 d && leb d max_dimension)
  judge CutSheet (eqb (length ps % d) 0 && eqb (length ts % (d * d)) 0)
  judge OffTheBoard (every in_range ps && every in_range ts)
  judge Blank (ltb 0 (length ps) && ltb 0 (length ts))

-- This is the rest, where cs are the copies under the matrices ms and there is room for n points: 13 for points and then for table entries, then 14.
-- "13 keeps what fitted .. (points only); 14 keeps the points and sets the table's entries, matrices times copies, to 65,535".
unfoldable pub copy_out : ℕ → List Matrix → List Vector → List Float → List ℕ → Answer × List Float × List ℕ
copy_out n ms cs out_points out_table =
    let kept = take n cs in
    let cells = length ms * length cs in
    let table = copy_table ms cs in
    elim (leb (length cs) n && leb cells (length out_table)) [
      | false ↦ (refused_with ShortSheet (length kept), written (join kept) out_points, out_table)
      | true ↦ elim (holds eqb (length cs) table) [
        | true ↦ (refused_with Open (length kept), written (join kept) out_points, written (replicate cells no_image) out_table)
        | false ↦ (Ok (length cs), written (join kept) out_points, written table out_table)
      ]
    ]

-- The copying call takes points and matrices, then its two outputs as they were. No more than 2,048 points have room, so "copies over 2,048" are
-- refused 13 too.
unfoldable pub copy_call : (d : ℕ) (ps ts out_points : List Float) (out_table : List ℕ) → Answer × List Float × List ℕ
copy_call d ps ts out_points out_table = elim (judge_copy d ps ts) [
  | Err why ↦ (refused_with why 0, out_points, out_table)
  | Ok u ↦ copy_out (min max_count (length out_points / d)) (matrices d ts) (copies (matrices d ts) (points d ps)) out_points out_table
]
