-- This file has section 7's constant table of 48: its rule, its closure under products, and the copies of (1,2,3) under it. The rows of all the 48
-- are six, so only the dots of these are worked out, and the rest is done on numbers. Assumes nothing.
use Rattle.std.specs.Prelude.{◌≡◌, refl, ℕ, ◌/◌, ◌^◌, ◌-◌, ◌%◌, ◌+◌, ◌*◌, true, false, List, [], ◌∷◌, map, length, replicate, get_or, eqb, ltb, Float, pos, Ok}
use Rattle.std.proofs.Common.{ap, ◌∙◌}
use Rattle.std.specs.Float.{fin}
use Rattle.std.specs.Float.Ieee.{of_bits, neg}
use Rattle.spec.specs.declared.Refusal.TheVariants.{Open}
use Rattle.spec.specs.Refusal.{Answer, refused_with}
use Rattle.spec.specs.Lists.{join, range, place, eq_list, every, holds, written, no_repeats}
use Rattle.spec.specs.Float.{zero_f, one_f, zip, dot}
use Rattle.spec.specs.Matrix.{Vector, Matrix, columns, mul_vec, mul_mat}
use Rattle.spec.specs.Copying.{orders, signed, axis_order, axis_orders, copy_call, copy_table, copy_out, no_image}
use Rattle.spec.specs.Points.{find, row_of}
use Rattle.spec.specs.NumberExamples.{most, all}

-- ---- the numbers

-- This is the sign bit of axis i.
abbrev bit : ℕ → ℕ → ℕ
bit s i = s / 2 ^ (2 - i) % 2

-- These are the rows of each of the 48, each given by a number: 2 times the column of its unit, and 1 more where the unit is negative.
unfoldable pub row_numbers : List (List ℕ)
row_numbers = join (map (λ o. map (λ s. zip (λ i c. 2 * c + bit s i) (range 0 3) o) (range 0 8)) orders)

-- This is the number of the entry with the given rows.
abbrev entry_of : List ℕ → ℕ
entry_of rs = 8 * place eq_list (map (λ r. r / 2) rs) orders + (get_or rs 0 0 % 2 * 4 + get_or rs 1 0 % 2 * 2 + get_or rs 2 0 % 2)

-- This is the number of the entry that the product of two entries is, by their rows.
abbrev product_of : List ℕ → List ℕ → ℕ
product_of rs bs = entry_of (map (λ a. let b = get_or bs (a / 2) 0 in 2 * (b / 2) + (a + b) % 2) rs)

unfoldable pub products : List (List ℕ)
products = map (λ rs. map (product_of rs) row_numbers) row_numbers

-- These are the columns of the entry with the given rows, each by a number: 2 times the row of its unit, and 1 more where the unit is negative.
abbrev columns_of : List ℕ → List ℕ
columns_of rs = map (λ c. let i = place eqb c (map (λ r. r / 2) rs) in 2 * i + get_or rs i 0 % 2) (range 0 3)

-- ---- the six rows

-- Gives minus x where b is 1, and x otherwise.
abbrev turned : ℕ → Float → Float
turned b x = elim (eqb b 1) [ true ↦ neg x | false ↦ x ]

unfoldable pub axes : List Vector
axes = map (λ a. map (λ j. elim (eqb j (a / 2)) [ true ↦ turned (a % 2) one_f | false ↦ zero_f ]) (range 0 3)) (range 0 6)

-- These are the dots of the six rows with each other. A dot is one or minus one where both rows lie on the same axis, and 0 otherwise.
pub axis_dots : map (λ r. map (dot r) axes) axes ≡ map (λ a. map (λ b. elim (eqb (a / 2) (b / 2)) [ true ↦ turned ((a + b) % 2) one_f | false ↦ zero_f ]) (range 0 6)) (range 0 6)
unfolding all axes
axis_dots = refl

-- The product of any two entries is an entry, which is the one that `products` names.
closed : map (λ a. map (mul_mat a) axis_orders) axis_orders ≡ map (map (λ j. get_or axis_orders j [])) products
unfolding mul_mat columns axes zip orders range join signed axis_order axis_orders row_numbers zero_f one_f neg products place eq_list of_bits
closed = ap (λ t. map (λ rs. map (λ bs. map (λ a. map (λ c. get_or (get_or t a []) c zero_f) (columns_of bs)) rs) row_numbers) row_numbers) axis_dots

-- ---- the table's rule and closure, "shown by one computed test over all entries"

-- These are the lists of three numbers below 3, in dictionary order. Of these, `unrepeated` keeps the lists that repeat no number.
unfoldable pub triples : List (List ℕ)
triples = join (map (λ a. join (map (λ b. map (λ c. a ∷ b ∷ c ∷ []) (range 0 3)) (range 0 3))) (range 0 3))

unfoldable pub unrepeated : List (List ℕ) → List (List ℕ)
unrepeated [] = []
unrepeated (l ∷ ls) = elim (no_repeats eqb l) [ true ↦ l ∷ unrepeated ls | false ↦ unrepeated ls ]

-- This is what is said of a table t.
pub record AxisOrderTable (t : List Matrix) : Type 0 where
  -- There are "48 signed axis orders".
  pub entries : length t ≡ 48
  -- The orders stand so that p is "the order's dictionary rank from 0 to 5".
  pub dictionary : orders ≡ unrepeated triples
  -- The matrix of order p with the signs s is "entry 8 times p + s".
  pub rule : map (λ p. map (λ s. get_or t (8 * p + s) []) (range 0 8)) (range 0 6) ≡ map (λ p. map (axis_order (get_or orders p [])) (range 0 8)) (range 0 6)
  -- "row i has its unit at the column the order names", and the unit is negative where the sign bit of axis i is 1. Each row is one of the six of
  -- `axes`.
  pub rows : t ≡ map (map (λ a. get_or axes a [])) row_numbers
  -- Every product of two entries is an entry.
  pub multiplied : map (λ a. map (mul_mat a) t) t ≡ map (map (λ j. get_or t j [])) products
  pub within : every (every (λ j. ltb j 48)) products ≡ true

pub axis_order_table : AxisOrderTable axis_orders
unfolding all triples unrepeated no_repeats products row_numbers axes eq_list
axis_order_table = record { entries = refl; dictionary = refl; rule = refl; rows = refl; multiplied = closed; within = refl }

-- ---- copies

-- This is the point (1,2,3). Its 48 copies follow, one for each order and each choice of signs.
abbrev abc : Vector
abc = fin false 1 (pos 0) ∷ fin false 1 (pos 1) ∷ fin false 3 (pos 0) ∷ []

unfoldable pub cs : List Vector
cs = map (map (λ r. turned (r % 2) (get_or abc (r / 2) zero_f))) row_numbers

-- Every copy is found at its own number.
pub self : map (find cs) cs ≡ range 0 48
unfolding all cs row_numbers
self = refl

-- These are the dots of the six rows with the copies. Each picks one of the copy's floats, or picks it and changes its sign.
pub copy_dots : map (λ r. map (dot r) cs) axes ≡ map (λ a. map (λ v. turned (a % 2) (get_or v (a / 2) zero_f)) cs) (range 0 6)
unfolding all cs axes row_numbers
copy_dots = refl

-- Entry n takes copy k to the copy that the product of the two entries names.
pub images : map (λ m. map (mul_vec m) cs) axis_orders ≡ map (map (λ j. get_or cs j [])) products
unfolding mul_vec cs axes zip orders range join signed axis_order axis_orders row_numbers zero_f one_f neg products place eq_list of_bits
images = ap (λ t. map (λ rs. map (λ k. map (λ a. get_or (get_or t a []) k zero_f) rs) (range 0 48)) row_numbers) copy_dots

pub rows : map (row_of cs) axis_orders ≡ products
unfolding cs zip orders range join signed axis_order axis_orders row_numbers zero_f one_f neg products place eq_list of_bits row_of
rows = ap (map (map (find cs))) images ∙ ap (λ t. map (map (λ j. get_or t j 48)) products) self

pub before : copy_call 3 abc (join (join axis_orders)) (replicate 144 zero_f) (replicate 2304 0) ≡ copy_out 48 axis_orders cs (replicate 144 zero_f) (replicate 2304 0)
unfolding most cs row_numbers
before = refl

-- This is what the call gives out, from the table's rows.
abbrev out : List (List ℕ) → Answer × List Float × List ℕ
out t = elim (holds eqb 48 (join t)) [ true ↦ (refused_with Open 48, join cs, replicate 2304 no_image) | false ↦ (Ok 48, join cs, join t) ]

pub after : copy_out 48 axis_orders cs (replicate 144 zero_f) (replicate 2304 0) ≡ (Ok 48, join cs, join products)
unfolding copy_out copy_table row_of written cs zip orders range join signed axis_order axis_orders row_numbers zero_f one_f neg products place eq_list of_bits holds
after = ap out rows

-- This is the case "(1,2,3) 48", which document 01 marks P, with the points and the table written out.
pub forty_eight : copy_call 3 abc (join (join axis_orders)) (replicate 144 zero_f) (replicate 2304 0) ≡ (Ok 48, join cs, join products)
forty_eight = before ∙ after
