-- This file has the marks of a list of rows, and a row that is the product of two confirmed before it.
-- Assumes nothing.
use Rattle.std.specs.Prelude.{◌≡◌, ℕ, ◌<◌, List, map, length, get_or}
use Rattle.spec.specs.Solid.{Concrete}
use Rattle.spec.specs.Classes.{class_table, by_table}
use Rattle.spec.specs.Search.{mark_of}
use Rattle.spec.specs.Demand3Calls.{row_at}
use Rattle.ranked.specs.Lying.{abs_of}
use Rattle.marks.specs.declared.Markable.{Markable}
use Rattle.marks.specs.Carrying.{classes_of}
use Rattle.marks.specs.Products.{composed}

-- Gives the marks of some rows in the solid c.
abbrev pub marks_in : Concrete → List (List ℕ) → List ℕ
marks_in c = map (mark_of c.abs (by_table (class_table c)))

-- The first k marks are those of the first k rows, which have v entries each.
abbrev pub MarkedTo : Markable → ℕ → List ℕ → List ℕ → ℕ → Type 0
MarkedTo m v rows marks k = (j : ℕ) → j < k → get_or marks j 0 ≡ mark_of (abs_of m.solid) (classes_of m) (row_at v j rows)

-- The row after those that have the marks `done` is row g and then row a. Both have mark 1.
pub record Factored (v : ℕ) (rows done : List ℕ) : Type 0 where
  pub g : ℕ
  pub a : ℕ
  pub g-before : g < length done
  pub a-before : a < length done
  pub g-marked : get_or done g 0 ≡ 1
  pub a-marked : get_or done a 0 ≡ 1
  pub product : row_at v (length done) rows ≡ composed (row_at v a rows) (row_at v g rows)
