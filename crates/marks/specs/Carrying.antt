-- This file says what a permutation of a solid's vertices carries, and where cells say that each element goes.
-- Assumes nothing.
use Rattle.std.specs.Prelude.{◌≡◌, ℕ, ◌+◌, ◌-◌, ◌≤◌, ◌<◌, Bool, List, length, get_or}
use Rattle.spec.specs.Lists.{range, every}
use Rattle.spec.specs.Types.{size, Classes}
use Rattle.spec.specs.Mark.{goes, carries_element}
use Rattle.spec.specs.Solid.{Concrete}
use Rattle.spec.specs.Classes.{class_table, by_table}
use Rattle.ranked.specs.Words.{first_at, size_at, total}
use Rattle.ranked.specs.Layout.{solid_on}
use Rattle.ranked.specs.Lying.{abs_of}
use Rattle.marks.specs.declared.Markable.{Markable}
use Rattle.marks.specs.declared.Permutation.{Permutation}

-- Gives the solid whose rows are marked, with the coordinates that the floats start with.
abbrev pub concrete_in : Markable → Concrete
concrete_in m = solid_on m.solid.shape m.solid.lists.now m.floats.now

-- Gives its distance classes.
abbrev pub classes_of : Markable → Classes
classes_of m = by_table (class_table (concrete_in m))

-- Tells whether the permutation carries every element of rank r.
abbrev pub carries_rank : Permutation → ℕ → Bool
carries_rank p r =
    let s = abs_of p.markable.solid in
    every (carries_element s (classes_of p.markable) p.row.now r) (range 0 (size s r))

-- Cell first_at sh r + e, of the shape sh, says where element e of rank r goes, and that is an element of the rank.
abbrev pub Images : Permutation → List ℕ → ℕ → Type 0
Images p cells r =
    let sh = p.markable.solid.shape in
    let to = goes (abs_of p.markable.solid) p.row.now r in
    (e : ℕ) → e < size_at sh r → (get_or cells (first_at sh r + e) 0 ≡ to e) × (to e < size_at sh r)

-- Rank r is proper, and the cells have room for every element and hold the images of the rank below, unless that is the rank of the least element.
pub record Rank (p : Permutation) (cells : List ℕ) (r : ℕ) : Type 0 where
  pub low : 1 ≤ r
  pub high : r < p.markable.solid.shape.rank
  pub room : total p.markable.solid.shape ≤ length cells
  pub below : 2 ≤ r → Images p cells (r - 1)
