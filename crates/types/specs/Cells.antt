-- The cells of a rank's types come from the types of its elements.
-- Assumes nothing.
use Rattle.std.specs.Prelude.{◌≡◌, List, map, ℕ, ◌+◌, ◌*◌, ◌≤◌, length, eqb}
use Rattle.spec.specs.Limits.{max_rank, max_count}
use Rattle.spec.specs.Lists.{distinct, place, count, range, join}
use Rattle.spec.specs.Types.{ElementType}
use Rattle.spec.specs.Calls.{type_cells}

-- Gives type t of rank r, where the rank's elements have the types l.
abbrev pub describe : ℕ → List ℕ → ℕ → ElementType
describe r l t = record { rank = r; number = t; example = place eqb t l; count = count eqb t l }

-- Gives the cells of all the types of rank r, where the rank's elements have the types l.
unfoldable pub cells_of : ℕ → List ℕ → List ℕ
cells_of r l = join (map type_cells (map (describe r l) (distinct eqb l)))

-- The types are 0, 1, 2 and so on by first appearance.
abbrev pub InOrder : List ℕ → Type 0
InOrder l = distinct eqb l ≡ range 0 (length (distinct eqb l))

-- The elements of rank r have the types l, and the cells have room for these types, four cells each, behind m others.
pub record Listable (l : List ℕ) (r cells m : ℕ) : Type 0 where
  pub order : InOrder l
  pub few : length l ≤ max_count
  pub low : r ≤ max_rank
  pub room : 4 * (m + length (distinct eqb l)) ≤ cells
