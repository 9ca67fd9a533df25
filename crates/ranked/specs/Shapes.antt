-- This file says which shape a solid has, by the counts of its ranks and the entries of its lists.
-- Assumes nothing.
use Rattle.std.specs.Prelude.{◌≡◌, true, false, ℕ, zero, suc, ◌+◌, ◌≤◌, ◌<◌, List, map, length, get_or, leb, ltb}
use Rattle.spec.specs.Limits.{max_count, max_starts}
use Rattle.spec.specs.Lists.{range}
use Rattle.spec.specs.Types.{Solid, top, size}
use Rattle.spec.specs.Solid.{Concrete, entries}
use Rattle.ranked.specs.declared.Shape.{Shape}
use Rattle.ranked.specs.Layout.{low_of, sized}

-- Gives the number a, to which c of each number below n is added.
unfoldable pub running : ℕ → (ℕ → ℕ) → ℕ → ℕ
running a c zero = a
running a c (suc n) = running a c n + c n

-- ---- by the counts

-- Each proper rank of a solid of rank R has an element, and none has more than the limit.
abbrev pub CountsFit : ℕ → List ℕ → Type 0
CountsFit R counts = (k : ℕ) → suc k < R → (0 < get_or counts k 0) × (get_or counts k 0 ≤ max_count)

-- Counts the elements of rank r: one in ranks 0 and R, and in the proper ranks as many as the counts say.
unfoldable pub size_in : ℕ → List ℕ → ℕ → ℕ
size_in R counts zero = 1
size_in R counts (suc k) = elim (ltb (suc k) R) [ true ↦ get_or counts k 0 | false ↦ 1 ]

-- The ranks of a solid with this R and these counts start as `first` says.
pub record StartsCounted (R : ℕ) (counts first : List ℕ) : Type 0 where
  pub cells : length first ≡ max_starts
  pub at : (r : ℕ) → r ≤ suc R → get_or first r 0 ≡ running 0 (size_in R counts) r
  pub rest : (r : ℕ) → suc R < r → get_or first r 0 ≡ 0

-- The shape is that of a solid with this R, this D and these counts, whose stored lists have I entries.
pub record ShapeCounted (R D : ℕ) (counts : List ℕ) (I : ℕ) (sh : Shape) : Type 0 where
  pub rank : sh.rank ≡ R
  pub dimension : sh.dimension ≡ D
  pub starts : StartsCounted R counts sh.first
  pub low : sh.low ≡ low_of sh I

-- ---- by the solid

-- Counts the elements of s in the ranks below r, up to the rank above the top. The starts after that one are 0.
unfoldable pub start_in : Solid → ℕ → ℕ
start_in s r = elim (leb r (suc (top s))) [ true ↦ running 0 (λ q. size s q) r | false ↦ 0 ]

-- Gives the shape of a solid.
unfoldable pub shape_of : Concrete → Shape
shape_of c =
    let first = map (start_in c.abs) (range 0 max_starts) in
    sized (record { rank = top c.abs; dimension = c.dimension; first = first; low = 0 }) (entries c.abs)
