-- A program numbers elements in lent words as section 4 says:
-- "Start: elements of a proper rank share a type exactly when they share a distance class."
-- Assumes nothing.
use Rattle.std.specs.Prelude.{◌≡◌, List, map, ℕ, ◌^◌, ◌≤◌, ◌<◌, length, get_or, take, eqb, Float}
use Rattle.std.specs.Float.{nan}
use Rattle.spec.specs.Lists.{renumber, range}
use Rattle.spec.specs.Types.{start}
use Rattle.spec.specs.Hull.{classes}
use Rattle.spec.specs.Classes.{distances, class_table, by_table}
use Rattle.ranked.specs.declared.Shape.{Shape}
use Rattle.ranked.specs.Words.{lists_of}
use Rattle.ranked.specs.Layout.{proper, scratch_at, solid_in, abstract_in}
use Rattle.geometry.specs.Classes.{same_class}
use Rattle.element_types.specs.State.{state_in, Sweepable}

-- ---- a rank

-- Two elements have the same number exactly when their classes are one.
abbrev pub Shares : List Float → (ℕ → ℕ) → Type 0
Shares classes cls =
    (e g : ℕ) → e < length classes → g < length classes → eqb (cls e) (cls g) ≡ same_class (get_or classes e nan) (get_or classes g nan)

-- There is room for a number of each element, and for the elements that are the first of a class.
pub record ClassesFit (classes : List Float) (numbers firsts : List ℕ) : Type 0 where
  pub numbered : length numbers ≡ length classes
  pub room : length classes ≤ length firsts
  pub small : length classes < 2 ^ 32

-- The numbers are those of the classes, by first appearance.
abbrev pub ByClass : List Float → List ℕ → Type 0
ByClass classes numbers = (cls : ℕ → ℕ) → Shares classes cls → numbers ≡ renumber eqb (map cls (range 0 (length classes)))

-- ---- all ranks

-- There is room for the types and for what numbering them uses, and each proper element has its cell.
pub record Startable (sh : Shape) (w : List ℕ) (cells : List Float) : Type 0 where
  pub sweepable : Sweepable sh w
  pub room : scratch_at sh ≤ length w
  pub inside : proper sh ≤ length cells

-- The lists stay as they were. Where the cells are the classes of the solid with some coordinates, the types are its start state.
pub record Begins (sh : Shape) (w v : List ℕ) (cells : List Float) : Type 0 where
  pub lists : lists_of sh v ≡ lists_of sh w
  pub state : (fs : List Float) → take (proper sh) cells ≡ classes (distances (solid_in sh w fs))
      → state_in sh v ≡ start (abstract_in sh w) (by_table (class_table (solid_in sh w fs)))
