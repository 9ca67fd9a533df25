-- Demand 3's claims about states are said here of the cells that a types call leaves, so that a caller can rely on them.
-- Assumes nothing.
use Rattle.std.specs.Prelude.{◌≡◌, ◌≢◌, true, List, ℕ, ◌+◌, ◌<◌, get_or, Ok}
use Rattle.spec.specs.Types.{Solid, size, Classes, State, type_of, start, Step, play}
use Rattle.spec.specs.Mark.{marked, goes}
use Rattle.spec.specs.Demand.{Proper, AllProper, Steady}
use Rattle.spec.specs.Solid.{Concrete, preflight}
use Rattle.spec.specs.Classes.{class_table, by_table}
use Rattle.spec.specs.Calls.{TypesOut, types_call}
use Rattle.geometry.specs.Solids.{before_in}

-- Gives the cell that holds the type of element e of rank r. The elements have their cells "by rising rank and index".
abbrev pub type_cell : Solid → List ℕ → ℕ → ℕ → ℕ
type_cell s cells r e = get_or cells (before_in s r + e) 0

-- The row takes e to an element of its own rank, which has e's type in S and whose cell holds the same number as e's.
pub record KeepsCell (s : Solid) (S : State) (cells row : List ℕ) (r e : ℕ) : Type 0 where
  pub rank : goes s row r e < size s r
  pub after : type_of S r (goes s row r e) ≡ type_of S r e
  pub cell : type_cell s cells r (goes s row r e) ≡ type_cell s cells r e

-- This holds of a state S after a list of steps, and of the cells of the proper elements. The ranks of the least element and of the top have one
-- element each, and no cell.
pub record CellsAgree (s : Solid) (cls : Classes) (S : State) (cells : List ℕ) : Type 0 where
  -- Elements that S tells apart are told apart by the cells too.
  pub finer : (r e f : ℕ) → Proper s r → e < size s r → f < size s r → type_of S r e ≢ type_of S r f → type_cell s cells r e ≢ type_cell s cells r f
  -- If no step would part more, the cells hold the numbers of S.
  pub final : Steady s S → (r e : ℕ) → Proper s r → e < size s r → type_cell s cells r e ≡ type_of S r e
  -- A row that the mark's rule confirms takes every proper element to one of its own rank and type, whose cell holds the same number.
  pub confirmed : (row : List ℕ) → marked s cls row ≡ true → (r e : ℕ) → Proper s r → e < size s r → KeepsCell s S cells row r e

-- Demand 3 holds of the sheet b, whose types stand in the cells.
pub record Demand3Cells (b : List ℕ) (words floats : ℕ) (cells : List ℕ) : Type 0 where
  pub solid : Concrete
  pub read : preflight b words floats ≡ Ok solid
  -- The claims are "a single theorem over the whole list of steps".
  pub steps : (xs : List Step) → AllProper solid.abs xs →
      let cls = by_table (class_table solid) in
      CellsAgree solid.abs cls (play solid.abs (start solid.abs cls) xs) cells

-- Demand 3 holds of any call that is done. The equation is what the call's contract says.
abbrev pub Demand3Outputs : Type 0
Demand3Outputs =
    (b : List ℕ) (words floats : ℕ) (old new : TypesOut) (n : ℕ) → (Ok n, new) ≡ types_call b words floats old → Demand3Cells b words floats new.elements
