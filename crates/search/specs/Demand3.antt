-- A search or rotations call promises the whole of demand 3, of a sheet whose types the types call gives out, for any list of steps at proper ranks
-- and for whatever buffers were lent to either call. The claims about types are spec's theorem of the calls (Demand3Calls), and the rows are those
-- that the call wrote.
-- Assumes nothing.
use Rattle.std.specs.Prelude.{◌≡◌, ℕ, ◌<◌, List, length, get_or, Ok}
use Rattle.spec.specs.Types.{size, start, Step, play}
use Rattle.spec.specs.Demand.{AllProper}
use Rattle.spec.specs.Classes.{class_table, by_table}
use Rattle.spec.specs.Calls.{TypesOut, types_call}
use Rattle.spec.specs.Demand3Calls.{row_at, KeepsType, Demand3Call}

-- Demand 3 holds of a types call that gives out the n types of the sheet b, and of a search or rotations call that answers a count of m members, with
-- its rows and marks.
pub record Demand3Rows (b : List ℕ) (words floats : ℕ) (old : TypesOut) (n m : ℕ) (rows marks : List ℕ) : Type 0 where
  -- What any list of steps parts, the result parts too. Where no step would part more, the numbers after the list are those of the result.
  pub types : Demand3Call b words floats old n
  -- Each listed member with mark 1 carries every element to one of its own rank and type, both after the list and in the result.
  pub listed : (xs : List Step) → AllProper types.solid.abs xs → (k : ℕ) → k < m → get_or marks k 0 ≡ 1 → (q e : ℕ) → e < size types.solid.abs q
      → KeepsType types.solid.abs (play types.solid.abs (start types.solid.abs (by_table (class_table types.solid))) xs) types.result
      (row_at (length types.solid.points) k rows) q e

-- The same holds, whatever was lent to the types call.
abbrev pub Demand3Told : List ℕ → ℕ → List ℕ → List ℕ → Type 0
Demand3Told b m rows marks =
    (words floats : ℕ) (old : TypesOut) (n : ℕ) → (types_call b words floats old).0 ≡ Ok n → Demand3Rows b words floats old n m rows marks
