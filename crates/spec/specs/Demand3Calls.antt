-- What demand 3 says of the calls, from a sheet's bytes: of what the types call gives out, of any list of steps, and of the members that a search lists.
-- Assumes nothing.
use Rattle.std.specs.Prelude.{◌≡◌, ℕ, ◌*◌, ◌<◌, List, map, length, get_or, take, drop, Ok, Some}
use Rattle.spec.specs.Refusal.{answer_count, Answer}
use Rattle.spec.specs.Lists.{join, written}
use Rattle.spec.specs.Types.{Solid, size, State, type_of, start, Step, play, given, element_types}
use Rattle.spec.specs.Mark.{goes}
use Rattle.spec.specs.Demand.{AllProper, Agree}
use Rattle.spec.specs.Solid.{Concrete, preflight}
use Rattle.spec.specs.Classes.{class_table, by_table, types_of}
use Rattle.spec.specs.Calls.{type_cells, TypesOut, types_call, SearchOut, search_call, rotations_call}

-- This is row k of the cells, where each row has v cells.
unfoldable pub row_at : ℕ → ℕ → List ℕ → List ℕ
row_at v k cells = take v (drop (k * v) cells)

-- The row takes e to an element of its own rank, and of its own type in S and in the result z.
pub record KeepsType (s : Solid) (S z : State) (row : List ℕ) (r e : ℕ) : Type 0 where
  pub rank : goes s row r e < size s r
  pub after : type_of S r (goes s row r e) ≡ type_of S r e
  pub result : type_of z r (goes s row r e) ≡ type_of z r e

-- "Listed members are those that a search call writes out": each row that any search call, or rotations call, on the sheet b writes with mark 1 keeps
-- every element's type.
pub record ListedMembers (call : List ℕ → ℕ → ℕ → SearchOut → Answer × SearchOut) (b : List ℕ) (c : Concrete) (S z : State) : Type 0 where
  pub confirmed : (words floats : ℕ) (old : SearchOut) (k : ℕ) → k < answer_count (call b words floats old).0 → get_or (call b words floats old).1.marks k 0 ≡ 1
      → (r e : ℕ) → e < size c.abs r → KeepsType c.abs S z (row_at (length c.points) k (call b words floats old).1.rows) r e

-- This is what demand 3 says of the state S after a list of steps, and of the result z.
pub record Demand3After (b : List ℕ) (c : Concrete) (S z : State) : Type 0 where
  -- (a) What S tells apart, z tells apart; (b) if no step would part more, their numbers are the same; and (c) holds of any row that the mark's rule
  -- confirms.
  pub agree : Agree c.abs (by_table (class_table c)) S z
  -- (c) also holds of the listed members, in both calls that list them.
  pub searches : ListedMembers search_call b c S z
  pub rotations : ListedMembers rotations_call b c S z

-- This is what demand 3 says of a types call that gives out n types.
pub record Demand3Call (b : List ℕ) (words floats : ℕ) (old : TypesOut) (n : ℕ) : Type 0 where
  -- The solid is the sheet's, and "our result is what the types call gives out, the state when the sweeps end".
  pub solid : Concrete
  pub result : State
  pub read : preflight b words floats ≡ Ok solid
  pub ended : types_of solid ≡ Some result
  pub elements : (types_call b words floats old).1.elements ≡ written (given solid.abs result) old.elements
  pub types : (types_call b words floats old).1.types ≡ written (join (map type_cells (element_types solid.abs result))) old.types
  pub count : n ≡ length (element_types solid.abs result)
  -- Demand 3 is "a single theorem over the whole list of steps", so the list stands inside the statement.
  pub steps : (xs : List Step) → AllProper solid.abs xs → Demand3After b solid (play solid.abs (start solid.abs (by_table (class_table solid))) xs) result
