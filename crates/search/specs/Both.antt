-- This file says what the types call and a search or rotations call promise together, both run on one sheet and in one workspace.
-- Assumes nothing.
use Rattle.std.specs.Prelude.{◌≡◌, List, ℕ, ◌<◌, length, get_or, Ok}
use Rattle.spec.specs.Refusal.{answer_count, Answer}
use Rattle.spec.specs.Types.{size, start, Step, play}
use Rattle.spec.specs.Demand.{Proper, AllProper}
use Rattle.spec.specs.Classes.{class_table, by_table}
use Rattle.spec.specs.Calls.{TypesOut, types_call, SearchOut}
use Rattle.spec.specs.Demand3Calls.{row_at}
use Rattle.types.specs.Demand3.{KeepsCell, Demand3Cells}
use Rattle.search.specs.Demand3.{Demand3Rows}
use Rattle.search.specs.declared.both_calls.Answers.{Answers}

-- The sheet is b, and `call` is the search call or the rotations call. Each output is that of its call's definition, and where the types are given
-- out, demand 3 is told of the cells and of the rows that stand in the outputs now.
pub record BothCalls (call : List ℕ → ℕ → ℕ → SearchOut → Answer × SearchOut) (b : List ℕ) (words floats : ℕ) (r : Answers) (old new : TypesOut) (before after : SearchOut) : Type 0 where
  pub types : (r.types, new) ≡ types_call b words floats old
  pub members : (r.members, after) ≡ call b words floats before
  pub cells : (n : ℕ) → r.types ≡ Ok n → Demand3Cells b words floats new.elements
  pub rows : (n : ℕ) → r.types ≡ Ok n → Demand3Rows b words floats old n (answer_count r.members) after.rows after.marks
  -- The third claim of demand 3 holds of the listed members and of the cells: each listed row with mark 1 takes every proper element to one of its
  -- own rank, which has its type after the steps and whose cell holds the same number.
  pub kept : (n : ℕ) (d : r.types ≡ Ok n) →
      let c = (rows n d).types.solid in
      (xs : List Step) → AllProper c.abs xs → (k : ℕ) → k < answer_count r.members → get_or after.marks k 0 ≡ 1
      → (q e : ℕ) → Proper c.abs q → e < size c.abs q
      → KeepsCell c.abs (play c.abs (start c.abs (by_table (class_table c))) xs) new.elements (row_at (length c.points) k after.rows) q e
