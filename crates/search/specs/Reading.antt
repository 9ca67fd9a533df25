-- This file says how the search's tests are read, and what is left of a call from one of its judgements on.
-- Assumes nothing.
use Rattle.std.specs.Prelude.{◌≡◌, ℕ, Bool, true, false, List, Float}
use Rattle.std.specs.Borrow.{MutBor}
use denote.Triple.Both.{Both}
use Rattle.spec.specs.Refusal.{Answer}
use Rattle.spec.specs.Judged.{Judged}
use Rattle.spec.specs.Solid.{Concrete}
use Rattle.spec.specs.Search.{Setting, exchanged}
use Rattle.spec.specs.Calls.{SearchOut, search_call, rotations_call}
use Rattle.symmetry.specs.Tails.{call_from, out_of}

-- Gives the search call, which lists all members, or the rotations call where the first argument is true.
abbrev pub call_of : Bool → List ℕ → ℕ → ℕ → SearchOut → Answer × SearchOut
call_of false = search_call
call_of true = rotations_call

-- An output is a slice that is lent to a function, as it is at the function's entry and at its exit.
abbrev pub Output : Type 0 → Type 0
Output A = Both (MutBor (List A)) (MutBor (List A))

-- With the judgements that are left of the solid c as read, which the workspace holds, the call answers a and makes of the outputs what they are at
-- the exit.
abbrev pub GivesRead : Bool → (Concrete → Judged Setting) → Concrete → Answer → Output Float → Output ℕ → Output ℕ → Type 0
GivesRead rot left c a matrices rows marks =
    (a, out_of matrices.exit.now rows.exit.now marks.exit.now)
    ≡ call_from rot c (left c) (out_of matrices.entry.now rows.entry.now marks.entry.now)

-- The same holds where the workspace has the solid d that is searched. In it facet f of the solid as read has changed places with facet 0.
abbrev pub GivesSearched : Bool → (Concrete → Concrete → Judged Setting) → ℕ → Concrete → Answer → Output Float → Output ℕ → Output ℕ → Type 0
GivesSearched rot left f d a matrices rows marks = GivesRead rot (λ c. left c d) (exchanged d f) a matrices rows marks
