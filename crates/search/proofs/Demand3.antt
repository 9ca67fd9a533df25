-- Demand 3 follows from the theorem about the calls' definitions.
-- Assumes nothing.
use mathlib.Core.Path.{◌≡◌, sym, subst}
use mathlib.Core.Bool.{Bool, true, false}
use mathlib.Core.List.{List}
use Prim.Native.Nat.{ℕ, ◌<◌}
use lib.ListN.{length, get_or}
use Rattle.spec.specs.Refusal.{answer_count, Answer}
use Rattle.spec.specs.Types.{size, State}
use Rattle.spec.specs.Solid.{Concrete}
use Rattle.spec.specs.Calls.{SearchOut, search_call, rotations_call}
use Rattle.spec.specs.Demand3Calls.{row_at, KeepsType, ListedMembers, Demand3After}
use Rattle.laws.proofs.Demand3Calls.{demand3_calls}
use Rattle.search.specs.Reading.{call_of}
use Rattle.search.specs.Demand3.{Demand3Told}

module _ (b : List ℕ) (c : Concrete) (S z : State) where
  -- What holds of a call's definition holds of what it answers.
  answered : (call : List ℕ → ℕ → ℕ → SearchOut → Answer × SearchOut) → ListedMembers call b c S z → (words floats : ℕ) (old : SearchOut) (y : Answer × SearchOut) → y ≡ call b words floats old
      → (k : ℕ) → k < answer_count y.0 → get_or y.1.marks k 0 ≡ 1 → (q e : ℕ) → e < size c.abs q → KeepsType c.abs S z (row_at (length c.points) k y.1.rows) q e
  answered call l words floats old y p =
      subst (λ (u : Answer × SearchOut). (k : ℕ) → k < answer_count u.0 → get_or u.1.marks k 0 ≡ 1 → (q e : ℕ) → e < size c.abs q → KeepsType c.abs S z (row_at (length c.points) k u.1.rows) q e)
      (sym p) (l.confirmed words floats old)

  either : Demand3After b c S z → (rot : Bool) (words floats : ℕ) (old new : SearchOut) (r : Answer) → (r, new) ≡ call_of rot b words floats old
      → (k : ℕ) → k < answer_count r → get_or new.marks k 0 ≡ 1 → (q e : ℕ) → e < size c.abs q → KeepsType c.abs S z (row_at (length c.points) k new.rows) q e
  either d false words floats old new r p = answered search_call d.searches words floats old (r, new) p
  either d true words floats old new r p = answered rotations_call d.rotations words floats old (r, new) p

-- Both promises of a call follow from its equation.
pub told : (rot : Bool) (b : List ℕ) (words floats : ℕ) (old new : SearchOut) (r : Answer) → (r, new) ≡ call_of rot b words floats old
    → ((r, new) ≡ call_of rot b words floats old) × Demand3Told b (answer_count r) new.rows new.marks
told rot b words floats old new r e = (
  e,
  λ w f o n d.
      let z = demand3_calls b w f o n d in
      record { types = z; listed = λ xs p. either b z.solid _ z.result (z.steps xs p) rot words floats old new r e },
)
