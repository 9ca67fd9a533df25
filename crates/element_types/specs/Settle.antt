-- Sweeps are made in lent words, from the start until one leaves the number of types unchanged.
-- Assumes nothing.
use Rattle.std.specs.Prelude.{◌≡◌, List, ℕ, ◌≤◌, length, None, Option, Some, Result, Ok, Err, ⊤}
use Rattle.spec.specs.declared.Refusal.{Refusal}
use Rattle.spec.specs.declared.Refusal.TheVariants.{Unsettled}
use Rattle.spec.specs.Types.{Classes, State, start, result}
use Rattle.ranked.specs.declared.Shape.{Shape}
use Rattle.ranked.specs.Words.{lists_of}
use Rattle.ranked.specs.Layout.{scratch_at, abstract_in}
use Rattle.element_types.specs.State.{state_in, Sweepable, Countable}

-- The sweeps ended so with the state S: it is what the definitions give, or they give none, which is refusal 15.
abbrev pub SweepsEnd : Result ⊤ Refusal → State → Option State → Type 0
SweepsEnd (Ok _) S given = given ≡ Some S
SweepsEnd (Err why) S given = (why ≡ Unsettled) × (given ≡ None)

-- The types in the words are the start state by some classes, and there is room for the sweeps.
pub record Started (sh : Shape) (w : List ℕ) : Type 0 where
  pub sweepable : Sweepable sh w
  pub room : scratch_at sh ≤ length w
  pub classes : Classes
  pub state : state_in sh w ≡ start (abstract_in sh w) classes

-- The lists stay as they were, and the types are section 4's result by any classes that w starts from.
pub record Settles (sh : Shape) (w v : List ℕ) (ending : Result ⊤ Refusal) : Type 0 where
  pub lists : lists_of sh v ≡ lists_of sh w
  pub numbered : Countable sh v
  pub ends : (cls : Classes) → state_in sh w ≡ start (abstract_in sh w) cls
      → SweepsEnd ending (state_in sh v) (result (abstract_in sh w) cls)
