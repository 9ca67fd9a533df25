-- Demand 3: of every solid that section 2 allows, and of every types call.
-- Assumes nothing.
use Rattle.std.specs.Prelude.{◌≡◌, ℕ, List, Some, Ok}
use Rattle.spec.specs.Types.{Solid, Classes, State, start, Step, play, result}
use Rattle.spec.specs.Demand.{Sound, AllProper, Agree}
use Rattle.spec.specs.Calls.{TypesOut, types_call}
use Rattle.spec.specs.Demand3Calls.{Demand3Call}

-- Demand 3 holds for every solid that section 2 allows, its result, and the state after any list of steps at proper ranks.
abbrev pub Demand3 : Type 0
Demand3 =
    (s : Solid) → Sound s → (cls : Classes) (z : State) → result s cls ≡ Some z
    → (xs : List Step) → AllProper s xs → Agree s cls (play s (start s cls) xs) z

-- Demand 3 of every types call that gives out types, from the sheet's bytes.
abbrev pub Demand3Calls : Type 0
Demand3Calls = (b : List ℕ) (words floats : ℕ) (old : TypesOut) (n : ℕ) → (types_call b words floats old).0 ≡ Ok n → Demand3Call b words floats old n
