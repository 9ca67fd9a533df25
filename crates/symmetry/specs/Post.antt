-- This file says what the parts of a candidate's test say, over flags as plain lists.
-- Assumes nothing.
use Rattle.std.specs.Prelude.{◌≡◌, Bool, ℕ, suc, eqb}
use Rattle.spec.specs.Lists.{range, every}
use Rattle.spec.specs.Types.{Solid, State, type_of, proper_ranks}
use Rattle.spec.specs.Flags.{Flag, IsFlag, element_at}
use Rattle.spec.specs.Search.{changes}

-- The flag G is F after a round, in which ranks 1 to R−1 change in turn. It is a flag again, so that a further round can be made.
pub record Turned (s : Solid) (F G : Flag) : Type 0 where
  pub is : G ≡ changes s (proper_ranks s) F
  pub flag : IsFlag s G

-- Tells whether F's elements have G's types, at ranks 0 to R. With the first flag for G, that is spec's `same_types`.
abbrev pub types_agree : State → ℕ → Flag → Flag → Bool
types_agree z R F G = every (λ r. eqb (type_of z r (element_at F r)) (type_of z r (element_at G r))) (range 0 (suc R))
