-- This file says which solid and which state of it lie in lent words that hold both.
-- Assumes nothing.
use Rattle.spec.specs.Types.{Solid, State}
use Rattle.ranked.specs.Layout.{abstract_in}
use Rattle.element_types.specs.declared.counting.Typed.{Typed}
use Rattle.element_types.specs.State.{state_in}

-- Gives the solid.
abbrev pub typed_solid : Typed → Solid
typed_solid t = abstract_in t.shape t.words.now

-- Gives the types of its elements, rank by rank.
abbrev pub typed_state : Typed → State
typed_state t = state_in t.shape t.words.now
