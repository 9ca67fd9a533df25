-- This file has the start state and the types of a solid that lies in lent words and floats.
-- Assumes nothing.
use Rattle.std.specs.Prelude.{◌≡◌, List, ℕ, length, take, Float, Result, ⊤}
use Rattle.spec.specs.declared.Refusal.{Refusal}
use Rattle.spec.specs.Types.{start}
use Rattle.spec.specs.Hull.{classes}
use Rattle.spec.specs.Classes.{distances, class_table, by_table, types_of}
use Rattle.ranked.specs.declared.Shape.{Shape}
use Rattle.ranked.specs.Words.{lists_of}
use Rattle.ranked.specs.Layout.{coordinates, solid_in, abstract_in, classes_in}
use Rattle.element_types.specs.State.{state_in, Countable}
use Rattle.element_types.specs.Settle.{Started, SweepsEnd}

-- The start state of the solid that lies in words w and floats fs is made in the words v and floats gs.
pub record AtStart (sh : Shape) (w v : List ℕ) (fs gs : List Float) : Type 0 where
  pub lists : lists_of sh v ≡ lists_of sh w
  pub points : take (coordinates sh) gs ≡ take (coordinates sh) fs
  pub lengths : (length v ≡ length w) × (length gs ≡ length fs)
  -- The class of every proper element stands where all_classes leaves it.
  pub cells : classes_in sh gs ≡ classes (distances (solid_in sh w fs))
  pub state : state_in sh v ≡ start (abstract_in sh w) (by_table (class_table (solid_in sh w fs)))
  -- Any step can be done from here, and so can the sweeps.
  pub started : Started sh v

-- The types of the solid that lies in words w and floats fs are worked out into the words v and floats gs.
pub record TypesMade (sh : Shape) (w v : List ℕ) (fs gs : List Float) (ending : Result ⊤ Refusal) : Type 0 where
  pub lists : lists_of sh v ≡ lists_of sh w
  pub points : take (coordinates sh) gs ≡ take (coordinates sh) fs
  pub lengths : (length v ≡ length w) × (length gs ≡ length fs)
  -- The class of every proper element stands where all_classes leaves it.
  pub cells : classes_in sh gs ≡ classes (distances (solid_in sh w fs))
  -- The result is the state in which the sweeps end, or there is none, which is refusal 15.
  pub ends : SweepsEnd ending (state_in sh v) (types_of (solid_in sh w fs))
  pub numbered : Countable sh v
