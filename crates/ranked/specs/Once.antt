-- A list rises in one way at most, so that the fact that words hold a solid may stand beside them in a struct.
-- Assumes nothing.
use Rattle.std.specs.Prelude.{ℕ, List, [], ◌∷◌}
use Rattle.std.specs.Coded.{×_prop, Unit-prop, le_prop}
use Rattle.spec.specs.Demand.{RisingAbove, Rising}

above-prop : (x : ℕ) (l : List ℕ) → IsProp (RisingAbove x l)
above-prop x [] = Unit-prop
above-prop x (y ∷ l) = ×_prop le_prop (above-prop y l)

pub rising-prop : (l : List ℕ) → IsProp (Rising l)
rising-prop [] = Unit-prop
rising-prop (x ∷ l) = above-prop x l
