-- This file says what holds of every solid that passes preflight, and what the exchange of facets keeps.
-- Assumes nothing.
use Rattle.std.specs.Prelude.{◌≡◌, ℕ, suc, ◌-◌, ◌≤◌, ◌<◌, true, List, length, Float, Ok}
use Rattle.spec.specs.Limits.{max_rank, max_dimension, max_count}
use Rattle.spec.specs.Lists.{In}
use Rattle.spec.specs.Float.{in_range}
use Rattle.spec.specs.Types.{Solid, top, size, subs}
use Rattle.spec.specs.Demand.{Sound}
use Rattle.spec.specs.Sheet.{Parsed, read_sheet}
use Rattle.spec.specs.Solid.{Concrete, solid_of, bound, diamond, preflight}
use Rattle.spec.specs.Search.{exchanged_in}

-- The sheet was read, the solid is the one that the sheet says, it is as section 2 allows, and neither 5 nor 6 applies to it.
pub record Passed (b : List ℕ) (c : Concrete) : Type 0 where
  pub parsed : Parsed
  pub read : read_sheet b ≡ Ok parsed
  pub solid : c.abs ≡ solid_of parsed
  pub rank : top c.abs ≡ parsed.rank
  pub dimension : c.dimension ≡ parsed.dimension
  pub same_points : c.points ≡ parsed.points
  pub sound : Sound c.abs
  -- The solid keeps to the limits of section 2.
  pub tall : top c.abs ≤ max_rank
  pub wide : c.dimension ≤ max_dimension
  pub sizes : (r : ℕ) → r ≤ top c.abs → (0 < size c.abs r) × (size c.abs r ≤ max_count)
  -- Each vertex has a point, with D coordinates that are on the board.
  pub points : length c.points ≡ size c.abs 1
  pub coordinates : (x : List Float) → In x c.points → (length x ≡ c.dimension) × ((y : Float) → In y x → in_range y ≡ true)
  -- Every element but the least has a sub.
  pub filled : (r e : ℕ) → e < size c.abs (suc r) → 0 < length (subs c.abs (suc r) e)
  pub joined : bound c.abs ≡ true
  pub diamonds : diamond c.abs ≡ true

abbrev pub EveryPassed : Type 0
EveryPassed = (b : List ℕ) (words floats : ℕ) (c : Concrete) → preflight b words floats ≡ Ok c → Passed b c

-- The exchange of facets keeps what section 2 and the diamond ask, every rank's size, and the verdict of the test behind refusal 5.
pub record ExchangeKept (s t : Solid) : Type 0 where
  pub sound : Sound t
  pub diamonds : diamond t ≡ true
  pub rank : top t ≡ top s
  pub sizes : (r : ℕ) → size t r ≡ size s r
  pub filled : (r e : ℕ) → e < size t (suc r) → 0 < length (subs t (suc r) e)
  pub joined : bound t ≡ bound s

abbrev pub EveryExchange : Type 0
EveryExchange =
    (s : Solid) → Sound s → diamond s ≡ true → ((r e : ℕ) → e < size s (suc r) → 0 < length (subs s (suc r) e))
    → 2 ≤ top s → (f : ℕ) → f < size s (top s - 1) → ExchangeKept s (exchanged_in s f)
