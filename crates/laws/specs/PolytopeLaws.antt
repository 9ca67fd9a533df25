-- The theorems that tie the order, the maximal chains and the diamonds of a solid to the lists and the tests that the calls go by.
-- Assumes nothing.
use Rattle.std.specs.Prelude.{◌≡◌, ◌↔◌, ℕ, suc, ◌-◌, ◌≤◌, ◌<◌, true, List, [], ◌∷◌, length, Ok}
use Rattle.spec.specs.Types.{Solid, top, size, subs}
use Rattle.spec.specs.Demand.{Sound}
use Rattle.spec.specs.Solid.{Concrete, bound, diamond, preflight}
use Rattle.spec.specs.Search.{exchanged_in}
use Rattle.spec.specs.Polytope.{Element, IsElement, AtMost, top_element, IsMaximal, elements_of, Ordered, MaximalChains, Diamonds, Polytope}
use Rattle.spec.specs.SolidExamples.{square}

-- Every element but the least has a sub.
abbrev pub Filled : Solid → Type 0
Filled s = (r e : ℕ) → e < size s (suc r) → 0 < length (subs s (suc r) e)

abbrev pub EveryOrder : Type 0
EveryOrder = (s : Solid) → Sound s → Filled s → bound s ≡ true → Ordered s

-- The test behind refusal 5 passes exactly when every element is at most the top.
abbrev pub EveryBound : Type 0
EveryBound = (s : Solid) → Sound s → Filled s → (bound s ≡ true) ↔ ((F : Element) → IsElement s F → AtMost s F (top_element s))

abbrev pub EveryMaximalChain : Type 0
EveryMaximalChain = (s : Solid) → Sound s → Filled s → bound s ≡ true → MaximalChains s

-- The test behind refusal 6 passes exactly when the solid has P4.
abbrev pub EveryDiamond : Type 0
EveryDiamond = (s : Solid) → Sound s → (diamond s ≡ true) ↔ Diamonds s

-- The solid as read has these properties, and so has the one that search walks, where facet f has changed places with facet 0.
pub record Polytopes (c : Concrete) : Type 0 where
  pub read : Polytope c.abs
  pub searched : 2 ≤ top c.abs → (f : ℕ) → f < size c.abs (top c.abs - 1) → Polytope (exchanged_in c.abs f)

abbrev pub EveryPolytope : Type 0
EveryPolytope = (b : List ℕ) (words floats : ℕ) (c : Concrete) → preflight b words floats ≡ Ok c → Polytopes c

-- This is what the theorems say of the square: the elements of its first flag are a maximal chain, and P4 holds.
pub record OfSquare : Type 0 where
  pub chain : IsMaximal square (elements_of (0 ∷ 0 ∷ 0 ∷ 0 ∷ []))
  pub diamonds : Diamonds square
