-- What McMullen and Schulte say of flags, and what section 5 says of every solid whose sheet passes preflight, both as it was read and after search has
-- exchanged its facets.
-- Assumes nothing.
use Rattle.std.specs.Prelude.{◌≡◌, ◌≢◌, ◌↔◌, ℕ, suc, ◌-◌, ◌≤◌, ◌<◌, true, List, [], length, get_or, Ok}
use Rattle.spec.specs.Lists.{In}
use Rattle.spec.specs.Types.{Solid, top, size, subs}
use Rattle.spec.specs.Demand.{Sound, Proper}
use Rattle.spec.specs.Solid.{Concrete, diamond, preflight}
use Rattle.spec.specs.Flags.{Flag, element_at, first_flag, flags, change, IsFlag}
use Rattle.spec.specs.Search.{exchanged_in}

-- ---- flags and their changes

-- F comes before G: at some rank F's element is the lower, and at every rank above that one they have the same element.
-- Subs are listed rising, so a later sub has a greater number. That is "the sub at rank 1 moving fastest": flags with the same elements at the ranks
-- above 1 stand together, and among them the vertex rises; and so each rank moves faster than those above it.
pub record Before (F G : Flag) : Type 0 where
  pub rank : ℕ
  pub lower : element_at F rank < element_at G rank
  pub above : (q : ℕ) → rank < q → element_at F q ≡ element_at G q

-- `flags` lists the maximal chains, each once, in the order of `Before`.
pub record FlagsListed (s : Solid) : Type 0 where
  pub exact : (F : Flag) → In F (flags s) ↔ IsFlag s F
  pub once : (i j : ℕ) → i < length (flags s) → j < length (flags s) → get_or (flags s) i [] ≡ get_or (flags s) j [] → i ≡ j
  pub order : (i j : ℕ) → i < j → j < length (flags s) → Before (get_or (flags s) i []) (get_or (flags s) j [])

-- F and G differ exactly at rank r.
abbrev pub DifferAt : ℕ → Flag → Flag → Type 0
DifferAt r F G = (element_at F r ≢ element_at G r) × ((q : ℕ) → q ≢ r → element_at F q ≡ element_at G q)

-- The change of F at r is the one flag that differs from F exactly at r, and changing twice gives F back.
pub record Changed (s : Solid) (r : ℕ) (F : Flag) : Type 0 where
  pub flag : IsFlag s (change s r F)
  pub differs : DifferAt r F (change s r F)
  pub only : (G : Flag) → IsFlag s G → DifferAt r F G → G ≡ change s r F
  pub twice : change s r (change s r F) ≡ F

abbrev pub EveryFlagOnce : Type 0
EveryFlagOnce = (s : Solid) → Sound s → FlagsListed s

-- Where every element but the least has a sub, the first flag is a flag, and it is the first that is listed.
abbrev pub EveryFirst : Type 0
EveryFirst = (s : Solid) → Sound s → ((r e : ℕ) → e < size s (suc r) → 0 < length (subs s (suc r) e)) → IsFlag s (first_flag s) × (get_or (flags s) 0 [] ≡ first_flag s)

abbrev pub EveryChange : Type 0
EveryChange = (s : Solid) → Sound s → diamond s ≡ true → (r : ℕ) → Proper s r → (F : Flag) → IsFlag s F → Changed s r F

-- ---- section 5

-- This is what section 5 says of a solid's flags.
pub record FlagsOf (s : Solid) : Type 0 where
  -- The iterator "gives every flag once, the sub at rank 1 moving fastest".
  pub listed : FlagsListed s
  -- `first_flag` is a flag, and it is the first that the iterator gives.
  pub first : IsFlag s (first_flag s)
  pub starts : get_or (flags s) 0 [] ≡ first_flag s
  -- Changing a flag does what section 5 says: "A change at r gives the other of the two elements between its neighbours".
  pub changed : (r : ℕ) → Proper s r → (F : Flag) → IsFlag s F → Changed s r F

-- These laws hold of the flags of the solid as read, and of the one that search walks, where facet f has changed places with facet 0.
pub record FlagLaws (c : Concrete) : Type 0 where
  pub read : FlagsOf c.abs
  pub searched : 2 ≤ top c.abs → (f : ℕ) → f < size c.abs (top c.abs - 1) → FlagsOf (exchanged_in c.abs f)

abbrev pub EveryFlagLaw : Type 0
EveryFlagLaw = (b : List ℕ) (words floats : ℕ) (c : Concrete) → preflight b words floats ≡ Ok c → FlagLaws c
