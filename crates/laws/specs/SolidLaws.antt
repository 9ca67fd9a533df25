-- These are statements about the sups of any solid (section 2), and about the sups of the ridges after the exchange of facets (section 6).
-- Assumes nothing.
use Rattle.std.specs.Prelude.{◌≡◌, ◌≢◌, ◌↔◌, ℕ, suc, ◌-◌, ◌≤◌, ◌<◌, true, false, eqb}
use Rattle.spec.specs.Lists.{In}
use Rattle.spec.specs.Types.{Solid, top, size, subs, sups}
use Rattle.spec.specs.Demand.{Rising}
use Rattle.spec.specs.Search.{exchanged_in}

-- "Sups are derived, rising": the sups of the element e of rank r are the elements one rank above that have e as a sub.
pub record SupsOf (s : Solid) : Type 0 where
  pub rising : (r e : ℕ) → Rising (sups s r e)
  pub derived : (r e f : ℕ) → In f (sups s r e) ↔ ((f < size s (suc r)) × In e (subs s (suc r) f))

abbrev pub EverySups : Type 0
EverySups = (s : Solid) → SupsOf s

-- The numbers 0 and f change places, and every other number stays.
unfoldable pub swap : ℕ → ℕ → ℕ
swap f x = elim (eqb x 0) [ true ↦ f | false ↦ elim (eqb x f) [ true ↦ 0 | false ↦ x ] ]

-- The solid t is s where facet f "changes places with facet 0; ridges' sups follow and are sorted".
pub record SupsFollow (s : Solid) (f : ℕ) (t : Solid) : Type 0 where
  -- The facet at x is the one that stood at `swap f x`.
  pub moved : (x : ℕ) → subs t (top s - 1) x ≡ subs s (top s - 1) (swap f x)
  -- A ridge's sups are the facets that they were, by their new numbers.
  pub follow : (e x : ℕ) → In x (sups t (top s - 2) e) ↔ In (swap f x) (sups s (top s - 2) e)
  pub sorted : (e : ℕ) → Rising (sups t (top s - 2) e)
  -- The sups of any other rank stay as they were.
  pub others : (r e : ℕ) → r ≢ top s - 2 → sups t r e ≡ sups s r e

abbrev pub EverySupsFollow : Type 0
EverySupsFollow = (s : Solid) → 2 ≤ top s → (f : ℕ) → f < size s (top s - 1) → SupsFollow s f (exchanged_in s f)
