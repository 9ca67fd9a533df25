-- This file says how the structs of the code are read, and what comes after a flag.
-- Assumes nothing.
use Rattle.std.specs.Prelude.{◌≡◌, not, List, [], ◌++◌, ℕ, suc, ◌-◌, ◌≤◌, ◌<◌, length, get_or, take, drop, eqb, None, Option, Some}
use Rattle.std.specs.List.{slice_get}
use Rattle.spec.specs.Lists.{keep, place}
use Rattle.spec.specs.Types.{Solid, subs}
use Rattle.spec.specs.Flags as flags
use Rattle.flag.specs.declared.Flag.{Flag}

-- Gives the first number of l that is not e, if there is one. Where there is none, `other` of crate spec keeps e.
unfoldable pub other_in : ℕ → List ℕ → Option ℕ
other_in e l = slice_get (keep (λ x. not (eqb x e)) l) 0

-- Lists the elements of a flag by value, one for each rank from 0 to R. The cells past R are not read.
abbrev pub flag_in : ℕ → Flag → flags.Flag
flag_in R f = take (suc R) f.elements

-- What comes after F in `flags` is G, if anything comes, and otherwise F is the last flag.
pub record Follows (s : Solid) (F : flags.Flag) (after : Option flags.Flag) : Type 0 where
  pub next : (G : flags.Flag) → after ≡ Some G → (i : ℕ) → i < length (flags.flags s) → F ≡ get_or (flags.flags s) i []
      → (suc i < length (flags.flags s)) × (G ≡ get_or (flags.flags s) (suc i) [])
  pub end : after ≡ None → (i : ℕ) → i < length (flags.flags s) → F ≡ get_or (flags.flags s) i [] → suc i ≡ length (flags.flags s)

-- Flag number i of `flags` is F. This is what a loop over the flags knows of its flag.
pub record Nth (s : Solid) (F : flags.Flag) (i : ℕ) : Type 0 where
  pub low : i < length (flags.flags s)
  pub is : F ≡ get_or (flags.flags s) i []

-- Gives the number, among the subs of the element above it, of the sub after the element at rank r.
abbrev pub next_place : Solid → List ℕ → ℕ → ℕ
next_place s els r = suc (place eqb (get_or els r 0) (subs s (suc r) (get_or els (suc r) 0)))

-- If there is a flag, the element at rank r moves on to the next sub in it, and first subs are taken below. Otherwise it is the last sub.
pub record Moved (s : Solid) (R : ℕ) (els : List ℕ) (r : ℕ) (moved : Option Flag) : Type 0 where
  pub next : (f : Flag) → moved ≡ Some f → (next_place s els r < length (subs s (suc r) (get_or els (suc r) 0)))
      × (flag_in R f ≡ flags.first_to s r (get_or (subs s (suc r) (get_or els (suc r) 0)) (next_place s els r) 0) ++ take (R - r) (drop (suc r) els))
  pub end : moved ≡ None → length (subs s (suc r) (get_or els (suc r) 0)) ≤ next_place s els r
