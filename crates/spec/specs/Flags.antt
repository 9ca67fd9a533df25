-- This file has section 5: flags and their changes.
-- Assumes nothing.
use Rattle.std.specs.Prelude.{◌≡◌, ℕ, zero, suc, pred, ◌<◌, not, List, [], ◌∷◌, ◌++◌, map, length, get_or, set, eqb}
use Rattle.spec.specs.Lists.{In, keep, join}
use Rattle.spec.specs.Types.{Solid, top, subs}
use Rattle.spec.specs.Solid.{between}

-- A flag has "one element a rank", and it lists them by rank from 0 to R.
abbrev pub Flag : Type 0
Flag = List ℕ

abbrev pub element_at : Flag → ℕ → ℕ
element_at F r = get_or F r 0

-- The first flag "takes the first sub at each rank, from the top down". This part of it goes down from the element e of rank r.
unfoldable pub first_to : Solid → ℕ → ℕ → Flag
first_to s zero e = e ∷ []
first_to s (suc r) e = first_to s r (get_or (subs s (suc r) e) 0 0) ++ (e ∷ [])

unfoldable pub first_flag : Solid → Flag
first_flag s = first_to s (top s) 0

-- The list of flags gives "every flag once, the sub at rank 1 moving fastest". These are the parts of flags that go down from the element e of rank
-- r.
unfoldable pub flags_to : Solid → ℕ → ℕ → List Flag
flags_to s zero e = (e ∷ []) ∷ []
flags_to s (suc r) e = join (map (λ f. map (λ F. F ++ (e ∷ [])) (flags_to s r f)) (subs s (suc r) e))

unfoldable pub flags : Solid → List Flag
flags s = flags_to s (top s) 0

-- This is the first member of l that is not e.
unfoldable pub other : ℕ → List ℕ → ℕ
other e l = get_or (keep (λ x. not (eqb x e)) l) 0 e

-- "A change at r gives the other of the two elements between its neighbours."
unfoldable pub change : Solid → ℕ → Flag → Flag
change s r F = set F r (other (element_at F r) (between s r (element_at F (suc r)) (element_at F (pred r))))

-- F is a flag, which has "one element a rank, each a sub of the next". Such a list is a maximal chain.
pub record IsFlag (s : Solid) (F : Flag) : Type 0 where
  pub ranks : length F ≡ suc (top s)
  pub peak : element_at F (top s) ≡ 0
  pub chain : (r : ℕ) → r < top s → In (element_at F r) (subs s (suc r) (element_at F (suc r)))
