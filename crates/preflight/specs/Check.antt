-- This file has the parts of refusals 5 and 6 that the program tests one by one.
-- Assumes nothing.
use Rattle.std.specs.Prelude.{Bool, ℕ, suc, ◌-◌, length, eqb, ltb}
use Rattle.spec.specs.Lists.{range, every}
use Rattle.spec.specs.Types.{Solid, top, size, subs, sups}
use Rattle.spec.specs.Solid.{between}

-- ---- refusal 5

-- Tells whether each element of rank r has a sup.
unfoldable pub bound_rank : Solid → ℕ → Bool
bound_rank s r = every (λ e. ltb 0 (length (sups s r e))) (range 0 (size s r))

-- ---- refusal 6

-- Tells whether there are exactly two elements of rank r between g, one rank above, and each sub of f.
unfoldable pub two_under : Solid → ℕ → ℕ → ℕ → Bool
two_under s r g f = every (λ h. eqb (length (between s r g h)) 2) (subs s r f)

-- Tells whether there are exactly two between g and every sub of its subs.
unfoldable pub two_at : Solid → ℕ → ℕ → Bool
two_at s r g = every (two_under s r g) (subs s (suc r) g)

-- Tells whether this holds for each element of the rank above r.
unfoldable pub two_rank : Solid → ℕ → Bool
two_rank s r = every (two_at s r) (range 0 (size s (suc r)))

-- Tells whether it holds for each rank from k + 1 to R - 1.
unfoldable pub two_from : Solid → ℕ → Bool
two_from s k = every (two_rank s) (range (suc k) (top s - 1 - k))
