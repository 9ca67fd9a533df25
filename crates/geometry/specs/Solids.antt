-- This file counts the proper elements of a solid by itself, which stands in no words.
-- Assumes nothing.
use Rattle.std.specs.Prelude.{ℕ, ◌-◌, map}
use Rattle.spec.specs.Lists.{range, sum}
use Rattle.spec.specs.Types.{Solid, size}

-- Counts the proper elements below rank r.
unfoldable pub before_in : Solid → ℕ → ℕ
before_in s r = sum (map (λ k. size s k) (range 1 (r - 1)))
