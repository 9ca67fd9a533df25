-- This file has products of rows, a row being the vertex that each vertex goes to.
-- Assumes nothing.
use Rattle.std.specs.Prelude.{ℕ, List, map, get_or}

-- Gives the row of b and then a, which takes vertex v to a's entry at b's entry at v.
unfoldable pub composed : List ℕ → List ℕ → List ℕ
composed a b = map (λ v. get_or a v 0) b
