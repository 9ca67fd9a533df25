-- This file says how the struct of the code is read.
-- Assumes nothing.
use Rattle.std.specs.Prelude.{List, map, ℕ, ◌*◌, take, drop, Float}
use Rattle.spec.specs.Limits.{max_dimension}
use Rattle.spec.specs.Lists.{range}
use Rattle.spec.specs.Matrix.{Vector}
use Rattle.spec.specs.Hull as spec
use Rattle.geometry.specs.declared.hull.Hull.{Hull}

-- Gives vector k of a flat basis, in d dimensions.
abbrev pub vector_at : ℕ → List Float → ℕ → Vector
vector_at d b k = take d (drop (k * max_dimension) b)

-- Gives the hull in d dimensions that the struct holds: its offset, and `count` vectors of its basis.
unfoldable pub hull_in : ℕ → Hull → spec.Hull
hull_in d h = record { offset = take d h.offset; basis = map (vector_at d h.basis) (range 0 h.count) }
