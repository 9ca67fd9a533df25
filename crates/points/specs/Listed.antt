-- This file says which points stand in lent floats.
-- Assumes nothing.
use Rattle.std.specs.Prelude.{List, ℕ, ◌*◌, take, drop}
use Rattle.spec.specs.Lists.{parts}
use Rattle.spec.specs.Matrix.{Vector}
use Rattle.points.specs.declared.Points.{Points}

-- Gives the points, each of them so many floats as there are axes.
abbrev pub listed : Points → List Vector
listed p = parts p.count p.dimension p.floats.now

-- Gives point v.
abbrev pub listed_at : Points → ℕ → Vector
listed_at p v = take p.dimension (drop (v * p.dimension) p.floats.now)
