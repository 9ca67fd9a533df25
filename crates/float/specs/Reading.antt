-- This file says how the arrays of the code are read, and what the cells that no entry needs hold.
-- Assumes nothing.
use Rattle.std.specs.Prelude.{List, ◌++◌, ◌-◌, length, replicate, Float}
use Rattle.spec.specs.Limits.{max_dimension}
use Rattle.spec.specs.Float.{zero_f}
use Rattle.spec.specs.Matrix.{Vector}

-- Puts a vector into an array: its entries stand first, and +0.0 in each cell after them.
unfoldable pub padded : Vector → List Float
padded v = v ++ replicate (max_dimension - length v) zero_f
