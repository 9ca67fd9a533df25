-- This file says how arrays of arrays are read as matrices, and what the cells that no entry needs hold. A d by d matrix is the leading part of an
-- array of arrays.
-- Assumes nothing.
use Rattle.std.specs.Prelude.{List, ◌++◌, map, ℕ, ◌+◌, ◌-◌, take, length, replicate, Float}
use Rattle.spec.specs.Limits.{max_dimension}
use Rattle.spec.specs.Float.{zero_f}
use Rattle.spec.specs.Matrix.{Matrix}
use Rattle.float.specs.Reading.{padded}

-- A working row of the elimination has room for a row of the matrix and one of the identity.
abbrev pub width : ℕ
width = max_dimension + max_dimension

-- Gives the first n entries of the first d rows.
unfoldable pub leading : ℕ → ℕ → List (List Float) → Matrix
leading d n m = map (take n) (take d m)

-- Gives the d by d matrix that an array of arrays begins with.
unfoldable pub corner : ℕ → List (List Float) → Matrix
corner d m = leading d d m

-- Puts a matrix into an array of arrays: its rows stand first, each padded, and rows of +0.0 after them.
unfoldable pub padded_rows : Matrix → List (List Float)
padded_rows m = map padded m ++ replicate (max_dimension - length m) (replicate max_dimension zero_f)
