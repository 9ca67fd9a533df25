-- This file has the arithmetic of matrices that stand row by row, d times d floats each.
-- Assumes nothing.
use Prim.Native.Nat.{ℕ, ◌*◌, ◌≤◌}
use native.Mathlib.Nat.{mul-le-mul, mul-pos}
use Rattle.spec.specs.Limits.{max_dimension}

-- The square of a dimension is at most 16.
pub square : (d : ℕ) → d ≤ max_dimension → d * d ≤ max_dimension * max_dimension
square d h = mul-le-mul h h

pub square_pos : (d : ℕ) → 1 ≤ d → 1 ≤ d * d
square_pos d h = mul-pos h h
