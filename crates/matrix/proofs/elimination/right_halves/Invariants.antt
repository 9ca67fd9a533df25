-- The loop's invariant is that the rows below i hold the right halves.
-- Assumes nothing.
use mathlib.Core.List.{List}
use Prim.Native.Nat.{ℕ, ◌+◌}
use lib.ListN.{take, drop}
use lib.Ieee.{Float}
use Rattle.spec.specs.Matrix.{row}
use Rattle.float.specs.Reading.{padded}
use Rattle.float.proofs.Written.{Written}
use Rattle.matrix.proofs.elimination.right_halves.Given as goal

-- This is the right half of row k.
abbrev pub half : List (List Float) → ℕ → ℕ → List Float
half rows d k = drop d (take (d + d) (row rows k))

abbrev pub invariant-loop-i : goal.invariant-loop-i
invariant-loop-i l = Written (λ x. x) (λ k. padded (half l.fn.rows l.d k)) l.initial.r l.r l.i
