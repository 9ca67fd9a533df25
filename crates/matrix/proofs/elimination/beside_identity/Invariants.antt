-- The loop's invariant is that the rows below i stand beside the identity's.
-- Assumes nothing.
use mathlib.Core.List.{◌++◌}
use Prim.Native.Nat.{◌+◌}
use lib.ListN.{take}
use Rattle.spec.specs.Matrix.{row, unit}
use Rattle.float.proofs.Written.{Written}
use Rattle.matrix.proofs.elimination.beside_identity.Given as goal

abbrev pub invariant-loop-i : goal.invariant-loop-i
invariant-loop-i l = Written (take (l.d + l.d)) (λ k. take l.d (row l.fn.m k) ++ unit l.d k) l.initial.r l.r l.i
