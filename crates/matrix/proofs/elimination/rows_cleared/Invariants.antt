-- The loop's invariant is that the rows below r are done, as their first d + d entries show.
-- Assumes nothing.
use Prim.Native.Nat.{◌+◌}
use lib.ListN.{take}
use Rattle.spec.specs.Matrix.{row}
use Rattle.float.proofs.Written.{Written}
use Rattle.matrix.proofs.Leading.{next_row}
use Rattle.matrix.proofs.elimination.rows_cleared.Given as goal

abbrev pub invariant-loop-r : goal.invariant-loop-r
invariant-loop-r l = Written (take (l.d + l.d)) (λ k. next_row l.c (take (l.d + l.d) l.pivot) k (take (l.d + l.d) (row l.fn.rows k))) l.initial.x l.x l.r
