-- The loop's invariant is that the rows before i are the slice's.
-- Assumes nothing.
use Prim.Native.Nat.{◌*◌}
use lib.ListN.{take, drop}
use Rattle.float.proofs.Written.{Written}
use Rattle.points.proofs.matrix_at.Given as goal

abbrev pub invariant-loop-i : goal.invariant-loop-i
invariant-loop-i l = Written (take l.d) (λ i. take l.d (drop (i * l.d) (drop (l.j * (l.d * l.d)) l.matrices))) l.initial.row-items l.row-items l.i
