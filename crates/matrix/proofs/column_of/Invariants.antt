-- The loop's invariant is that the cells below i hold the rows' entries at j.
-- Assumes nothing.
use mathlib.Core.List.{[]}
use lib.ListN.{get_or, take}
use Rattle.spec.specs.Float.{zero_f}
use Rattle.float.proofs.Written.{Written}
use Rattle.matrix.proofs.column_of.Given as goal

abbrev pub invariant-loop-i : goal.invariant-loop-i
invariant-loop-i l = Written (λ x. x) (λ k. get_or (take l.d (get_or l.fn.c k [])) l.j zero_f) l.initial.r l.r l.i
