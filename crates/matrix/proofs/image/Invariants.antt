-- The loop's invariant is that the cells below i hold the rows' dots.
-- Assumes nothing.
use mathlib.Core.List.{[]}
use lib.ListN.{get_or, take}
use Rattle.spec.specs.Float.{dot}
use Rattle.float.proofs.Written.{Written}
use Rattle.matrix.proofs.image.Given as goal

abbrev pub invariant-loop-i : goal.invariant-loop-i
invariant-loop-i l = Written (λ x. x) (λ k. dot (take l.d (get_or l.fn.m k [])) (take l.d l.v)) l.initial.r l.r l.i
