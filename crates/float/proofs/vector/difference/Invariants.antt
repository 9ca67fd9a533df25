-- The loop's invariant is that the cells below i hold the differences.
-- Assumes nothing.
use lib.ListN.{get_or}
use lib.Ieee.{nan}
use Rattle.spec.specs.Float.{minus}
use Rattle.float.proofs.Written.{Written}
use Rattle.float.proofs.vector.difference.Given as goal

abbrev pub invariant-loop-i : goal.invariant-loop-i
invariant-loop-i l = Written (λ x. x) (λ k. minus (get_or l.a k nan) (get_or l.b k nan)) l.initial.r l.r l.i
