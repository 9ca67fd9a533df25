-- The loop's invariant is that the rows below i hold the product's.
-- Assumes nothing.
use mathlib.Core.List.{[], map}
use lib.ListN.{get_or, take}
use Rattle.spec.specs.Float.{dot}
use Rattle.float.specs.Reading.{padded}
use Rattle.matrix.specs.Reading.{corner}
use Rattle.float.proofs.Written.{Written}
use Rattle.matrix.proofs.product.Given as goal

abbrev pub invariant-loop-i : goal.invariant-loop-i
invariant-loop-i l = Written (λ x. x) (λ k. padded (map (dot (take l.d (get_or l.fn.a k []))) (corner l.d l.t))) l.initial.r l.r l.i
