-- The loop's invariant is that the rows below i hold the columns.
-- Assumes nothing.
use mathlib.Core.List.{map}
use lib.ListN.{get_or}
use Rattle.spec.specs.Float.{zero_f}
use Rattle.float.specs.Reading.{padded}
use Rattle.matrix.specs.Reading.{corner}
use Rattle.float.proofs.Written.{Written}
use Rattle.matrix.proofs.from_columns.Given as goal

abbrev pub invariant-loop-i : goal.invariant-loop-i
invariant-loop-i l = Written (λ x. x) (λ j. padded (map (λ row. get_or row j zero_f) (corner l.d l.c))) l.initial.r l.r l.i
