-- There is one case for a number below zero, one for a zero, and one for every other float.
-- Assumes nothing.
use Rattle.float.proofs.Magnitude.{below-zero, at_zero, above_zero}
use Rattle.float.proofs.tolerance.magnitude.Goals as goal

pub returns-then-x : goal.returns-then-x
returns-then-x c = below-zero _ c.if-x.true

pub returns-then-x-2 : goal.returns-then-x-2
returns-then-x-2 c = at_zero _ c.well_formed.0.1 c.if-x-2.true

pub returns : goal.returns
returns c = above_zero _ c.if-x.false c.if-x-2.false
