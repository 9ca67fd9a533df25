-- The cells below j are filled.
-- Assumes nothing.
use lib.ListN.{get_or}
use lib.Ieee.{nan}
use Rattle.spec.specs.Float.{over}
use Rattle.float.proofs.Written.{Written}
use Rattle.geometry.proofs.hull.fill_divided.Given as goal

abbrev pub invariant-loop-j : goal.invariant-loop-j
invariant-loop-j l = Written (λ x. x) (λ i. over (get_or l.v i nan) l.l) l.initial.cells l.cells l.j
