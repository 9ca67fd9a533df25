-- The cells below i are moved.
-- Assumes nothing.
use lib.ListN.{get_or}
use lib.Ieee.{nan}
use Rattle.float.proofs.Written.{Written}
use Rattle.geometry.proofs.Along.{by}
use Rattle.geometry.proofs.hull.step_along.Given as goal

abbrev pub invariant-loop-i : goal.invariant-loop-i
invariant-loop-i l = Written (λ x. x) (λ k. by l.s (get_or l.initial.q k nan) (get_or l.b k nan)) l.initial.q l.q l.i
