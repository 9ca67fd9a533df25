-- The loop's invariant is that h is below the limit for numbers that are mixed.
-- Assumes nothing.
use Prim.Native.Nat.{◌<◌}
use Rattle.points.specs.Guesses.{mixed_limit}
use Rattle.points.proofs.lookup.place.Given as goal

abbrev pub invariant-loop-x : goal.invariant-loop-x
invariant-loop-x l = l.h < mixed_limit
