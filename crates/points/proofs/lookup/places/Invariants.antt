-- The loop's invariant is that the points are lone and the table has its length.
-- Assumes nothing.
use mathlib.Core.Path.{◌≡◌}
use lib.ListN.{length}
use Rattle.points.specs.Guesses.{Lone, places}
use Rattle.points.specs.Listed.{listed}
use Rattle.points.proofs.lookup.places.Given as goal

abbrev pub invariant-loop-k : goal.invariant-loop-k
invariant-loop-k l = Lone (listed l.points) × (length l.table ≡ places)
