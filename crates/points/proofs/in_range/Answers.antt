-- The test compares the magnitude with the largest one, which is what the definition asks.
-- Assumes nothing.
use lib.Ieee.{of_bits}
use Rattle.spec.specs.Limits.{max_magnitude}
use Rattle.points.proofs.Nearness.{in_range_is}
use Rattle.points.proofs.in_range.Goals as goal

pub returns : goal.returns
unfolding of_bits max_magnitude
returns c = rw c.magnitude.ensures (in_range_is _)
