-- The points lie in the floats.
-- Assumes nothing.
use Rattle.symmetry.proofs.Bounds.{coordinates_in}
use Rattle.symmetry.proofs.listing.Prepared.list_members.Goals as goal

pub invariant_of-points : goal.invariant_of-points
invariant_of-points c = let h = c.args.self.now.searching in record { fits = (h.bench.held.wide, rw c.vertices.ensures (coordinates_in h)) }
