-- The loaded array starts with the point, and no vector of the basis counts.
-- Assumes nothing.
use mathlib.Core.Path.{refl, ap}
use mathlib.Core.List.{[]}
use lib.ListN.{length}
use Rattle.spec.specs.Lists.{range}
use Rattle.spec.specs.Matrix.{Vector}
use Rattle.spec.specs.Hull.{Hull}
use Rattle.float.proofs.Padded.{take-padded}
use Rattle.geometry.specs.Reading.{hull_in}
use Rattle.geometry.proofs.hull.Hull.empty.Goals as goal

pub returns-clause-hull : goal.returns-clause-hull
unfolding hull_in range
returns-clause-hull c =
    let p = c.args.p.now in
    ap {B = Hull} (λ (o : Vector). record { offset = o; basis = [] }) (take-padded (length p) p _ refl c.load.ensures)
