-- The part is as long as there are axes, and the array begins with it.
-- Assumes nothing.
use mathlib.Core.Path.{◌∙◌}
use Rattle.float.proofs.Padded.{take-padded}
use Rattle.points.proofs.Parts.{part_long}
use Rattle.points.proofs.Points.loaded.Goals as goal

pub returns : goal.returns
returns c =
    let a = c.args.self.now in
    let long = part_long a.count a.dimension a.floats.now c.args.v c.requires a.fits.1 in
    take-padded _ _ _ (rw (c.get.ensures) long) c.load.ensures ∙ c.get.ensures
