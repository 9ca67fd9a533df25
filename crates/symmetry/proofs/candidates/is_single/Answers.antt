-- The later points are looked at for one that is near.
-- Assumes nothing.
use Rattle.symmetry.proofs.candidates.Doubles.{later_fits, single_is}
use Rattle.symmetry.proofs.candidates.is_single.Goals as goal

pub invariant_of-later : goal.invariant_of-later
invariant_of-later c =
    let p = c.args.points.now in
    record { fits = (p.fits.0, later_fits p.count p.dimension c.args.i p.floats.now c.requires p.fits.1) }

pub returns : goal.returns
returns c =
    let p = c.args.points.now in
    single_is p.count p.dimension c.args.i p.floats.now c.requires p.fits.1 c.loaded.result c.loaded.ensures c.find.result c.find.ensures c.is_none.result c.is_none.ensures
