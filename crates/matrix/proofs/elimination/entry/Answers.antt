-- Within a row the default is not read.
-- Assumes nothing.
use mathlib.Core.List.{[]}
use native.Mathlib.Omega.{arith}
use lib.ListN.{get_or, length}
use lib.Ieee.{nan, binary64}
use denote.Floats.{FloatOf}
use mathlib.Core.Path.{◌≡◌}
use Rattle.spec.specs.Limits.{max_dimension}
use Rattle.spec.specs.Float.{zero_f}
use Rattle.matrix.specs.Reading.{width}
use Rattle.matrix.proofs.Sized.{wide, get_d_any}
use Rattle.matrix.proofs.elimination.entry.Goals.{Start}
use Rattle.matrix.proofs.elimination.entry.Goals as goal

pub returns : goal.returns
returns c =
    let v = get_or c.args.rows c.args.r [] in
    let k : length v ≡ width = wide (FloatOf binary64) width max_dimension c.args.rows _ c.args.r c.well_formed.0 (omega arith) in
    get_d_any v c.args.c nan zero_f (omega arith)
