-- `float::root::root` meets its contract: `Cases.antt` takes each argument by its kind. Assumes nothing.
use mathlib.Core.Path.{sym, ◌∙◌, subst}
use lib.Dec.{T}
use lib.Ieee.{binary64, fits}
use lib.Ieee.Positive.{positive}
use Rattle.float.proofs.root.Cases.{below, neither, nan_is, finite_is, infinite_is, pattern_some, pattern_is, pattern_no_nan}
use Rattle.float.proofs.root.root.Goals.{Start, Then-b-lt-INFINITY}
use Rattle.float.proofs.root.root.Goals as goal

-- Owning an `f64` tells that the format holds it.
held : (c : Start) → T (fits binary64 c.args.x)
held c = subst T (sym c.well_formed.0.1) tt

finite : (c : Then-b-lt-INFINITY) → T (positive c.args.x)
finite c = finite_is _ c.if-x.true c.if-b-lt-INFINITY.true

pub root_bits-requires : goal.root_bits-requires
root_bits-requires c = (pattern_some _ (held c.before.before) (finite c), c.if-b-lt-INFINITY.true)

pub float_from_bits-result : goal.float_from_bits-result
float_from_bits-result c = pattern_no_nan _ (held c.before.before.before) (finite c.before) _ c.root_bits.ensures

pub returns-then-b-lt-INFINITY : goal.returns-then-b-lt-INFINITY
returns-then-b-lt-INFINITY c = pattern_is _ (held c.before.before.before) (finite c.before) _ c.root_bits.ensures

pub returns-then-x : goal.returns-then-x
returns-then-x c = infinite_is _ (held c.before.before) c.if-x.true c.if-b-lt-INFINITY.false

pub returns-then-x-2 : goal.returns-then-x-2
returns-then-x-2 c = sym nan_is ∙ below _ c.if-x-2.true

pub returns : goal.returns
returns c = neither _ c.if-x.false c.if-x-2.false
