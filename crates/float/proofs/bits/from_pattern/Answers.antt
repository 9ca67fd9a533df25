-- `float::bits::from_pattern` meets its contract. Assumes nothing.
use Rattle.float.proofs.bits.Nans.{no_nan_pattern, nan_pattern}
use Rattle.float.proofs.bits.from_pattern.Goals as goal

pub float_from_bits-result : goal.float_from_bits-result
float_from_bits-result c = no_nan_pattern _ c.if-n-le-INFINITY.true

pub returns : goal.returns
returns c = nan_pattern _ c.if-n-le-INFINITY.false
