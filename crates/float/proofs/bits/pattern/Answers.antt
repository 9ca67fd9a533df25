-- `float::bits::pattern` meets its contract. Assumes nothing.
use Rattle.float.proofs.bits.Nans.{differs, the_pattern, no_nan}
use Rattle.float.proofs.bits.pattern.Goals as goal

pub returns-then-x : goal.returns-then-x
returns-then-x c = the_pattern _ (differs _ c.if-x.true)

pub float_to_bits-result : goal.float_to_bits-result
float_to_bits-result c = no_nan _ c.if-x.false
