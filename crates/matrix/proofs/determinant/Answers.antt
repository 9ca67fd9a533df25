-- Where there is no inverse, the definition says +0.0.
-- Assumes nothing.
use lib.Ieee.{of_bits}
use Rattle.spec.specs.Float.{zero_f}
use Rattle.matrix.proofs.determinant.Goals as goal

pub returns-in-None : goal.returns-in-None
unfolding of_bits zero_f
returns-in-None c = c.in-None.ensures.product
