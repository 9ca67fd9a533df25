-- One computed test goes over every cell of all the entries.
-- Assumes nothing.
use mathlib.Core.Path.{refl}
use lib.Ieee.{of_bits, neg}
use Rattle.spec.specs.Float.{zip, zero_f, one_f}
use Rattle.spec.specs.Lists.{join, range}
use Rattle.spec.specs.Copying.{orders, signed, axis_order, axis_orders}
use Rattle.copying.proofs.axes.entries.Goals as goal

pub returns : goal.returns
unfolding of_bits neg zip zero_f one_f join range orders signed axis_order axis_orders
returns c = refl
