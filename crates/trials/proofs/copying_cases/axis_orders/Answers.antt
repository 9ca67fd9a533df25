-- The table that is handed out is the one of which rule and closure are shown.
-- Assumes nothing.
use Rattle.trials.specs.AxisOrders.{axis_order_table}
use Rattle.copying.proofs.Flat.{table_corners}
use Rattle.trials.proofs.copying_cases.axis_orders.Goals as goal

pub returns : goal.returns
returns c = rw (c.axis_orders.ensures, table_corners) axis_order_table
