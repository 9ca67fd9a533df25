-- The floats that are lent are those of the 48.
-- Assumes nothing.
use mathlib.Core.Path.{ap, ◌∙◌}
use mathlib.Core.List.{List, map}
use Rattle.spec.specs.Lists.{join}
use Rattle.spec.specs.Matrix.{Matrix}
use Rattle.matrix.specs.Reading.{corner}
use Rattle.copying.proofs.Flat.{table_corners}
use Rattle.trials.proofs.copying_cases.turns.Goals as goal

pub returns : goal.returns
returns c = c.axis_turns.ensures ∙ ap (λ (x : List Matrix). join (join x)) (ap (map (corner 3)) c.axis_orders-table.ensures ∙ table_corners)
