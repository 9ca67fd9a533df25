-- The loop's invariant is that the entries before the one at hand are divided.
-- Assumes nothing.
use mathlib.Core.Path.{◌≡◌}
use mathlib.Core.List.{◌++◌, map}
use lib.ListN.{take, drop}
use Rattle.spec.specs.Float.{over}
use Rattle.matrix.proofs.elimination.row_divided.Given as goal

abbrev pub invariant-loop-y : goal.invariant-loop-y
invariant-loop-y l = l.y-items ≡ map (λ y. over y l.x) (take l.y-index l.fn.v) ++ drop l.y-index l.fn.v
