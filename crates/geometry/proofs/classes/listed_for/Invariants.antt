-- What was found is what the values that were gone through give.
-- Assumes nothing.
use mathlib.Core.Path.{◌≡◌}
use mathlib.Core.List.{map, reverse}
use Rattle.spec.specs.Hull.{listed_for}
use Rattle.geometry.proofs.classes.listed_for.Given as goal

abbrev pub invariant-loop-y : goal.invariant-loop-y
invariant-loop-y l = l.found ≡ listed_for l.x (reverse (map (λ y. y.now) l.yielded))
