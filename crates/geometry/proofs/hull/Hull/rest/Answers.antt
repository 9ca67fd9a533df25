-- The difference is that of the definition, once the projection is.
-- Assumes nothing.
use mathlib.Core.Path.{ap, ◌∙◌}
use Rattle.spec.specs.Float.{minus, zip}
use Rattle.spec.specs.Hull.{rest}
use Rattle.geometry.proofs.hull.Hull.rest.Goals as goal

pub returns : goal.returns
unfolding rest
returns c = c.difference.ensures ∙ ap (zip minus _) c.project.ensures
