-- `float::vector::norm` meets its contract. Assumes nothing.
use mathlib.Core.Path.{◌∙◌, ap}
use Rattle.spec.specs.Float.{root, norm}
use Rattle.float.proofs.vector.norm.Goals as goal

pub returns : goal.returns
unfolding norm
returns c = c.root.ensures ∙ ap root c.dot_of.ensures
