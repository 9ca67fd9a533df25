-- Either a listed value is near and is taken, or there is none and the distance joins the list.
-- Assumes nothing.
use mathlib.Core.Path.{sym, ◌∙◌}
use Rattle.geometry.proofs.Nearest.{takes, joins}
use Rattle.geometry.proofs.classes.list_distance.Goals as goal

pub returns-in-Some : goal.returns-in-Some
returns-in-Some c = takes (sym c.in-Some.is ∙ c.listed_for.ensures)

pub returns-in-None : goal.returns-in-None
returns-in-None c = joins c.requires (sym c.in-None.is ∙ c.listed_for.ensures)
