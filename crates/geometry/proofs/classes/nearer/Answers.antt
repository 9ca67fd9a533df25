-- The test compares the magnitude with EPS, as the definition does.
-- Assumes nothing.
use mathlib.Core.Path.{ap}
use lib.Ieee.{Float, lt, of_bits}
use Rattle.spec.specs.Float.{eps}
use Rattle.spec.specs.Hull.{nearer}
use Rattle.geometry.proofs.classes.nearer.Goals as goal

pub returns : goal.returns
unfolding nearer of_bits eps
returns c = ap (λ (z : Float). lt z eps) c.magnitude.ensures
