-- The origin is the part of d zeros that is lent.
-- Assumes nothing.
use mathlib.Core.Path.{◌≡◌, ap, ◌∙◌}
use native.Mathlib.Omega.{arith}
use lib.ListN.{take, length, replicate, length-replicate}
use lib.Seq.{length-take-le}
use lib.Ieee.{of_bits}
use Rattle.spec.specs.Limits.{max_dimension}
use Rattle.spec.specs.Float.{zero_f, norm}
use Rattle.spec.specs.Matrix.{Vector}
use Rattle.spec.specs.Hull.{rest, origin, distance}
use Rattle.float.proofs.Written.{take_replicate}
use Rattle.geometry.specs.Reading.{hull_in}
use Rattle.geometry.proofs.hull.Hull.distance.Goals as goal

pub returns : goal.returns
unfolding distance origin of_bits zero_f
returns c =
    let d = c.args.d in
    let h = hull_in d c.args.self in
    let long : length (take d (replicate max_dimension zero_f)) ≡ d = length-take-le d (replicate max_dimension zero_f) (omega (arith, length-replicate max_dimension zero_f, c.requires.0)) in
    c.norm.ensures
    ∙ ap norm (rw long at c.rest.ensures)
    ∙ ap (λ (p : Vector). norm (rest h p)) (take_replicate d max_dimension zero_f c.requires.0)
