-- The candidate is the product of what the two callees give.
-- Assumes nothing.
use mathlib.Core.Path.{◌≡◌, ap, ◌∙◌}
use native.Mathlib.Omega.{arith}
use lib.ListN.{length}
use borrow.Author.Rules.{rules}
use Rattle.spec.specs.Limits.{max_dimension}
use Rattle.spec.specs.Matrix.{Matrix, mul_mat}
use Rattle.matrix.specs.Reading.{corner}
use Rattle.matrix.proofs.Corner.{length-corner}
use Rattle.matrix.proofs.Padded.{corner-product}
use Rattle.symmetry.proofs.candidates.Thin.candidate.Goals as goal

pub returns : goal.returns
returns c =
    let a = c.args in
    let d = a.self.now.realized.solid.shape.dimension in
    let wide = a.self.now.realized.solid.held.wide in
    let long : length c.vertex_sequence.result ≡ max_dimension = search rules in
    let long₂ : length a.inv ≡ max_dimension = search rules in
    corner-product d (corner d c.vertex_sequence.result) (length-corner d c.vertex_sequence.result (omega arith)) (corner d a.inv) _ (length-corner d a.inv (omega arith)) c.product.ensures
    ∙ ap (λ (m : Matrix). mul_mat m (corner d a.inv)) c.vertex_sequence.ensures
