-- The element's vertices are listed, and their fingerprint fits a word.
-- Assumes nothing.
use native.Mathlib.Omega.{arith}
use mathlib.Core.Path.{◌≡◌, ap, ◌∙◌}
use Rattle.spec.specs.Types.{vertices}
use Rattle.ranked.specs.Lying.{abs_of}
use Rattle.symmetry.specs.Fingerprints.{fingerprint_of}
use Rattle.symmetry.proofs.vertex_sets.Looks.{few_vertices, list_is}
use Rattle.symmetry.proofs.vertex_sets.Summed.{fingerprint_fits}
use Rattle.symmetry.proofs.vertex_sets.fingerprints.element_fingerprint.Goals.{After-fingerprint_of}
use Rattle.symmetry.proofs.vertex_sets.fingerprints.element_fingerprint.Goals as goal

is : (f : After-fingerprint_of) → f.fingerprint_of.result ≡ fingerprint_of (vertices (abs_of f.args.solid.now) f.args.r f.args.e)
is f = f.fingerprint_of.ensures ∙ ap fingerprint_of (list_is f.args.solid.now.held f.requires f.vertex_list-n.ensures)

pub vertex_list-n-requires-clause-lists_in_bounds : goal.vertex_list-n-requires-clause-lists_in_bounds
vertex_list-n-requires-clause-lists_in_bounds c = few_vertices c.args.solid.now.held c.requires

pub overflow_cast-result : goal.overflow_cast-result
overflow_cast-result c =
    let s = c.args.solid.now in
    omega (
      arith,
      is (goal.at.overflow_cast-result c).After-fingerprint_of,
      fingerprint_fits (abs_of s) c.args.r c.args.e (few_vertices s.held c.requires),
    )

pub returns : goal.returns
returns c = is (goal.at.returns c).After-fingerprint_of
