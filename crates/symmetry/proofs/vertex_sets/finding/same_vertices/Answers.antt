-- The element's vertices are listed and compared.
-- Assumes nothing.
use mathlib.Core.Path.{ap, ◌∙◌}
use mathlib.Core.List.{List}
use Prim.Native.Nat.{ℕ}
use Rattle.spec.specs.Lists.{eq_list}
use Rattle.element_types.proofs.Compared.{eq_list_is}
use Rattle.symmetry.proofs.vertex_sets.Looks.{few_vertices, list_is}
use Rattle.symmetry.proofs.vertex_sets.finding.same_vertices.Goals as goal

pub vertex_list-n-requires-clause-lists_in_bounds : goal.vertex_list-n-requires-clause-lists_in_bounds
vertex_list-n-requires-clause-lists_in_bounds c = few_vertices c.args.solid.now.held c.requires

pub returns : goal.returns
returns c =
    c.eq.ensures ∙ eq_list_is _ c.args.list.now
    ∙ ap (λ (l : List ℕ). eq_list l c.args.list.now) (list_is c.args.solid.now.held c.requires c.vertex_list-n.ensures)
