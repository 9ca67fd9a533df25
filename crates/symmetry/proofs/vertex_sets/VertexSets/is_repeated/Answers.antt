-- The element's vertices are listed and looked for among the later elements' sets.
-- Assumes nothing.
use native.Mathlib.Numerals.{add-one}
use mathlib.Core.Path.{ap₂, ◌∙◌}
use mathlib.Core.List.{List}
use Prim.Native.Nat.{ℕ}
use lib.ListN.{drop}
use Rattle.spec.specs.Lists.{holds, eq_list}
use Rattle.spec.specs.Types.{vertex_sets}
use Rattle.ranked.specs.Lying.{abs_of}
use Rattle.symmetry.proofs.vertex_sets.Looks.{few_vertices, list_is}
use Rattle.symmetry.proofs.vertex_sets.VertexSets.is_repeated.Goals as goal

pub vertex_list-n-requires-clause-lists_in_bounds : goal.vertex_list-n-requires-clause-lists_in_bounds
vertex_list-n-requires-clause-lists_in_bounds c = few_vertices c.args.self.now.solid.held c.requires

pub returns : goal.returns
returns c =
    let a = c.args in let s = a.self.now.solid in
    c.is_vertex_set.ensures
    ∙ ap₂ (λ (l : List ℕ) (i : ℕ). holds eq_list l (drop i (vertex_sets (abs_of s) a.r))) (list_is s.held c.requires c.vertex_list-n.ensures) (add-one a.e)
