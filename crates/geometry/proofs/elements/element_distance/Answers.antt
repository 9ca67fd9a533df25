-- The vertices of an element stand in a buffer, and the distance of their hull is the element's.
-- Assumes nothing.
use mathlib.Core.Path.{◌∙◌}
use native.Mathlib.Omega.{arith}
use Rattle.ranked.proofs.Solids.{sizes_are}
use Rattle.geometry.proofs.elements.Elements.{distance_is, some_listed, listed_in}
use Rattle.geometry.proofs.elements.element_distance.Goals as goal

pub vertex_list-n-requires-clause-lists_in_bounds : goal.vertex_list-n-requires-clause-lists_in_bounds
vertex_list-n-requires-clause-lists_in_bounds c =
    let s = c.args.realized.now.solid in
    rw (sizes_are s.shape s.lists.now s.held 1) (s.held.few 1 (omega arith))

pub distance_of-requires : goal.distance_of-requires
distance_of-requires c =
    let z = c.args.realized.now in
    let f = c.vertex_list-n.ensures in
    (some_listed z _ _ _ _ _ f c.requires.0 c.requires.2, rw c.vertices.ensures (listed_in z _ _ _ _ _ f))

pub returns : goal.returns
returns c = c.distance_of.ensures ∙ distance_is c.args.realized.now _ _ _ _ _ c.vertex_list-n.ensures
