-- This file has the order, the maximal chains and the diamonds of the square.
-- Assumes nothing.
use Rattle.std.specs.Prelude.{refl, [], ◌∷◌}
use Rattle.std.proofs.Common.{ap, inl, inr, arith, lit<}
use Rattle.spec.specs.Lists.{In}
use Rattle.spec.specs.Types.{subs}
use Rattle.spec.specs.Polytope.{Element, element, IsElement, AtMost, itself, over, Comparable, least_element, top_element, IsChain, IsMaximal, ExactlyTwo, Between, Diamonds}
use Rattle.spec.specs.SolidExamples.{square}

-- Corner 1 is at most edge 0, and at most the top.
pub corner_edge : AtMost square (element 1 1) (element 2 0)
unfolding subs
corner_edge = over itself (refl, inr (inl refl))

pub corner-top : AtMost square (element 1 1) (top_element square)
unfolding subs
corner-top = over corner_edge (refl, inl refl)

-- The least element alone is a chain.
pub lone_chain : IsChain square (least_element ∷ [])
lone_chain = record { elements = elements; comparable = comparable }
  where
    elements : (F : Element) → In F (least_element ∷ []) → IsElement square F
    elements F (inl q) = rw q (omega arith, lit< tt)
    elements F (inr x') = elim x' [ ]

    comparable : (F G : Element) → In F (least_element ∷ []) → In G (least_element ∷ []) → Comparable square F G
    comparable F G (inl q) (inl p) = rw (q, p) (inl itself)
    comparable F G (inl q) (inr x') = elim x' [ ]
    comparable F G (inr x') p = elim x' [ ]

-- So the empty chain is not maximal.
pub not_maximal : ¬ IsMaximal square []
not_maximal w = w.largest (least_element ∷ []) lone_chain (λ F m. absurd m) least_element (inl refl)

-- The ranks of the least element and of edge 0 differ by two, so P4 asks for exactly two elements between them, which are the edge's two corners.
pub corners : Diamonds square → ExactlyTwo (Between square least_element (element 2 0))
unfolding subs
corners d = d least_element (element 2 0) (omega arith, lit< tt) (lit< tt, lit< tt) (over (over itself (refl, inl refl)) (refl, inl refl), λ e. omega (arith, ap (λ (H : Element). H.rank) e)) refl
