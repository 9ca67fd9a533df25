-- This file has section 6's "The mark", the rule by which a row is confirmed. The row gives the vertex that each vertex goes to.
-- Assumes nothing.
use Rattle.std.specs.Prelude.{ℕ, pred, Bool, true, false, ◌&&◌, List, map, length, get_or, eqb, ltb}
use Rattle.spec.specs.Lists.{place, eq_list, range, every, no_repeats, in_order}
use Rattle.spec.specs.Types.{Solid, size, subs, proper_ranks, is_proper, Classes, vertices, vertex_sets}

-- Tells whether "no two elements of a rank have one vertex set".
abbrev pub sets_apart : Solid → Bool
sets_apart s = every (λ r. no_repeats eq_list (vertex_sets s r)) (proper_ranks s)

-- This is the image of e's vertex set under the row.
unfoldable pub image : Solid → List ℕ → ℕ → ℕ → List ℕ
image s row r e = in_order (size s 1) (map (λ v. get_or row v 0) (vertices s r e))

-- This is the element that e goes to: "the one whose vertex set is the image of its own", or the rank's size if there is none; "the least and the top
-- to themselves".
unfoldable pub goes : Solid → List ℕ → ℕ → ℕ → ℕ
goes s row r e = elim (is_proper s r) [ true ↦ place eq_list (image s row r e) (vertex_sets s r) | false ↦ e ]

-- This is one element's part of the rule: "every proper element goes to an element of its rank and distance class .., and its subs go exactly onto
-- that element's subs".
unfoldable pub carries_element : Solid → Classes → List ℕ → ℕ → ℕ → Bool
carries_element s cls row r e =
    ltb (goes s row r e) (size s r)
    && eqb (cls r (goes s row r e)) (cls r e)
    && eq_list (subs s r (goes s row r e)) (in_order (size s (pred r)) (map (goes s row (pred r)) (subs s r e)))

-- The row is "confirmed, 1, exactly when ..: no two elements of a rank have one vertex set, the row repeats no vertex", and every proper element goes
-- as the rule says. A row that a search makes has an entry for each vertex, and its entries are vertices. Both are asked here as well, so that the
-- rule is one of any row.
unfoldable pub marked : Solid → Classes → List ℕ → Bool
marked s cls row =
    sets_apart s
    && eqb (length row) (size s 1)
    && every (λ v. ltb v (size s 1)) row
    && no_repeats eqb row
    && every (λ r. every (carries_element s cls row r) (range 0 (size s r))) (proper_ranks s)
