-- This file has section 3: hulls, distances and distance classes.
-- Assumes nothing.
use Rattle.std.specs.Prelude.{ℕ, Bool, true, false, List, [], ◌∷◌, ◌++◌, map, length, replicate, eqb, Float, None, Option, Some}
use Rattle.std.specs.Float.Ieee.{lt, eq}
use Rattle.spec.specs.Lists.{renumber}
use Rattle.spec.specs.Float.{eps, zero_f, plus, minus, times, over, abs_f, zip, dot, norm}
use Rattle.spec.specs.Matrix.{Vector}

-- "The hull holds an offset (first vertex) and a basis of floats."
pub record Hull : Type 0 where
  pub offset : Vector
  pub basis : List Vector

-- This is the sum of a projection: "for each b in order, q += b times (d · b)".
unfoldable pub along : Vector → Vector → List Vector → Vector
along d q [] = q
along d q (b ∷ bs) = let s = dot d b in along d (zip (λ x y. plus x (times y s)) q b) bs

-- "To project p: d = p − offset; q = offset; ..", and then `along` adds the basis vectors' parts.
unfoldable pub project : Hull → Vector → Vector
project h p = along (zip minus p h.offset) h.offset h.basis

-- This is the part of p that the hull does not hold yet: "v = p − projection".
unfoldable pub rest : Hull → Vector → Vector
rest h p = zip minus p (project h p)

-- This is the length of the vector that joins as p is added, if one joins: "length = norm of v; above EPS, v divided by length joins the basis;
-- otherwise nothing joins".
unfoldable pub joins : Hull → Vector → Option Float
joins h p = let l = norm (rest h p) in elim (lt eps l) [ true ↦ Some l | false ↦ None ]

unfoldable pub add : Hull → Vector → Hull
add h p = elim (joins h p) [
  | Some l ↦ record { offset = h.offset; basis = h.basis ++ map (λ x. over x l) (rest h p) ∷ [] }
  | None ↦ h
]

-- Adds points until the basis is complete: "Stop at D vectors".
unfoldable pub add_all : ℕ → Hull → List Vector → Hull
add_all d h [] = h
add_all d h (p ∷ ps) = elim (eqb (length h.basis) d) [ true ↦ h | false ↦ add_all d (add h p) ps ]

-- This is the hull of points in d dimensions. There is at least one point, since every element has a vertex.
unfoldable pub hull_of : ℕ → List Vector → Hull
hull_of d [] = record { offset = []; basis = [] }
hull_of d (p ∷ ps) = add_all d (record { offset = p; basis = [] }) ps

unfoldable pub origin : ℕ → Vector
origin d = replicate d zero_f

-- This is the "norm of origin − projection of origin".
unfoldable pub distance : ℕ → Hull → Float
distance d h = norm (rest h (origin d))

-- ---- distance classes

-- Tells whether two distances are "strictly nearer than EPS" to each other.
unfoldable pub nearer : Float → Float → Bool
nearer x y = lt (abs_f (minus x y)) eps

-- This is the smaller of the value y and what was found before, if anything was.
unfoldable pub smaller : Float → Option Float → Option Float
smaller y None = Some y
smaller y (Some z) = elim (lt z y) [ true ↦ Some z | false ↦ Some y ]

-- This is the smallest listed value that is strictly nearer to x than EPS.
unfoldable pub listed_for : Float → List Float → Option Float
listed_for x [] = None
listed_for x (y ∷ ys) = elim (nearer x y) [ true ↦ smaller y (listed_for x ys) | false ↦ listed_for x ys ]

-- "A distance takes the smallest listed value strictly nearer than EPS, else joins the list." This is the value, and the list afterwards.
unfoldable pub listing : List Float → Float → Float × List Float
listing l x = elim (listed_for x l) [ None ↦ (x, l ++ x ∷ []) | Some y ↦ (y, l) ]

-- These are the values that the distances take in order, when the list l is there already.
unfoldable pub classes_from : List Float → List Float → List Float
classes_from l [] = []
classes_from l (x ∷ xs) = let t = listing l x in t.0 ∷ classes_from t.1 xs

-- "The listed value is the element's distance class."
unfoldable pub classes : List Float → List Float
classes xs = classes_from [] xs

-- These are the classes as numbers, which go from 0 by first appearance.
unfoldable pub class_numbers : List Float → List ℕ
class_numbers xs = renumber eq (classes xs)
