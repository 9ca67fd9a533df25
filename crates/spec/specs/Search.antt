-- This file has section 6: the search, its members, and their marks; and the preflight answers 8, 9, 10, 15 and 11.
-- Assumes nothing.
use Rattle.std.specs.Prelude.{ℕ, zero, suc, ◌-◌, Bool, true, false, ◌&&◌, List, [], ◌∷◌, map, length, get_or, set, leb, ltb, eqb, None, Ok, Option, Some}
use Rattle.std.specs.Float.Ieee.{lt}
use Rattle.spec.specs.declared.Refusal.TheVariants.{NotFull, DoubleCorner, Centred, Flat, Unsettled}
use Rattle.spec.specs.Lists.{holds, eq_list, range, every, no_repeats}
use Rattle.spec.specs.Types.{Solid, top, size, proper_ranks, State, Classes, type_of, element_types_at, vertices, vertex_sets}
use Rattle.spec.specs.Mark.{marked}
use Rattle.spec.specs.Float.{eps, zero_f, finite}
use Rattle.spec.specs.Matrix.{Matrix, columns, mul_mat, inverse, determinant}
use Rattle.spec.specs.Points.{near, row_of}
use Rattle.spec.specs.Judged.{Judged, ◌>>=◌, ◌>>◌, judge, wanted}
use Rattle.spec.specs.Solid.{Concrete}
use Rattle.spec.specs.Flags.{Flag, element_at, first_flag, flags, change}
use Rattle.spec.specs.Classes.{point_of, distance_of, class_table, by_table, types_of}

-- ---- the exchange of facets

-- This is the first of the facets fs "whose hull is further than EPS from the origin".
unfoldable pub first_far : Concrete → List ℕ → Option ℕ
first_far c [] = None
first_far c (f ∷ fs) = elim (lt eps (distance_of c (top c.abs - 1) f)) [ true ↦ Some f | false ↦ first_far c fs ]

unfoldable pub swap_with_first : List (List ℕ) → ℕ → List (List ℕ)
swap_with_first l f = set (set l f (get_or l 0 [])) 0 (get_or l f [])

-- Facet f "changes places with facet 0; ridges' sups follow", because they are derived. "For R = 2 coordinates don't move": the facets' lists are
-- alike there, and nothing moves.
unfoldable pub exchanged_in : Solid → ℕ → Solid
exchanged_in s f = set s (top s - 1) (swap_with_first (get_or s (top s - 1) []) f)

-- This is the exchanged solid, with its vertices where they were.
unfoldable pub exchanged : Concrete → ℕ → Concrete
exchanged c f = record { dimension = c.dimension; points = c.points; abs = exchanged_in c.abs f }

-- ---- candidates

unfoldable pub changes : Solid → List ℕ → Flag → Flag
changes s [] F = F
changes s (r ∷ rs) F = changes s rs (change s r F)

-- These are the vertices of a flag's columns, of which n are taken: "its vertex; then .. change ranks 1 to R−1 in turn and take the vertex".
unfoldable pub walk : Solid → ℕ → Flag → List ℕ
walk s zero F = []
walk s (suc n) F = element_at F 1 ∷ walk s n (changes s (proper_ranks s) F)

-- These are "A flag's columns", of which there are D.
unfoldable pub flag_columns : Concrete → Flag → Matrix
flag_columns c F = columns (map (point_of c) (walk c.abs c.dimension F))

-- These are the solid as read, with its distance classes; the solid that is searched, with its types; and the inverse of that solid's first flag's
-- columns.
pub record Setting : Type 0 where
  pub read : Concrete
  pub classes : List (List ℕ)
  pub searched : Concrete
  pub types : State
  pub inv : Matrix

-- The candidate is "columns times the inverse of the first flag's".
unfoldable pub candidate : Setting → Flag → Matrix
candidate w F = mul_mat (flag_columns w.searched F) w.inv

-- ---- the test of a flag

-- Tells whether "its elements have the first flag's types".
unfoldable pub same_types : Setting → Flag → Bool
same_types w F =
    let G = first_flag w.searched.abs in
    every (λ r. eqb (type_of w.types r (element_at F r)) (type_of w.types r (element_at G r))) (range 0 (length w.searched.abs))

unfoldable pub insert : ℕ → List ℕ → List ℕ
insert x [] = x ∷ []
insert x (y ∷ l) = elim (leb x y) [ true ↦ x ∷ y ∷ l | false ↦ y ∷ insert x l ]

-- This is the list l "sorted with repeats kept".
unfoldable pub sorted : List ℕ → List ℕ
sorted [] = []
sorted (x ∷ l) = insert x (sorted l)

-- Tells whether "the images of the vertices of each type's example at ranks 2 to R−1 .. are the vertices of some element of that rank".
unfoldable pub examples_go : Solid → State → List ℕ → Bool
examples_go s z row =
    every (λ r. every (λ k. holds eq_list (sorted (map (λ v. get_or row v 0) (vertices s r k.example))) (vertex_sets s r)) (element_types_at z r)) (range 2 (top s - 2))

-- A member is as a search lists it: "Members come in flag order with matrix and row", and with the mark.
pub record Member : Type 0 where
  pub matrix : Matrix
  pub row : List ℕ
  pub mark : ℕ

-- The mark is "confirmed, 1, exactly when" the rule holds, and "Otherwise 0".
unfoldable pub mark_of : Solid → Classes → List ℕ → ℕ
mark_of s cls row = elim (marked s cls row) [ true ↦ 1 | false ↦ 0 ]

-- This is the member that a candidate gives, where it passes. Its mark is that of its row "in the solid as read".
unfoldable pub tested : Setting → Matrix → Option Member
tested w m =
    let row = row_of w.searched.points m in
    elim (every (λ v. ltb v (length w.searched.points)) row && examples_go w.searched.abs w.types row)
    [ true ↦ Some (record { matrix = m; row = row; mark = mark_of w.read.abs (by_table w.classes) row }) | false ↦ None ]

-- These are the members of a list of flags: "Members come in flag order with matrix and row".
unfoldable pub members_of : Setting → List Flag → List Member
members_of w [] = []
members_of w (F ∷ Fs) = elim (same_types w F) [
  | true ↦ elim (tested w (candidate w F)) [ Some m ↦ m ∷ members_of w Fs | None ↦ members_of w Fs ]
  | false ↦ members_of w Fs
]

-- "Rotations are those of determinant above 0."
unfoldable pub is_rotation : Member → Bool
is_rotation m = lt zero_f (determinant m.matrix)

unfoldable pub rotations_of : List Member → List Member
rotations_of [] = []
rotations_of (m ∷ ms) = elim (is_rotation m) [ true ↦ m ∷ rotations_of ms | false ↦ rotations_of ms ]

-- ---- the search

-- Tells whether the solid is full. Refusal 8, "search with R < 2 or D ≠ R−1", is the contrary.
unfoldable pub full : Concrete → Bool
full c = leb 2 (top c.abs) && eqb c.dimension (top c.abs - 1)

-- Tells whether all entries are finite. Refusal 11, "a non-finite inverse", is the contrary.
unfoldable pub all_finite : Matrix → Bool
all_finite m = every (every finite) m

-- This is what a search goes by once it has passed "8, 9, 10, 15, 11".
unfoldable pub setting : Concrete → Judged Setting
setting c = do
  judge NotFull (full c)
  judge DoubleCorner (no_repeats near c.points)
  f ← wanted Centred (first_far c (range 0 (size c.abs (top c.abs - 1))))
  d ← Ok (exchanged c f)
  z ← wanted Unsettled (types_of d)
  i ← wanted Flat (inverse (flag_columns d (first_flag d.abs)))
  judge Flat (all_finite i)
  Ok (record { read = c; classes = class_table c; searched = d; types = z; inv = i })

-- These are the members of every flag that passes, in flag order.
unfoldable pub search : Concrete → Judged (List Member)
search c = do
  w ← setting c
  Ok (members_of w (flags w.searched.abs))
