-- This file has section 6's "Clean": the input on which the Rust and these definitions are held to agree. No call asks whether its input is clean.
-- The comparison with the Rust (compare/clean.rs, tools/search_model.py) tests this definition, under the same names, and leaves out what is not
-- clean.
-- Assumes nothing.
use Rattle.std.specs.Prelude.{ℕ, Bool, true, false, ◌&&◌, List, [], ◌∷◌, ◌++◌, map, get_or, leb, eqb, ℤ, pos, negsuc, Float, Err, Ok}
use Rattle.std.specs.Bool.{beq}
use Rattle.std.specs.Float.{nan, inf, fin}
use Rattle.spec.specs.Lists.{distinct, count, range, join, every}
use Rattle.spec.specs.Float.{zero_f}
use Rattle.spec.specs.Matrix.{Vector, Matrix, mul_vec}
use Rattle.spec.specs.Hull.{nearer, listing}
use Rattle.spec.specs.Copying.{spread, copies}
use Rattle.spec.specs.Points.{near, found}
use Rattle.spec.specs.Solid.{Concrete}
use Rattle.spec.specs.Flags.{Flag, flags}
use Rattle.spec.specs.Classes.{distances}
use Rattle.spec.specs.Search.{Setting, candidate, same_types, all_finite, setting}

-- ---- coordinates and images

-- Two values "differ by at most EPS" by their rounded difference, EPS included. Finding asks the same on each axis.
unfoldable pub within_eps : Float → Float → Bool
within_eps x y = near (x ∷ []) (y ∷ [])

-- Tells whether the relation "is transitive among" the values xs: where x and y differ by at most EPS, and y and z do, so do x and z.
unfoldable pub transitive : List Float → Bool
transitive xs =
    every (λ x. every (λ y. elim (within_eps x y) [ true ↦ every (λ z. elim (within_eps y z) [ true ↦ within_eps x z | false ↦ true ]) xs | false ↦ true ]) xs) xs

-- Tells whether two integers, and two floats, are one and the same; of floats, +0 and −0 are not.
unfoldable pub same_integer : ℤ → ℤ → Bool
same_integer (pos m) (pos n) = eqb m n
same_integer (pos m) (negsuc n) = false
same_integer (negsuc m) (pos n) = false
same_integer (negsuc m) (negsuc n) = eqb m n

unfoldable pub same_float : Float → Float → Bool
same_float nan nan = true
same_float nan (inf t) = false
same_float nan (fin t n d) = false
same_float (inf s) nan = false
same_float (inf s) (inf t) = beq s t
same_float (inf s) (fin t n d) = false
same_float (fin s m e) nan = false
same_float (fin s m e) (inf t) = false
same_float (fin s m e) (fin t n d) = beq s t && eqb m n && same_integer e d

-- Lists the values of the points on axis k.
abbrev pub on_axis : List Vector → ℕ → List Float
on_axis ps k = map (λ p. get_or p k zero_f) ps

-- "is transitive among coordinates and images on each axis, images are finite": of the points ps with the images qs, in d dimensions. Each value is taken
-- once, which changes nothing (`EveryClean.points` of crate `laws`) and keeps an evaluation short.
unfoldable pub clean_points : ℕ → List Vector → List Vector → Bool
clean_points d ps qs = all_finite qs && every (λ k. transitive (distinct same_float (on_axis (ps ++ qs) k))) (range 0 d)

-- Lists the images of the points under each matrix in turn.
unfoldable pub images : List Matrix → List Vector → List Vector
images ms ps = join (map (λ m. map (mul_vec m) ps) ms)

-- ---- distances

-- This is the list after each of these distances has taken a listed value or joined, from the list l on.
unfoldable pub listed_by : List Float → List Float → List Float
listed_by l [] = l
listed_by l (x ∷ xs) = listed_by (listing l x).1 xs

-- This says "no distance is ever nearer than EPS to two listed values", which means strictly nearer, and to two values of the whole list. A value
-- that joins after the distance was taken counts as well, since the Rust looks every distance up again in every sweep.
unfoldable pub clean_distances : List Float → Bool
clean_distances xs = let l = listed_by [] xs in every (λ x. leb (count nearer x l) 1) xs

-- ---- a solid

-- These are the candidates that are tested: those of the flags whose elements have the first flag's types, whether or not they become members.
unfoldable pub candidates : Setting → List Flag → List Matrix
candidates w [] = []
candidates w (F ∷ Fs) = elim (same_types w F) [ true ↦ candidate w F ∷ candidates w Fs | false ↦ candidates w Fs ]

-- Tells whether a solid is clean. Its distances are listed as it was read and, in a search, once more with its facets exchanged. Its images are those
-- of every vertex under every candidate of that search. Where the search is refused before it makes a candidate (8, 9, 10, 15, 11), there are no
-- images and no answer turns on the second list, so only the coordinates and the first list are asked.
unfoldable pub clean : Concrete → Bool
clean c = clean_distances (distances c) && elim (setting c) [
  | Err why ↦ clean_points c.dimension c.points []
  | Ok w ↦ clean_distances (distances w.searched) && clean_points c.dimension c.points (images (candidates w (flags w.searched.abs)) c.points)
]

-- ---- copying

-- These are the points that copying multiplies, from the copies cs on: those "not found among the copies".
unfoldable pub multiplied : List Matrix → List Vector → List Vector → List Vector
multiplied ms [] cs = []
multiplied ms (p ∷ ps) cs = elim (found cs p) [ true ↦ multiplied ms ps cs | false ↦ p ∷ multiplied ms ps (spread ms p cs) ]

-- Tells whether a copying is clean: "In copying, the first two are meant of points, copies and images". The images are those that copying makes: of
-- the points that it multiplies, and of the copies.
unfoldable pub clean_copying : ℕ → List Vector → List Matrix → Bool
clean_copying d ps ms = let cs = copies ms ps in clean_points d (ps ++ cs) (images ms (multiplied ms ps [] ++ cs))
