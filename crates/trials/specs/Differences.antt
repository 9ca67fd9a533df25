-- This file says what document 01's definitions give on each smallest input where the Rust differs, for the rows of docs/DIFFERENCES.md, and whether
-- the input is clean (section 6).
-- Assumes nothing.
use Rattle.std.specs.Prelude.{◌≡◌, refl, ℕ, true, false, List, [], ◌∷◌, ◌++◌, map, length, replicate, take, Float, Ok, Some}
use Rattle.std.specs.Float.{binary64}
use Rattle.std.specs.Float.Ieee.{of_bits}
use Rattle.spec.specs.Ascii.{ascii}
use Rattle.spec.specs.Lists.{join}
use Rattle.spec.specs.Copying.{copy_call}
use Rattle.spec.specs.Calls.{search_call}
use Rattle.spec.specs.KitText.{kit_text}
use Rattle.spec.specs.Judged.{◌>>=◌}
use Rattle.spec.specs.Classes.{types_of}
use Rattle.spec.specs.Search.{search}
use Rattle.spec.specs.Clean.{clean, clean_copying}
use Rattle.spec.specs.CallExamples.{polygon, triangle_of, later, folded, clean_sheet}
use Rattle.spec.specs.Eval.{evaluate}
use Rattle.spec.specs.NumberExamples.{all}
use Rattle.trials.specs.Sheets.{square, triangle, sliver}

-- On the triangle with D = 1 at 0, 1.2e-7, 0.6e-7, a distance near two listed values takes the smallest.
abbrev near_two : List ℕ
near_two =
    100 ∷ 0 ∷ 192 ∷ 12 ∷ 0 ∷ 0 ∷ 0 ∷ 0 ∷ 0 ∷ 0 ∷ 0 ∷ 0 ∷ 250 ∷ 0 ∷ 108 ∷ 172 ∷ 166 ∷ 145 ∷ 164 ∷ 172 ∷ 249 ∷ 192 ∷ 108 ∷ 172 ∷ 166 ∷ 145 ∷ 164 ∷ 172 ∷ 0 ∷ 128 ∷ 0 ∷ 1 ∷ 0 ∷ 32 ∷ 2 ∷ 0 ∷ 128 ∷ 8 ∷ 0 ∷ 0 ∷ 32 ∷ []

-- On the triangle with D = 1 at 0, 0.6e-7, 1.2e-7, a distance is listed once, and is not looked up again in a later sweep.
abbrev listed_once : List ℕ
listed_once =
    100 ∷ 0 ∷ 192 ∷ 12 ∷ 0 ∷ 0 ∷ 0 ∷ 0 ∷ 0 ∷ 0 ∷ 0 ∷ 0 ∷ 249 ∷ 192 ∷ 108 ∷ 172 ∷ 166 ∷ 145 ∷ 164 ∷ 172 ∷ 250 ∷ 0 ∷ 108 ∷ 172 ∷ 166 ∷ 145 ∷ 164 ∷ 172 ∷ 0 ∷ 128 ∷ 0 ∷ 1 ∷ 0 ∷ 32 ∷ 2 ∷ 0 ∷ 128 ∷ 8 ∷ 0 ∷ 0 ∷ 32 ∷ []

-- On the solid with R = 2 at 1.1e-7, −0.5e-7, an image near two vertices takes the lowest number.
abbrev near_two_vertices : List ℕ
near_two_vertices =
    68 ∷ 0 ∷ 143 ∷ 159 ∷ 97 ∷ 201 ∷ 29 ∷ 192 ∷ 176 ∷ 52 ∷ 47 ∷ 154 ∷ 181 ∷ 252 ∷ 166 ∷ 175 ∷ 43 ∷ 210 ∷ 0 ∷ []

-- On the triangle (−9e-8,1), (9e-8,0), (1,0), a vertex is found wherever it stands in an order of points.
abbrev near_on_axis : List ℕ
near_on_axis =
    104 ∷ 0 ∷ 192 ∷ 14 ∷ 249 ∷ 224 ∷ 163 ∷ 2 ∷ 249 ∷ 218 ∷ 119 ∷ 4 ∷ 255 ∷ 192 ∷ 0 ∷ 0 ∷ 0 ∷ 0 ∷ 0 ∷ 0 ∷ 249 ∷ 224 ∷ 163 ∷ 2 ∷ 249 ∷ 218 ∷ 119 ∷ 4 ∷ 0 ∷ 0 ∷ 0 ∷ 0 ∷ 0 ∷ 0 ∷ 0 ∷ 0 ∷ 255 ∷ 192 ∷ 0 ∷ 0 ∷ 0 ∷ 0 ∷ 0 ∷ 0 ∷ 0 ∷ 0 ∷ 0 ∷ 0 ∷ 0 ∷ 0 ∷ 0 ∷ 0 ∷ 0 ∷ 128 ∷ 0 ∷ 1 ∷ 0 ∷ 32 ∷ 2 ∷ 0 ∷ 128 ∷ 8 ∷ 0 ∷ 0 ∷ 32 ∷ []

-- The square (0,1), (1,0), (8e-8,−1), (−1,0) shows the same on four vertices.
abbrev near_square : List ℕ
near_square =
    104 ∷ 1 ∷ 0 ∷ 16 ∷ 0 ∷ 0 ∷ 0 ∷ 0 ∷ 0 ∷ 0 ∷ 0 ∷ 0 ∷ 255 ∷ 192 ∷ 0 ∷ 0 ∷ 0 ∷ 0 ∷ 0 ∷ 0 ∷ 255 ∷ 192 ∷ 0 ∷ 0 ∷ 0 ∷ 0 ∷ 0 ∷ 0 ∷ 0 ∷ 0 ∷ 0 ∷ 0 ∷ 0 ∷ 0 ∷ 0 ∷ 0 ∷ 249 ∷ 213 ∷ 230 ∷ 59 ∷ 136 ∷ 194 ∷ 48 ∷ 234 ∷ 255 ∷ 192 ∷ 0 ∷ 0 ∷ 0 ∷ 0 ∷ 0 ∷ 2 ∷ 255 ∷ 192 ∷ 0 ∷ 0 ∷ 0 ∷ 0 ∷ 0 ∷ 0 ∷ 0 ∷ 0 ∷ 0 ∷ 0 ∷ 0 ∷ 0 ∷ 0 ∷ 0 ∷ 0 ∷ 128 ∷ 0 ∷ 1 ∷ 0 ∷ 32 ∷ 2 ∷ 0 ∷ 128 ∷ 8 ∷ 1 ∷ 0 ∷ 48 ∷ 2 ∷ 0 ∷ 0 ∷ 12 ∷ []

-- On the solid with R = 2 at 1e-310 and 1, the inverse of the first columns is not finite.
abbrev not_finite : List ℕ
not_finite =
    68 ∷ 0 ∷ 128 ∷ 0 ∷ 4 ∷ 154 ∷ 34 ∷ 220 ∷ 57 ∷ 138 ∷ 207 ∷ 252 ∷ 0 ∷ 0 ∷ 0 ∷ 0 ∷ 0 ∷ 0 ∷ 0 ∷ []

-- On the solid with R = 2 at 1 and 1, one corner is entered twice.
abbrev double_corner : List ℕ
double_corner =
    68 ∷ 0 ∷ 143 ∷ 252 ∷ 0 ∷ 0 ∷ 0 ∷ 0 ∷ 0 ∷ 0 ∷ 15 ∷ 252 ∷ 0 ∷ 0 ∷ 0 ∷ 0 ∷ 0 ∷ 0 ∷ 0 ∷ []

-- The first edge of the square passes through the origin, so that it changes places with the second.
abbrev crossed_square : List ℕ
crossed_square =
    104 ∷ 1 ∷ 0 ∷ 16 ∷ 255 ∷ 192 ∷ 0 ∷ 0 ∷ 0 ∷ 0 ∷ 0 ∷ 0 ∷ 255 ∷ 192 ∷ 0 ∷ 0 ∷ 0 ∷ 0 ∷ 0 ∷ 2 ∷ 255 ∷ 192 ∷ 0 ∷ 0 ∷ 0 ∷ 0 ∷ 0 ∷ 2 ∷ 255 ∷ 192 ∷ 0 ∷ 0 ∷ 0 ∷ 0 ∷ 0 ∷ 0 ∷ 255 ∷ 192 ∷ 0 ∷ 0 ∷ 0 ∷ 0 ∷ 0 ∷ 2 ∷ 255 ∷ 192 ∷ 0 ∷ 0 ∷ 0 ∷ 0 ∷ 0 ∷ 2 ∷ 255 ∷ 192 ∷ 0 ∷ 0 ∷ 0 ∷ 0 ∷ 0 ∷ 0 ∷ 255 ∷ 192 ∷ 0 ∷ 0 ∷ 0 ∷ 0 ∷ 0 ∷ 0 ∷ 0 ∷ 128 ∷ 0 ∷ 1 ∷ 0 ∷ 32 ∷ 2 ∷ 0 ∷ 128 ∷ 8 ∷ 1 ∷ 0 ∷ 48 ∷ 2 ∷ 0 ∷ 0 ∷ 12 ∷ []

-- ---- what `kit` prints for each of these

pub difference_texts : map kit_text (near_two ∷ listed_once ∷ near_two_vertices ∷ near_on_axis ∷ near_square ∷ not_finite ∷ double_corner ∷ crossed_square ∷ [])
    ≡ ascii "types 6\n1 0 0 1\n1 1 1 1\n1 2 2 1\n2 0 0 1\n2 1 1 1\n2 2 2 1\nrefused 8\n"
    ∷ ascii "types 4\n1 0 0 2\n1 1 2 1\n2 0 0 1\n2 1 1 2\nrefused 8\n"
    ∷ ascii "types 1\n1 0 0 2\nmembers 2 confirmed 2 rotations 1\n"
    ∷ ascii "types 4\n1 0 0 2\n1 1 1 1\n2 0 0 2\n2 1 2 1\nmembers 2 confirmed 2 rotations 1\n"
    ∷ ascii "types 2\n1 0 0 4\n2 0 0 4\nmembers 6 confirmed 6 rotations 3\n"
    ∷ ascii "types 2\n1 0 0 1\n1 1 1 1\nrefused 11\n"
    ∷ ascii "types 1\n1 0 0 2\nrefused 9\n"
    ∷ ascii "types 3\n1 0 0 4\n2 0 0 2\n2 1 1 2\nmembers 4 confirmed 4 rotations 2\n"
    ∷ []
unfolding evaluate
difference_texts = refl

-- The second row of the solid with R = 2 at 1.1e-7, −0.5e-7 is 1 0.
pub near_two_vertices-rows : (search_call near_two_vertices 96 80 (record { matrices = replicate 2 (of_bits binary64 0); rows = replicate 4 7; marks = replicate 2 7 })).1.rows ≡ 0 ∷ 1 ∷ 1 ∷ 0 ∷ []
unfolding evaluate
near_two_vertices-rows = refl

-- When 1e-7 is copied under [1], [−1], [0], the image 0 is near both copies, and takes the lowest number.
pub near_two_copies : copy_call 1 (of_bits binary64 0x3e7a_d7f2_9abc_af48 ∷ []) (map (of_bits binary64) (0x3ff0_0000_0000_0000 ∷ 0xbff0_0000_0000_0000 ∷ 0 ∷ [])) (replicate 2 (of_bits binary64 0)) (replicate 6 7)
    ≡ (Ok 2, map (of_bits binary64) (0x3e7a_d7f2_9abc_af48 ∷ 0xbe7a_d7f2_9abc_af48 ∷ []), 0 ∷ 1 ∷ 1 ∷ 0 ∷ 0 ∷ 0 ∷ [])
unfolding all
near_two_copies = refl

-- When (0,5), (8e-8,0) are copied under the identity and [[1,−1e-8],[0,1]], every image is found.
pub found_copies : copy_call 2 (map (of_bits binary64) (0x0000000000000000 ∷ 0x4014000000000000 ∷ 0x3e75798ee2308c3a ∷ 0x0000000000000000 ∷ [])) (map (of_bits binary64) (0x3ff0000000000000 ∷ 0x0000000000000000 ∷ 0x0000000000000000 ∷ 0x3ff0000000000000 ∷ 0x3ff0000000000000 ∷ 0xbe45798ee2308c3a ∷ 0x0000000000000000 ∷ 0x3ff0000000000000 ∷ [])) (replicate 4 (of_bits binary64 0)) (replicate 4 7)
    ≡ (Ok 2, map (of_bits binary64) (0x0000000000000000 ∷ 0x4014000000000000 ∷ 0x3e75798ee2308c3a ∷ 0x0000000000000000 ∷ []), 0 ∷ 1 ∷ 0 ∷ 1 ∷ [])
unfolding all
found_copies = refl

-- These are the vectors with the given bit patterns: a list of points, or the rows of a matrix.
abbrev vecs : List (List ℕ) → List (List Float)
vecs l = map (map (of_bits binary64)) l

abbrev identity : List (List ℕ)
identity = (0x3ff0000000000000 ∷ 0 ∷ []) ∷ (0 ∷ 0x3ff0000000000000 ∷ []) ∷ []

abbrev three_points : List (List ℕ)
three_points = (0 ∷ 0x4014000000000000 ∷ []) ∷ (0x3e75798ee2308c3a ∷ 0 ∷ []) ∷ (0xbe6ad7f29abcaf48 ∷ 0x4014000000000000 ∷ []) ∷ []

-- These are two solids by which the readings of clean are told apart (docs/DECISIONS.md): the Rust has 6 types and 1 member of the first, and 2
-- members of the second.
pub later-types : types_of later ≡ Some ((0 ∷ []) ∷ (0 ∷ 0 ∷ 1 ∷ []) ∷ (0 ∷ 1 ∷ 1 ∷ []) ∷ (0 ∷ []) ∷ [])
unfolding evaluate
later-types = refl

pub member-counts : map (λ c. search c >>= λ ms. Ok (length ms)) (later ∷ folded ∷ []) ≡ Ok 2 ∷ Ok 1 ∷ []
unfolding evaluate
member-counts = refl

-- The points (0,5), (8e-8,0) and (−5e-8,5) are copied under the identity, with room for three copies. The third point is found among the copies, so
-- that there are two.
pub found_point : copy_call 2 (map (of_bits binary64) (join three_points)) (map (of_bits binary64) (join identity)) (replicate 6 (of_bits binary64 0)) (replicate 3 7)
    ≡ (Ok 2, map (of_bits binary64) (join (take 2 three_points) ++ 0 ∷ 0 ∷ []), 0 ∷ 1 ∷ 7 ∷ [])
unfolding all
found_point = refl

-- ---- clean

-- Five of the solids above differ because they are not clean.
pub not_clean : map clean_sheet (near_two ∷ listed_once ∷ near_two_vertices ∷ near_on_axis ∷ near_square ∷ [])
    ≡ Ok false ∷ Ok false ∷ Ok false ∷ Ok false ∷ Ok false ∷ []
unfolding evaluate
not_clean = refl

-- Those that differ because document 01 refuses them, with 11, 9, 12 and 8, are clean.
pub clean-refused : map clean_sheet (not_finite ∷ double_corner ∷ sliver ∷ (96 ∷ 0 ∷ 128 ∷ 8 ∷ 0 ∷ 128 ∷ 0 ∷ 1 ∷ 0 ∷ 32 ∷ 0 ∷ 0 ∷ 64 ∷ []) ∷ [])
    ≡ Ok true ∷ Ok true ∷ Ok true ∷ Ok true ∷ []
unfolding evaluate
clean-refused = refl

-- So is the triangle (1048576,0), (1048576,1e-308), (0,1), which is refused with 9.
pub clean-refused_9 : clean (triangle_of 2 ((0x4130000000000000 ∷ 0 ∷ []) ∷ (0x4130000000000000 ∷ 0x000730d67819e8d2 ∷ []) ∷ (0 ∷ 0x3ff0000000000000 ∷ []) ∷ [])) ≡ true
unfolding evaluate
clean-refused_9 = refl

-- The square whose edges cross is clean, and yet the Rust differs: it is the one difference that is known on clean input which 01 does not refuse.
pub clean_crossed : clean_sheet crossed_square ≡ Ok true
unfolding evaluate
clean_crossed = refl

-- Two solids that are searched, the second with its facets exchanged, are clean.
pub clean_solids : map clean_sheet (square ∷ triangle ∷ []) ≡ Ok true ∷ Ok true ∷ []
unfolding evaluate
clean_solids = refl

-- A hexagon whose edges 0, 1 and 2 lie 9e-8, 2e-8 and 1.84e-7 from the origin is not clean. As it is read, edges 1 and 2 take the distance of edge 0,
-- the only listed one near them. With edges 0 and 2 exchanged the two others are listed first, and 9e-8 is near both.
pub not_clean-exchanged : clean (polygon ((0 ∷ 1 ∷ []) ∷ (2 ∷ 3 ∷ []) ∷ (4 ∷ 5 ∷ []) ∷ (1 ∷ 2 ∷ []) ∷ (3 ∷ 4 ∷ []) ∷ (0 ∷ 5 ∷ []) ∷ []) 2 (
    (0x3ff0000000000000 ∷ 0x3e7828c0be769dc1 ∷ [])
    ∷ (0xbff0000000000000 ∷ 0x3e7828c0be769dc1 ∷ [])
    ∷ (0x3e55798ee2308c3a ∷ 0x3ff0000000000000 ∷ [])
    ∷ (0x3e55798ee2308c3a ∷ 0xbff0000000000000 ∷ [])
    ∷ (0x400000001172c418 ∷ 0x3fffffffdd1a77d0 ∷ [])
    ∷ (0xbfffffffdd1a77d0 ∷ 0xc00000001172c418 ∷ [])
    ∷ [])) ≡ false
unfolding evaluate
not_clean-exchanged = refl

-- The copying of (1,0) under the four quarter turns is clean.
pub clean-quarter-turns : clean_copying 2 (vecs ((0x3ff0000000000000 ∷ 0 ∷ []) ∷ [])) (map vecs (
    identity
    ∷ ((0 ∷ 0xbff0000000000000 ∷ []) ∷ (0x3ff0000000000000 ∷ 0 ∷ []) ∷ [])
    ∷ ((0xbff0000000000000 ∷ 0 ∷ []) ∷ (0 ∷ 0xbff0000000000000 ∷ []) ∷ [])
    ∷ ((0 ∷ 0x3ff0000000000000 ∷ []) ∷ (0xbff0000000000000 ∷ 0 ∷ []) ∷ [])
    ∷ [])) ≡ true
unfolding evaluate
clean-quarter-turns = refl

-- So is that of 0 and 0.9e-7 under [1] and [2]: the second point is found and never multiplied, and the image 1.8e-7 is not made.
pub clean_found : clean_copying 1 (vecs ((0 ∷ []) ∷ (0x3e7828c0be769dc1 ∷ []) ∷ [])) (map vecs (((0x3ff0000000000000 ∷ []) ∷ []) ∷ ((0x4000000000000000 ∷ []) ∷ []) ∷ [])) ≡ true
unfolding evaluate
clean_found = refl

-- The two copyings above are not clean.
pub not_clean-near-two-copies : clean_copying 1 (vecs ((0x3e7ad7f29abcaf48 ∷ []) ∷ [])) (map vecs (((0x3ff0000000000000 ∷ []) ∷ []) ∷ ((0xbff0000000000000 ∷ []) ∷ []) ∷ ((0 ∷ []) ∷ []) ∷ [])) ≡ false
unfolding evaluate
not_clean-near-two-copies = refl

pub not_clean-found-copies : clean_copying 2 (vecs ((0 ∷ 0x4014000000000000 ∷ []) ∷ (0x3e75798ee2308c3a ∷ 0 ∷ []) ∷ [])) (map vecs (identity ∷ ((0x3ff0000000000000 ∷ 0xbe45798ee2308c3a ∷ []) ∷ (0 ∷ 0x3ff0000000000000 ∷ []) ∷ []) ∷ [])) ≡ false
unfolding evaluate
not_clean-found-copies = refl

-- Nor is that of (0,5), (8e-8,0), (−5e-8,5) under the identity, where the Rust has 3 copies and these definitions have 2.
pub not_clean-found-point : clean_copying 2 (vecs three_points) (map vecs (identity ∷ [])) ≡ false
unfolding evaluate
not_clean-found-point = refl
