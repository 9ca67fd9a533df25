-- These are small closed examples of the calls, of clean, of the mark and of single rules. They tell the definitions from the wrong ones that the
-- must-fail edits make.
-- Assumes nothing.
use Rattle.std.specs.Prelude.{◌≡◌, refl, ℕ, Bool, true, false, List, [], ◌∷◌, map, length, get_or, replicate, Err, Ok, Some}
use Rattle.std.specs.Float.{nan, binary64}
use Rattle.std.specs.Float.Ieee.{of_bits, to_bits}
use Rattle.spec.specs.declared.Refusal.TheVariants.{CutSheet, Format, OffTheBoard, BadList, Loose, Mitre, Bench, NotFull, DoubleCorner, Centred, Flat, Blank, ShortSheet, Open, Unsettled}
use Rattle.spec.specs.Refusal.{number, Answer, refused_with}
use Rattle.spec.specs.Ascii.{ascii}
use Rattle.spec.specs.Lists.{range}
use Rattle.spec.specs.Types.{Solid, Classes, result, element_types}
use Rattle.spec.specs.Mark.{marked}
use Rattle.spec.specs.Judged.{Judged, ◌>>=◌}
use Rattle.spec.specs.Sheet.{list}
use Rattle.spec.specs.Solid.{Concrete, preflight}
use Rattle.spec.specs.Search.{examples_go, is_rotation}
use Rattle.spec.specs.Clean.{clean_distances, clean}
use Rattle.spec.specs.Calls.{TypesOut, types_call, SearchOut, search_call, rotations_call}
use Rattle.spec.specs.KitText.{kit_text}
use Rattle.spec.specs.SolidExamples.{alike, square, sides, prism}
use Rattle.spec.specs.Eval.{evaluate}

-- ---- sheets of rank 2: two vertices on a line

-- This is the trial solid "R = 2 at −1 and 1".
abbrev pub dyad : List ℕ
dyad =
    68 ∷ 0 ∷ 175 ∷ 252 ∷ 0 ∷ 0 ∷ 0 ∷ 0 ∷ 0 ∷ 0 ∷ 15 ∷ 252 ∷ 0 ∷ 0 ∷ 0 ∷ 0 ∷ 0 ∷ 0 ∷ 0 ∷ []

-- This is the trial solid "At 0 and 1".
abbrev pub lopsided : List ℕ
lopsided =
    68 ∷ 0 ∷ 128 ∷ 0 ∷ 0 ∷ 0 ∷ 0 ∷ 0 ∷ 0 ∷ 0 ∷ 15 ∷ 252 ∷ 0 ∷ 0 ∷ 0 ∷ 0 ∷ 0 ∷ 0 ∷ 0 ∷ []

-- This is the trial solid "At −1e-7 and 1e-7".
abbrev pub tiny : List ℕ
tiny =
    68 ∷ 0 ∷ 175 ∷ 158 ∷ 181 ∷ 252 ∷ 166 ∷ 175 ∷ 43 ∷ 210 ∷ 15 ∷ 158 ∷ 181 ∷ 252 ∷ 166 ∷ 175 ∷ 43 ∷ 210 ∷ 0 ∷ []

-- This is the trial solid "At 0 and 1e-7".
abbrev pub close : List ℕ
close =
    68 ∷ 0 ∷ 128 ∷ 0 ∷ 0 ∷ 0 ∷ 0 ∷ 0 ∷ 0 ∷ 0 ∷ 15 ∷ 158 ∷ 181 ∷ 252 ∷ 166 ∷ 175 ∷ 43 ∷ 210 ∷ 0 ∷ []

-- Here R = 2, at −1 and 1.00000009. The vertices share a distance class, and yet no member exchanges them.
abbrev pub unequal : List ℕ
unequal =
    68 ∷ 0 ∷ 175 ∷ 252 ∷ 0 ∷ 0 ∷ 0 ∷ 0 ∷ 0 ∷ 0 ∷ 15 ∷ 252 ∷ 0 ∷ 0 ∷ 6 ∷ 10 ∷ 48 ∷ 47 ∷ 128 ∷ []

-- Here R = 2, at 5e-8 and −1.2e-7. The second vertex is further than EPS from the origin, but the listed value of its distance is the first vertex's,
-- 5e-8.
abbrev pub listed_nearer : List ℕ
listed_nearer =
    68 ∷ 0 ∷ 143 ∷ 154 ∷ 181 ∷ 252 ∷ 166 ∷ 175 ∷ 43 ∷ 210 ∷ 47 ∷ 160 ∷ 6 ∷ 202 ∷ 202 ∷ 105 ∷ 26 ∷ 74 ∷ 192 ∷ []

-- These are outputs of the given lengths as they are before a call: every number in them is 7, and every float 2.0.
abbrev pub types_old : ℕ → ℕ → TypesOut
types_old n m = record { elements = replicate n 7; types = replicate m 7 }

abbrev pub search_old : ℕ → ℕ → ℕ → SearchOut
search_old f n m = record { matrices = replicate f (of_bits binary64 0x4000_0000_0000_0000); rows = replicate n 7; marks = replicate m 7 }

-- Gives what a search answers and writes, with the floats shown as bit patterns.
abbrev pub shown : Answer × SearchOut → Answer × List ℕ × List ℕ × List ℕ
shown x = (x.0, map (to_bits binary64) x.1.matrices, x.1.rows, x.1.marks)

-- These are the dyad's types, its members (the identity and the mirror) and its rotation, each in buffers that the answer just fills.
pub dyad-types : types_call dyad 96 80 (types_old 2 4) ≡ (Ok 1, record { elements = 0 ∷ 0 ∷ []; types = 1 ∷ 0 ∷ 0 ∷ 2 ∷ [] })
unfolding evaluate
dyad-types = refl

pub dyad-members : shown (search_call dyad 96 80 (search_old 2 4 2)) ≡ (Ok 2, 0x3ff0000000000000 ∷ 0xbff0000000000000 ∷ [], 0 ∷ 1 ∷ 1 ∷ 0 ∷ [], 1 ∷ 1 ∷ [])
unfolding evaluate
dyad-members = refl

pub dyad-rotations : shown (rotations_call dyad 96 80 (search_old 1 2 1)) ≡ (Ok 1, 0x3ff0000000000000 ∷ [], 0 ∷ 1 ∷ [], 1 ∷ [])
unfolding evaluate
dyad-rotations = refl

-- With one row entry too few, one whole member is kept and the cells past it stay as they were.
pub dyad_short : shown (search_call dyad 96 80 (search_old 2 3 2)) ≡ (refused_with ShortSheet 1, 0x3ff0000000000000 ∷ 0x4000000000000000 ∷ [], 0 ∷ 1 ∷ 7 ∷ [], 1 ∷ 7 ∷ [])
unfolding evaluate
dyad_short = refl

-- Vertex 0 lies at the origin and does not change places with vertex 1: "For R = 2 coordinates don't move".
pub lopsided-members : (search_call lopsided 96 80 (search_old 2 4 2)).0 ≡ refused_with Flat 0
unfolding evaluate
lopsided-members = refl

-- A distance of EPS is not further than EPS, and a difference of EPS is within EPS but not nearer than EPS.
pub tiny-members : (search_call tiny 96 80 (search_old 2 4 2)).0 ≡ refused_with Centred 0
unfolding evaluate
tiny-members = refl

pub close-members : (search_call close 96 80 (search_old 2 4 2)).0 ≡ refused_with DoubleCorner 0
unfolding evaluate
close-members = refl

pub close-types : (types_call close 96 80 (types_old 2 8)).0 ≡ Ok 2
unfolding evaluate
close-types = refl

-- Under the mirror one vertex's image is found nowhere, so the mirror is no member, and no row is written with an entry left unfilled.
pub unequal-members : shown (search_call unequal 96 80 (search_old 2 4 2)) ≡ (Ok 1, 0x3ff0000000000000 ∷ 0x4000000000000000 ∷ [], 0 ∷ 1 ∷ 7 ∷ 7 ∷ [], 1 ∷ 7 ∷ [])
unfolding evaluate
unequal-members = refl

pub unequal_text : kit_text unequal ≡ ascii "types 1\n1 0 0 2\nmembers 1 confirmed 1 rotations 1\n"
unfolding evaluate
unequal_text = refl

-- The question "whose hull is further than EPS from the origin" is asked of the hull's own distance. By its listed value neither facet would be
-- further, and the search would be refused 10.
pub listed-nearer-members : (search_call listed_nearer 96 80 (search_old 2 4 2)).0 ≡ Ok 1
unfolding evaluate
listed-nearer-members = refl

-- ---- clean

-- Tells whether the solid of a sheet is clean, or the sheet's own refusal where it has one.
abbrev pub clean_sheet : List ℕ → Judged Bool
clean_sheet b = preflight b 4096 2048 >>= λ c. Ok (clean c)

-- Gives the polygon with the given edges and, as bit patterns, the given coordinates.
abbrev pub polygon : List (List ℕ) → (d : ℕ) → List (List ℕ) → Concrete
polygon edges d ps = record {
  dimension = d;
  points = map (map (of_bits binary64)) ps;
  abs = ([] ∷ []) ∷ map (λ p. 0 ∷ []) ps ∷ edges ∷ (range 0 (length edges) ∷ []) ∷ [];
}

abbrev pub triangle_of : (d : ℕ) → List (List ℕ) → Concrete
triangle_of = polygon ((0 ∷ 1 ∷ []) ∷ (1 ∷ 2 ∷ []) ∷ (0 ∷ 2 ∷ []) ∷ [])

-- These are clean solids of rank 2: one with two members; two whose search is refused 11 and 10 before it makes a candidate; two with a candidate
-- that is no member.
pub clean_dyads : map clean_sheet (dyad ∷ lopsided ∷ tiny ∷ unequal ∷ listed_nearer ∷ [])
    ≡ Ok true ∷ Ok true ∷ Ok true ∷ Ok true ∷ Ok true ∷ []
unfolding evaluate
clean_dyads = refl

-- The distances 0 and 1e-7 are both listed, and each is nearer than EPS to itself alone. The search is refused 9.
pub clean_close : clean_sheet close ≡ Ok true
unfolding evaluate
clean_close = refl

-- In the triangle, D = 1, at 0, 1e-7 and 0.5e-7, any two coordinates differ by at most EPS, and the third distance is nearer than EPS to both others.
pub not_clean-between : clean (triangle_of 1 ((0 ∷ []) ∷ (0x3e7ad7f29abcaf48 ∷ []) ∷ (0x3e6ad7f29abcaf48 ∷ []) ∷ [])) ≡ false
unfolding evaluate
not_clean-between = refl

-- The distances are 0, 0.6e-7 and 1.2e-7: the second takes the first value, and the third lists another that is near the second too.
pub not_clean-whole-list : clean_distances (map (of_bits binary64) (0 ∷ 0x3e701b2b29a4692b ∷ 0x3e801b2b29a4692b ∷ [])) ≡ false
unfolding evaluate
not_clean-whole-list = refl

-- This is the triangle (1,0), (−0.50000003,0.86602546), (−0.50000006,−0.86602551). Its vertices' distances are about 1, 1.00000006 and 1.00000012:
-- none is near two listed values when it is taken, and the second is when the list is whole. Its coordinates and images are clean. The Rust, which
-- looks distances up again, gives it 6 types and 1 member, and these definitions give it 4 and 2 (crates/trials, Differences), so that it must not
-- pass for clean.
abbrev pub later : Concrete
later = triangle_of 2 ((0x3ff0000000000000 ∷ 0 ∷ []) ∷ (0xbfe00000101b2b2a ∷ 0x3febb67b068681e5 ∷ []) ∷ (0xbfe0000020365653 ∷ 0xbfebb67b215e7480 ∷ []) ∷ [])

pub not_clean-later : clean later ≡ false
unfolding evaluate
not_clean-later = refl

-- This is the quadrangle (−1,−1), (1,−1), (4.5e-8,1), (−6e-8,1). Under the mirror the third vertex's image is near the third and the fourth vertex.
-- By the lowest number it goes to the third, and the mirror is no member; by the least point, as in the Rust, it goes to the fourth, and the mirror
-- is one. So the images of members alone, which here are those of the identity, would let a difference from the Rust pass for clean.
abbrev pub folded : Concrete
folded = polygon ((0 ∷ 1 ∷ []) ∷ (1 ∷ 2 ∷ []) ∷ (2 ∷ 3 ∷ []) ∷ (0 ∷ 3 ∷ []) ∷ []) 2 (
    (0xbff0000000000000 ∷ 0xbff0000000000000 ∷ [])
    ∷ (0x3ff0000000000000 ∷ 0xbff0000000000000 ∷ [])
    ∷ (0x3e6828c0be769dc1 ∷ 0x3ff0000000000000 ∷ [])
    ∷ (0xbe701b2b29a4692b ∷ 0x3ff0000000000000 ∷ [])
    ∷ [])

pub not_clean-candidate : clean folded ≡ false
unfolding evaluate
not_clean-candidate = refl

-- ---- sweeps

-- There are eight vertices in a ring, of which vertex 0 alone has a class of its own. Each sweep tells one more pair apart, and the fourth is the
-- last.
abbrev octagon : Solid
octagon =
    ([] ∷ [])
    ∷ replicate 8 (0 ∷ [])
    ∷ ((0 ∷ 1 ∷ []) ∷ (1 ∷ 2 ∷ []) ∷ (2 ∷ 3 ∷ []) ∷ (3 ∷ 4 ∷ []) ∷ (4 ∷ 5 ∷ []) ∷ (5 ∷ 6 ∷ []) ∷ (6 ∷ 7 ∷ []) ∷ (0 ∷ 7 ∷ []) ∷ [])
    ∷ ((0 ∷ 1 ∷ 2 ∷ 3 ∷ 4 ∷ 5 ∷ 6 ∷ 7 ∷ []) ∷ [])
    ∷ []

abbrev one_apart : Classes
one_apart r e = get_or (get_or ([] ∷ (1 ∷ []) ∷ []) r []) e 0

pub octagon-types : result octagon one_apart
    ≡ Some ((0 ∷ []) ∷ (0 ∷ 1 ∷ 2 ∷ 3 ∷ 4 ∷ 3 ∷ 2 ∷ 1 ∷ []) ∷ (0 ∷ 1 ∷ 2 ∷ 3 ∷ 3 ∷ 2 ∷ 1 ∷ 0 ∷ []) ∷ (0 ∷ []) ∷ [])
unfolding evaluate
octagon-types = refl

-- These are the counts and examples of types that share a rank: of the prism's six vertices, four have one type and two another.
pub prism-element-types : element_types prism ((0 ∷ []) ∷ (0 ∷ 1 ∷ 0 ∷ 0 ∷ 1 ∷ 0 ∷ []) ∷ replicate 9 0 ∷ replicate 5 0 ∷ (0 ∷ []) ∷ [])
    ≡ record { rank = 1; number = 0; example = 0; count = 4 }
    ∷ record { rank = 1; number = 1; example = 1; count = 2 }
    ∷ record { rank = 2; number = 0; example = 0; count = 9 }
    ∷ record { rank = 3; number = 0; example = 0; count = 5 }
    ∷ []
unfolding evaluate
prism-element-types = refl

-- ---- the mark's clauses, each the only one that fails

-- The quarter turn of an oblong takes every edge to an edge, but to one of another distance class.
pub class_clause : marked square sides (1 ∷ 2 ∷ 3 ∷ 0 ∷ []) ≡ false
unfolding evaluate
class_clause = refl

-- There are four vertices, their six edges, and the one face 0 1 2 3. With 1 and 2 exchanged each edge goes to an edge and the face to itself, but
-- the face's edges 01 and 23 go to 02 and 13, which are not the face's.
abbrev four_cycle : Solid
four_cycle =
    ([] ∷ [])
    ∷ replicate 4 (0 ∷ [])
    ∷ ((0 ∷ 1 ∷ []) ∷ (0 ∷ 2 ∷ []) ∷ (0 ∷ 3 ∷ []) ∷ (1 ∷ 2 ∷ []) ∷ (1 ∷ 3 ∷ []) ∷ (2 ∷ 3 ∷ []) ∷ [])
    ∷ ((0 ∷ 2 ∷ 3 ∷ 5 ∷ []) ∷ [])
    ∷ ((0 ∷ []) ∷ [])
    ∷ []

pub subs_clause : marked four_cycle alike (0 ∷ 2 ∷ 1 ∷ 3 ∷ []) ≡ false
unfolding evaluate
subs_clause = refl

pub four_cycle_turned : marked four_cycle alike (1 ∷ 2 ∷ 3 ∷ 0 ∷ []) ≡ true
unfolding evaluate
four_cycle_turned = refl

-- Where two elements have one vertex set, not even the identity is confirmed.
pub vertex_set_clause : marked (
    ([] ∷ []) ∷ replicate 2 (0 ∷ []) ∷ ((0 ∷ 1 ∷ []) ∷ (0 ∷ 1 ∷ []) ∷ []) ∷ ((0 ∷ 1 ∷ []) ∷ []) ∷ []) alike (0 ∷ 1 ∷ []) ≡ false
unfolding evaluate
vertex_set_clause = refl

-- A row that repeats a vertex is not confirmed.
pub repeat_clause : marked (([] ∷ []) ∷ replicate 2 (0 ∷ []) ∷ ((0 ∷ 1 ∷ []) ∷ []) ∷ []) alike (0 ∷ 0 ∷ []) ≡ false
unfolding evaluate
repeat_clause = refl

-- ---- single rules

-- The refusals have the numbers of the table of answers, in its order: its column "No." runs from 1 to 15.
pub table_numbers : map number (
    CutSheet ∷ Format ∷ OffTheBoard ∷ BadList ∷ Loose ∷ Mitre ∷ Bench ∷ NotFull ∷ DoubleCorner ∷ Centred ∷ Flat ∷ Blank ∷ ShortSheet ∷ Open ∷ Unsettled ∷ [])
    ≡ range 1 15
unfolding evaluate
table_numbers = refl

-- "a list's length counts as entries when it is read": entry 8,192 passes, and entry 8,193 is refused 2 before the sheet's end, which comes next, is
-- seen. A length of 0 adds no entry, and is refused 4.
pub entries-full : list (0 ∷ 16 ∷ 0 ∷ []) 1 8191 0 ≡ Ok (0 ∷ [], 23)
unfolding evaluate
entries-full = refl

pub entries_over : list (0 ∷ 16 ∷ []) 1 8192 0 ≡ Err Format
unfolding evaluate
entries_over = refl

pub entries_none : list (0 ∷ 0 ∷ 0 ∷ []) 1 8192 0 ≡ Err BadList
unfolding evaluate
entries_none = refl

-- The images are "sorted with repeats kept": the face 0 1 2 3 goes to 0 0 1 2, which is not the face 0 1 2.
pub repeats_kept : examples_go (
    ([] ∷ []) ∷ replicate 4 (0 ∷ []) ∷ ((0 ∷ 1 ∷ 2 ∷ 3 ∷ []) ∷ (0 ∷ 1 ∷ 2 ∷ []) ∷ []) ∷ ((0 ∷ 1 ∷ []) ∷ []) ∷ []) ((0 ∷ []) ∷ replicate 4 0 ∷ replicate 2 0 ∷ (0 ∷ []) ∷ []) (0 ∷ 0 ∷ 1 ∷ 2 ∷ []) ≡ false
unfolding evaluate
repeats_kept = refl

-- A determinant that is no number is not above 0.
pub nan_is_no_rotation : is_rotation (record { matrix = (nan ∷ []) ∷ []; row = []; mark = 0 }) ≡ false
unfolding evaluate
nan_is_no_rotation = refl
