-- Section "Trial solids", and each refusal that a sheet can meet, are evaluated from the sheets' bytes.
-- Assumes nothing.
use Rattle.std.specs.Prelude.{◌≡◌, refl, ℕ, List, [], ◌∷◌, ◌++◌, map, replicate, take, Ok}
use Rattle.spec.specs.declared.Refusal.TheVariants.{Bench, ShortSheet}
use Rattle.spec.specs.Refusal.{refused_with}
use Rattle.spec.specs.Ascii.{ascii}
use Rattle.spec.specs.Calls.{types_call, search_call, rotations_call}
use Rattle.spec.specs.KitText.{kit_text}
use Rattle.spec.specs.CallExamples.{dyad, lopsided, tiny, close, types_old, search_old, shown}
use Rattle.spec.specs.Eval.{evaluate}

-- ---- sheets

-- This is the square (1,1), (−1,1), (−1,−1), (1,−1) with the edges 01, 12, 23, 03, in 85 bytes. `Trials` proves that this and the next sheets are
-- read so.
abbrev pub square : List ℕ
square =
    104 ∷ 1 ∷ 0 ∷ 16 ∷ 255 ∷ 192 ∷ 0 ∷ 0 ∷ 0 ∷ 0 ∷ 0 ∷ 0 ∷ 255 ∷ 192 ∷ 0 ∷ 0 ∷ 0 ∷ 0 ∷ 0 ∷ 2 ∷ 255 ∷ 192 ∷ 0 ∷ 0
    ∷ 0 ∷ 0 ∷ 0 ∷ 0 ∷ 255 ∷ 192 ∷ 0 ∷ 0 ∷ 0 ∷ 0 ∷ 0 ∷ 2 ∷ 255 ∷ 192 ∷ 0 ∷ 0 ∷ 0 ∷ 0 ∷ 0 ∷ 2 ∷ 255 ∷ 192 ∷ 0 ∷ 0
    ∷ 0 ∷ 0 ∷ 0 ∷ 0 ∷ 255 ∷ 192 ∷ 0 ∷ 0 ∷ 0 ∷ 0 ∷ 0 ∷ 2 ∷ 255 ∷ 192 ∷ 0 ∷ 0 ∷ 0 ∷ 0 ∷ 0 ∷ 0 ∷ 0 ∷ 128 ∷ 0 ∷ 1
    ∷ 0 ∷ 32 ∷ 2 ∷ 0 ∷ 128 ∷ 8 ∷ 1 ∷ 0 ∷ 48 ∷ 2 ∷ 0 ∷ 0 ∷ 12 ∷ []

-- This is the sheet of "that square, first coordinates doubled".
abbrev pub doubled : List ℕ
doubled =
    104 ∷ 1 ∷ 0 ∷ 17 ∷ 0 ∷ 0 ∷ 0 ∷ 0 ∷ 0 ∷ 0 ∷ 0 ∷ 0 ∷ 255 ∷ 192 ∷ 0 ∷ 0 ∷ 0 ∷ 0 ∷ 0 ∷ 3 ∷ 0 ∷ 0 ∷ 0 ∷ 0
    ∷ 0 ∷ 0 ∷ 0 ∷ 0 ∷ 255 ∷ 192 ∷ 0 ∷ 0 ∷ 0 ∷ 0 ∷ 0 ∷ 3 ∷ 0 ∷ 0 ∷ 0 ∷ 0 ∷ 0 ∷ 0 ∷ 0 ∷ 2 ∷ 255 ∷ 192 ∷ 0 ∷ 0
    ∷ 0 ∷ 0 ∷ 0 ∷ 1 ∷ 0 ∷ 0 ∷ 0 ∷ 0 ∷ 0 ∷ 0 ∷ 0 ∷ 2 ∷ 255 ∷ 192 ∷ 0 ∷ 0 ∷ 0 ∷ 0 ∷ 0 ∷ 0 ∷ 0 ∷ 128 ∷ 0 ∷ 1
    ∷ 0 ∷ 32 ∷ 2 ∷ 0 ∷ 128 ∷ 8 ∷ 1 ∷ 0 ∷ 48 ∷ 2 ∷ 0 ∷ 0 ∷ 12 ∷ []

-- This is the rhombus (2,0), (0,1), (−2,0), (0,−1), with the same edges.
abbrev pub rhombus : List ℕ
rhombus =
    104 ∷ 1 ∷ 0 ∷ 17 ∷ 0 ∷ 0 ∷ 0 ∷ 0 ∷ 0 ∷ 0 ∷ 0 ∷ 0 ∷ 0 ∷ 0 ∷ 0 ∷ 0 ∷ 0 ∷ 0 ∷ 0 ∷ 0 ∷ 0 ∷ 0 ∷ 0 ∷ 0
    ∷ 0 ∷ 0 ∷ 0 ∷ 0 ∷ 255 ∷ 192 ∷ 0 ∷ 0 ∷ 0 ∷ 0 ∷ 0 ∷ 3 ∷ 0 ∷ 0 ∷ 0 ∷ 0 ∷ 0 ∷ 0 ∷ 0 ∷ 0 ∷ 0 ∷ 0 ∷ 0 ∷ 0
    ∷ 0 ∷ 0 ∷ 0 ∷ 0 ∷ 0 ∷ 0 ∷ 0 ∷ 0 ∷ 0 ∷ 0 ∷ 0 ∷ 2 ∷ 255 ∷ 192 ∷ 0 ∷ 0 ∷ 0 ∷ 0 ∷ 0 ∷ 0 ∷ 0 ∷ 128 ∷ 0 ∷ 1
    ∷ 0 ∷ 32 ∷ 2 ∷ 0 ∷ 128 ∷ 8 ∷ 1 ∷ 0 ∷ 48 ∷ 2 ∷ 0 ∷ 0 ∷ 12 ∷ []

-- This is the vertex (1,2), a sheet for the case "R = 1".
abbrev pub single : List ℕ
single =
    40 ∷ 255 ∷ 192 ∷ 0 ∷ 0 ∷ 0 ∷ 0 ∷ 0 ∷ 1 ∷ 0 ∷ 0 ∷ 0 ∷ 0 ∷ 0 ∷ 0 ∷ 0 ∷ 0 ∷ []

-- ---- what `kit` prints for each trial solid

pub kit_texts : map kit_text (square ∷ doubled ∷ rhombus ∷ dyad ∷ lopsided ∷ tiny ∷ close ∷ single ∷ [])
    ≡ ascii "types 2\n1 0 0 4\n2 0 0 4\nmembers 8 confirmed 8 rotations 4\n"
    ∷ ascii "types 3\n1 0 0 4\n2 0 0 2\n2 1 1 2\nmembers 4 confirmed 4 rotations 2\n"
    ∷ ascii "types 3\n1 0 0 2\n1 1 1 2\n2 0 0 4\nmembers 4 confirmed 4 rotations 2\n"
    ∷ ascii "types 1\n1 0 0 2\nmembers 2 confirmed 2 rotations 1\n"
    ∷ ascii "types 2\n1 0 0 1\n1 1 1 1\nrefused 11\n"
    ∷ ascii "types 1\n1 0 0 2\nrefused 10\n"
    ∷ ascii "types 2\n1 0 0 1\n1 1 1 1\nrefused 9\n"
    ∷ ascii "types 0\nrefused 8\n"
    ∷ []
unfolding evaluate
kit_texts = refl

-- ---- each refusal by its smallest sheet; 15 is never met, and 7, 12 and 13 are shown further below

-- The sheets are refused, in this order, because no field is whole, the last field is cut, a byte follows, a filling bit is 1, a byte follows after
-- 64 bits; R is 6, D is 5, a count is 0, a count is 2,049; a coordinate is infinite, or too large; a list has the length 0, a sub is not below its
-- count, subs fall, subs are equal; a vertex is in no list, and the same where 6 is met too; one edge alone lies between the top and a vertex; 2,048
-- elements are too many for the workspace that `kit` lends; and by the search, because D is not R − 1, R is 1, or R is 0.
pub refusals : map kit_text (
    ([])
    ∷ take 84 square
    ∷ (square ++ 0 ∷ [])
    ∷ (take 84 square ++ 13 ∷ [])
    ∷ (96 ∷ 0 ∷ 128 ∷ 4 ∷ 0 ∷ 128 ∷ 0 ∷ 1 ∷ 0 ∷ [])
    ∷ (192 ∷ [])
    ∷ (20 ∷ [])
    ∷ (64 ∷ 0 ∷ 0 ∷ [])
    ∷ (66 ∷ 0 ∷ 64 ∷ [])
    ∷ (37 ∷ 255 ∷ 192 ∷ 0 ∷ 0 ∷ 0 ∷ 0 ∷ 0 ∷ 0 ∷ [])
    ∷ (37 ∷ 4 ∷ 192 ∷ 0 ∷ 4 ∷ 0 ∷ 0 ∷ 0 ∷ 0 ∷ [])
    ∷ (96 ∷ 0 ∷ 128 ∷ 4 ∷ 0 ∷ 0 ∷ [])
    ∷ (96 ∷ 0 ∷ 128 ∷ 4 ∷ 0 ∷ 128 ∷ 0 ∷ 2 ∷ [])
    ∷ (96 ∷ 0 ∷ 128 ∷ 4 ∷ 0 ∷ 128 ∷ 8 ∷ 0 ∷ [])
    ∷ (96 ∷ 0 ∷ 128 ∷ 4 ∷ 0 ∷ 128 ∷ 8 ∷ 1 ∷ [])
    ∷ (96 ∷ 0 ∷ 192 ∷ 8 ∷ 0 ∷ 128 ∷ 0 ∷ 1 ∷ 0 ∷ 32 ∷ 0 ∷ 0 ∷ 64 ∷ [])
    ∷ (96 ∷ 0 ∷ 192 ∷ 4 ∷ 0 ∷ 128 ∷ 0 ∷ 1 ∷ [])
    ∷ (96 ∷ 0 ∷ 128 ∷ 4 ∷ 0 ∷ 128 ∷ 0 ∷ 1 ∷ [])
    ∷ (66 ∷ 0 ∷ 0 ∷ [])
    ∷ (96 ∷ 0 ∷ 128 ∷ 8 ∷ 0 ∷ 128 ∷ 0 ∷ 1 ∷ 0 ∷ 32 ∷ 0 ∷ 0 ∷ 64 ∷ [])
    ∷ (32 ∷ [])
    ∷ (12 ∷ [])
    ∷ [])
    ≡ ascii "refused 1\n"
    ∷ ascii "refused 1\n"
    ∷ ascii "refused 1\n"
    ∷ ascii "refused 1\n"
    ∷ ascii "refused 1\n"
    ∷ ascii "refused 2\n"
    ∷ ascii "refused 2\n"
    ∷ ascii "refused 2\n"
    ∷ ascii "refused 2\n"
    ∷ ascii "refused 3\n"
    ∷ ascii "refused 3\n"
    ∷ ascii "refused 4\n"
    ∷ ascii "refused 4\n"
    ∷ ascii "refused 4\n"
    ∷ ascii "refused 4\n"
    ∷ ascii "refused 5\n"
    ∷ ascii "refused 5\n"
    ∷ ascii "refused 6\n"
    ∷ ascii "refused 7\n"
    ∷ ascii "types 2\n1 0 0 2\n2 0 0 2\nrefused 8\n"
    ∷ ascii "types 0\nrefused 8\n"
    ∷ ascii "types 0\nrefused 8\n"
    ∷ []
unfolding evaluate
refusals = refl

-- This is a quadrangle so thin that the candidate of the first flag misses the quadrangle's own vertices.
abbrev pub sliver : List ℕ
sliver =
    104 ∷ 1 ∷ 0 ∷ 17 ∷ 2 ∷ 61 ∷ 0 ∷ 0 ∷ 0 ∷ 0 ∷ 0 ∷ 0 ∷ 255 ∷ 192 ∷ 0 ∷ 0 ∷ 0 ∷ 0 ∷ 0 ∷ 1 ∷ 4 ∷ 173 ∷ 221 ∷ 0
    ∷ 0 ∷ 0 ∷ 0 ∷ 1 ∷ 2 ∷ 48 ∷ 128 ∷ 8 ∷ 49 ∷ 38 ∷ 233 ∷ 123 ∷ 4 ∷ 186 ∷ 18 ∷ 0 ∷ 0 ∷ 0 ∷ 0 ∷ 1 ∷ 0 ∷ 112 ∷ 0 ∷ 0
    ∷ 0 ∷ 0 ∷ 0 ∷ 1 ∷ 0 ∷ 32 ∷ 0 ∷ 0 ∷ 0 ∷ 0 ∷ 0 ∷ 3 ∷ 4 ∷ 186 ∷ 18 ∷ 0 ∷ 0 ∷ 0 ∷ 0 ∷ 0 ∷ 0 ∷ 128 ∷ 0 ∷ 1
    ∷ 0 ∷ 32 ∷ 2 ∷ 0 ∷ 128 ∷ 8 ∷ 1 ∷ 0 ∷ 48 ∷ 2 ∷ 0 ∷ 0 ∷ 12 ∷ []

pub blank : kit_text sliver ≡ ascii "types 8\n1 0 0 1\n1 1 1 1\n1 2 2 1\n1 3 3 1\n2 0 0 1\n2 1 1 1\n2 2 2 1\n2 3 3 1\nrefused 12\n"
unfolding evaluate
blank = refl

-- "input past 8,192 bytes is refused 1": here one of 8,193 bytes, and one of 8,192, which is read. `Trials` has the rule for every input.
pub long : kit_text (replicate 8193 255) ≡ ascii "refused 1\n"
unfolding evaluate
long = refl

pub whole : kit_text (replicate 8192 255) ≡ ascii "refused 2\n"
unfolding evaluate
whole = refl

-- ---- more solids

-- This is the triangle (−1,0), (1,0), (0,1) with the edges 01, 12, 02. Its first edge passes through the origin, and the second edge changes places
-- with it.
abbrev pub triangle : List ℕ
triangle =
    104 ∷ 0 ∷ 192 ∷ 14 ∷ 255 ∷ 192 ∷ 0 ∷ 0 ∷ 0 ∷ 0 ∷ 0 ∷ 0 ∷ 0 ∷ 0 ∷ 0 ∷ 0 ∷ 0 ∷ 0 ∷ 0 ∷ 0 ∷ 255 ∷ 192 ∷ 0 ∷ 0
    ∷ 0 ∷ 0 ∷ 0 ∷ 0 ∷ 0 ∷ 0 ∷ 0 ∷ 0 ∷ 0 ∷ 0 ∷ 0 ∷ 0 ∷ 0 ∷ 0 ∷ 0 ∷ 0 ∷ 0 ∷ 0 ∷ 0 ∷ 0 ∷ 255 ∷ 192 ∷ 0 ∷ 0
    ∷ 0 ∷ 0 ∷ 0 ∷ 0 ∷ 0 ∷ 128 ∷ 0 ∷ 1 ∷ 0 ∷ 32 ∷ 2 ∷ 0 ∷ 128 ∷ 8 ∷ 0 ∷ 0 ∷ 32 ∷ []

-- This is a regular tetrahedron, so that R is 4.
abbrev pub tetrahedron : List ℕ
tetrahedron =
    140 ∷ 1 ∷ 0 ∷ 24 ∷ 1 ∷ 15 ∷ 252 ∷ 0 ∷ 0 ∷ 0 ∷ 0 ∷ 0 ∷ 0 ∷ 15 ∷ 252 ∷ 0 ∷ 0 ∷ 0 ∷ 0 ∷ 0 ∷ 0 ∷ 15 ∷ 252 ∷ 0
    ∷ 0 ∷ 0 ∷ 0 ∷ 0 ∷ 0 ∷ 15 ∷ 252 ∷ 0 ∷ 0 ∷ 0 ∷ 0 ∷ 0 ∷ 0 ∷ 47 ∷ 252 ∷ 0 ∷ 0 ∷ 0 ∷ 0 ∷ 0 ∷ 0 ∷ 47 ∷ 252 ∷ 0
    ∷ 0 ∷ 0 ∷ 0 ∷ 0 ∷ 0 ∷ 47 ∷ 252 ∷ 0 ∷ 0 ∷ 0 ∷ 0 ∷ 0 ∷ 0 ∷ 15 ∷ 252 ∷ 0 ∷ 0 ∷ 0 ∷ 0 ∷ 0 ∷ 0 ∷ 47 ∷ 252 ∷ 0
    ∷ 0 ∷ 0 ∷ 0 ∷ 0 ∷ 0 ∷ 47 ∷ 252 ∷ 0 ∷ 0 ∷ 0 ∷ 0 ∷ 0 ∷ 0 ∷ 47 ∷ 252 ∷ 0 ∷ 0 ∷ 0 ∷ 0 ∷ 0 ∷ 0 ∷ 15 ∷ 252 ∷ 0
    ∷ 0 ∷ 0 ∷ 0 ∷ 0 ∷ 0 ∷ 0 ∷ 8 ∷ 0 ∷ 0 ∷ 16 ∷ 2 ∷ 0 ∷ 0 ∷ 8 ∷ 0 ∷ 128 ∷ 0 ∷ 3 ∷ 0 ∷ 32 ∷ 2 ∷ 0 ∷ 128 ∷ 8
    ∷ 0 ∷ 128 ∷ 48 ∷ 2 ∷ 0 ∷ 64 ∷ 12 ∷ 0 ∷ 192 ∷ 0 ∷ 1 ∷ 0 ∷ 96 ∷ 6 ∷ 0 ∷ 0 ∷ 16 ∷ 4 ∷ 0 ∷ 48 ∷ 2 ∷ 0 ∷ 128 ∷ 40
    ∷ 1 ∷ 128 ∷ 48 ∷ 8 ∷ 1 ∷ 64 ∷ []

-- These are six vertices that a mirror takes to one another within EPS, while it does not take edges to edges.
abbrev pub crowded : List ℕ
crowded =
    104 ∷ 1 ∷ 128 ∷ 24 ∷ 255 ∷ 128 ∷ 0 ∷ 0 ∷ 0 ∷ 0 ∷ 0 ∷ 0 ∷ 255 ∷ 224 ∷ 0 ∷ 0 ∷ 0 ∷ 0 ∷ 0 ∷ 2 ∷ 255 ∷ 128 ∷ 0 ∷ 0
    ∷ 0 ∷ 0 ∷ 0 ∷ 0 ∷ 255 ∷ 224 ∷ 0 ∷ 0 ∷ 0 ∷ 0 ∷ 0 ∷ 2 ∷ 255 ∷ 224 ∷ 0 ∷ 0 ∷ 0 ∷ 0 ∷ 0 ∷ 0 ∷ 255 ∷ 128 ∷ 0 ∷ 0
    ∷ 0 ∷ 0 ∷ 0 ∷ 0 ∷ 255 ∷ 224 ∷ 0 ∷ 0 ∷ 0 ∷ 0 ∷ 0 ∷ 0 ∷ 255 ∷ 128 ∷ 0 ∷ 0 ∷ 0 ∷ 0 ∷ 0 ∷ 2 ∷ 249 ∷ 182 ∷ 28 ∷ 145
    ∷ 220 ∷ 11 ∷ 3 ∷ 65 ∷ 0 ∷ 0 ∷ 0 ∷ 0 ∷ 0 ∷ 0 ∷ 0 ∷ 0 ∷ 249 ∷ 182 ∷ 28 ∷ 145 ∷ 220 ∷ 11 ∷ 3 ∷ 65 ∷ 0 ∷ 0 ∷ 0 ∷ 0
    ∷ 0 ∷ 0 ∷ 0 ∷ 0 ∷ 0 ∷ 128 ∷ 8 ∷ 2 ∷ 0 ∷ 32 ∷ 0 ∷ 0 ∷ 192 ∷ 8 ∷ 0 ∷ 0 ∷ 64 ∷ 2 ∷ 0 ∷ 32 ∷ 16 ∷ 0 ∷ 128 ∷ 16
    ∷ 5 ∷ 0 ∷ 32 ∷ 6 ∷ 1 ∷ 64 ∷ []

pub edges_tested : kit_text crowded ≡ ascii "types 4\n1 0 0 4\n1 1 4 2\n2 0 0 2\n2 1 2 4\nmembers 1 confirmed 1 rotations 1\n"
unfolding evaluate
edges_tested = refl

pub exchanged_edge : kit_text triangle ≡ ascii "types 4\n1 0 0 2\n1 1 2 1\n2 0 0 1\n2 1 1 2\nmembers 2 confirmed 2 rotations 1\n"
unfolding evaluate
exchanged_edge = refl

pub solid : kit_text tetrahedron ≡ ascii "types 3\n1 0 0 4\n2 0 0 6\n3 0 0 4\nmembers 24 confirmed 24 rotations 12\n"
unfolding evaluate
solid = refl

-- ---- the calls, whose outputs hold 7 and 2.0 before

-- These are the doubled square's types, in a workspace that just suffices, for E = 8 and I = 8. Cells past the answer keep their values.
pub types-given : types_call doubled 320 128 (types_old 9 13)
    ≡ (Ok 3, record { elements = 0 ∷ 0 ∷ 0 ∷ 0 ∷ 0 ∷ 1 ∷ 0 ∷ 1 ∷ 7 ∷ []; types = 1 ∷ 0 ∷ 0 ∷ 4 ∷ 2 ∷ 0 ∷ 0 ∷ 2 ∷ 2 ∷ 1 ∷ 1 ∷ 2 ∷ 7 ∷ [] })
unfolding evaluate
types-given = refl

-- With one word less, or one float less, the answer is 7.
pub bench : types_call doubled 319 128 (types_old 9 13) ≡ (refused_with Bench 0, types_old 9 13)
unfolding evaluate
bench = refl

-- 7 comes before 5 and 6, which this sheet would meet too.
pub bench_first : types_call (96 ∷ 0 ∷ 192 ∷ 4 ∷ 0 ∷ 128 ∷ 0 ∷ 1 ∷ []) 0 0 (types_old 9 13) ≡ (refused_with Bench 0, types_old 9 13)
unfolding evaluate
bench_first = refl

pub bench_floats : types_call doubled 320 127 (types_old 9 13) ≡ (refused_with Bench 0, types_old 9 13)
unfolding evaluate
bench_floats = refl

-- With a cell less for the elements, or for the types, the answer is 13, and nothing is written.
pub short_elements : types_call doubled 320 128 (types_old 7 13) ≡ (refused_with ShortSheet 0, types_old 7 13)
unfolding evaluate
short_elements = refl

pub short_types : types_call doubled 320 128 (types_old 9 11) ≡ (refused_with ShortSheet 0, types_old 9 11)
unfolding evaluate
short_types = refl

-- These are the square's eight members, row by row. Each output has one cell more than needed, and keeps it (0x4000.. is 2.0).
pub square-members : shown (search_call square 4096 2048 (search_old 33 33 9))
    ≡ (
      Ok 8,
      0x3ff0000000000000 ∷ 0 ∷ 0 ∷ 0x3ff0000000000000
          ∷ 0xbff0000000000000 ∷ 0 ∷ 0 ∷ 0x3ff0000000000000
          ∷ 0 ∷ 0xbff0000000000000 ∷ 0x3ff0000000000000 ∷ 0
          ∷ 0 ∷ 0xbff0000000000000 ∷ 0xbff0000000000000 ∷ 0
          ∷ 0xbff0000000000000 ∷ 0 ∷ 0 ∷ 0xbff0000000000000
          ∷ 0x3ff0000000000000 ∷ 0 ∷ 0 ∷ 0xbff0000000000000
          ∷ 0 ∷ 0x3ff0000000000000 ∷ 0x3ff0000000000000 ∷ 0
          ∷ 0 ∷ 0x3ff0000000000000 ∷ 0xbff0000000000000 ∷ 0
          ∷ 0x4000000000000000 ∷ [],
      0 ∷ 1 ∷ 2 ∷ 3
          ∷ 1 ∷ 0 ∷ 3 ∷ 2
          ∷ 1 ∷ 2 ∷ 3 ∷ 0
          ∷ 2 ∷ 1 ∷ 0 ∷ 3
          ∷ 2 ∷ 3 ∷ 0 ∷ 1
          ∷ 3 ∷ 2 ∷ 1 ∷ 0
          ∷ 0 ∷ 3 ∷ 2 ∷ 1
          ∷ 3 ∷ 0 ∷ 1 ∷ 2
          ∷ 7 ∷ [],
      1 ∷ 1 ∷ 1 ∷ 1 ∷ 1 ∷ 1 ∷ 1 ∷ 1 ∷ 7 ∷ [],
    )
unfolding evaluate
square-members = refl

-- These are the square's four rotations.
pub square-rotations : shown (rotations_call square 4096 2048 (search_old 16 16 4))
    ≡ (
      Ok 4,
      0x3ff0000000000000 ∷ 0 ∷ 0 ∷ 0x3ff0000000000000
          ∷ 0 ∷ 0xbff0000000000000 ∷ 0x3ff0000000000000 ∷ 0
          ∷ 0xbff0000000000000 ∷ 0 ∷ 0 ∷ 0xbff0000000000000
          ∷ 0 ∷ 0x3ff0000000000000 ∷ 0xbff0000000000000 ∷ 0 ∷ [],
      0 ∷ 1 ∷ 2 ∷ 3
          ∷ 1 ∷ 2 ∷ 3 ∷ 0
          ∷ 2 ∷ 3 ∷ 0 ∷ 1
          ∷ 3 ∷ 0 ∷ 1 ∷ 2 ∷ [],
      1 ∷ 1 ∷ 1 ∷ 1 ∷ [],
    )
unfolding evaluate
square-rotations = refl

-- With floats for two matrices and a half the answer is 13, and two members are kept.
pub square_short : shown (search_call square 4096 2048 (search_old 11 100 100))
    ≡ (
      refused_with ShortSheet 2,
      0x3ff0000000000000 ∷ 0 ∷ 0 ∷ 0x3ff0000000000000
          ∷ 0xbff0000000000000 ∷ 0 ∷ 0 ∷ 0x3ff0000000000000
          ∷ 0x4000000000000000 ∷ 0x4000000000000000 ∷ 0x4000000000000000 ∷ [],
      (0 ∷ 1 ∷ 2 ∷ 3 ∷ 1 ∷ 0 ∷ 3 ∷ 2 ∷ []) ++ replicate 92 7,
      (1 ∷ 1 ∷ []) ++ replicate 98 7,
    )
unfolding evaluate
square_short = refl

-- With row entries for two members and a quarter the answer is the same.
pub square_short_rows : (search_call square 4096 2048 (search_old 32 9 8)).0 ≡ refused_with ShortSheet 2
unfolding evaluate
square_short_rows = refl

-- Without room for a single member the answer is 13, and nothing is written.
pub square-none : search_call square 4096 2048 (search_old 32 32 0) ≡ (refused_with ShortSheet 0, search_old 32 32 0)
unfolding evaluate
square-none = refl
