-- This file has the public calls: what each answers, and what stands in its lent outputs afterwards.
-- Assumes nothing.
use Rattle.std.specs.Prelude.{ℕ, suc, ◌*◌, Bool, true, false, ◌&&◌, List, [], ◌∷◌, map, length, leb, ltb, Float, Err, Ok}
use Rattle.spec.specs.declared.Refusal.TheVariants.{Blank, ShortSheet, Unsettled}
use Rattle.spec.specs.Refusal.{Answer, refused_with}
use Rattle.spec.specs.Lists.{join, written}
use Rattle.spec.specs.Types.{ElementType, given, element_types}
use Rattle.spec.specs.Judged.{Judged, ◌>>=◌, ◌>>◌, judge, wanted}
use Rattle.spec.specs.Solid.{Concrete, preflight}
use Rattle.spec.specs.Classes.{types_of}
use Rattle.spec.specs.Search.{Member, rotations_of, search}

-- ---- types

-- This is what a types call gives out: the type of each proper element, and for each type its rank, number, example and count.
pub record Given : Type 0 where
  pub elements : List ℕ
  pub types : List ElementType

unfoldable pub type_cells : ElementType → List ℕ
type_cells k = k.rank ∷ k.number ∷ k.example ∷ k.count ∷ []

-- Gives what a types call gives out, or its refusal: "the types call goes on with 15, 13". The numbers n and m say how many cells are lent for
-- elements and for types; a type takes four cells.
unfoldable pub types_given : List ℕ → ℕ → ℕ → ℕ → ℕ → Judged Given
types_given b words floats n m = do
  c ← preflight b words floats
  z ← wanted Unsettled (types_of c)
  g ← Ok (record { elements = given c.abs z; types = element_types c.abs z })
  judge ShortSheet (leb (length g.elements) n && leb (4 * length g.types) m)
  Ok g

-- These are the cells of the types call's outputs: there is one cell for each proper element, and there are four for each type.
pub record TypesOut : Type 0 where
  pub elements : List ℕ
  pub types : List ℕ

unfoldable pub types_written : Judged Given → TypesOut → Answer × TypesOut
types_written (Err why) old = (refused_with why 0, old)
types_written (Ok g) old =
    (Ok (length g.types), record { elements = written g.elements old.elements; types = written (join (map type_cells g.types)) old.types })

-- The types call gives its answer and the outputs afterwards, from the sheet's bytes, the lengths of the workspace's words and floats, and the
-- outputs as they were. "Outputs are untouched, except ..": a refusal changes nothing here. "Workspace afterwards is free": no definition speaks of
-- what it holds.
unfoldable pub types_call : List ℕ → ℕ → ℕ → TypesOut → Answer × TypesOut
types_call b words floats old = types_written (types_given b words floats (length old.elements) (length old.types)) old

-- ---- search and rotations

-- These are the cells that are lent to a search: floats for the matrices, entries for the rows, and marks.
pub record Room : Type 0 where
  pub floats : ℕ
  pub entries : ℕ
  pub marks : ℕ

-- Tells whether there is room for n members in D dimensions, each with a row of `vs` vertices.
unfoldable pub have_room : Room → ℕ → ℕ → ℕ → Bool
have_room m D vs n = leb (n * (D * D)) m.floats && leb (n * vs) m.entries && leb n m.marks

-- These are the members that are kept, "what fitted in search (whole members only)", where n members have been taken before.
unfoldable pub fitting : Room → ℕ → ℕ → ℕ → List Member → List Member
fitting m D vs n [] = []
fitting m D vs n (x ∷ xs) = elim (have_room m D vs (suc n)) [ true ↦ x ∷ fitting m D vs (suc n) xs | false ↦ [] ]

-- This is what a search answers, and the members that it writes out.
pub record Outcome : Type 0 where
  pub answer : Answer
  pub members : List Member

-- A search goes on with "then 12 or 13": an empty list is refused 12, and a list of which not all was kept is refused 13.
unfoldable pub kept_of : List Member → List Member → Outcome
kept_of [] kept = record { answer = refused_with Blank 0; members = [] }
kept_of (x ∷ xs) kept = elim (ltb (length kept) (length (x ∷ xs))) [
  | true ↦ record { answer = refused_with ShortSheet (length kept); members = kept }
  | false ↦ record { answer = Ok (length kept); members = kept }
]

-- "13 keeps what fitted in search (whole members only)", and at any other refusal nothing is written.
unfoldable pub outcome : Judged (Concrete × List Member) → Room → Outcome
outcome (Err why) m = record { answer = refused_with why 0; members = [] }
outcome (Ok x) m = kept_of x.1 (fitting m x.0.dimension (length x.0.points) 0 x.1)

-- These are all members of the sheet's solid, whether they fit or not.
unfoldable pub members_in : List ℕ → ℕ → ℕ → Judged (Concrete × List Member)
members_in b words floats = do
  c ← preflight b words floats
  ms ← search c
  Ok (c, ms)

unfoldable pub rotations_in : List ℕ → ℕ → ℕ → Judged (Concrete × List Member)
rotations_in b words floats = do
  x ← members_in b words floats
  Ok (x.0, rotations_of x.1)

-- These are the outputs of a search: the matrices, row by row, the rows and the marks. In each, a member comes after the one before.
pub record SearchOut : Type 0 where
  pub matrices : List Float
  pub rows : List ℕ
  pub marks : List ℕ

unfoldable pub room_of : SearchOut → Room
room_of o = record { floats = length o.matrices; entries = length o.rows; marks = length o.marks }

-- These are the outputs after a search, in which "Cells past the answer never change".
unfoldable pub search_written : Outcome → SearchOut → Answer × SearchOut
search_written f old = (
  f.answer,
  record {
    matrices = written (join (map (λ x. join x.matrix) f.members)) old.matrices;
    rows = written (join (map (λ x. x.row) f.members)) old.rows;
    marks = written (map (λ x. x.mark) f.members) old.marks;
  },
)

-- These are the search call, and after it the rotations call, which counts rotations where the search counts members: "members (rotations in their
-- call)".
unfoldable pub search_call : List ℕ → ℕ → ℕ → SearchOut → Answer × SearchOut
search_call b words floats old = search_written (outcome (members_in b words floats) (room_of old)) old

unfoldable pub rotations_call : List ℕ → ℕ → ℕ → SearchOut → Answer × SearchOut
rotations_call b words floats old = search_written (outcome (rotations_in b words floats) (room_of old)) old
