-- The marks of the rows that a search wrote are written one after another.
-- Assumes nothing.
use Rattle.std.specs.Prelude.{None, Option, Some}
use mathlib.Core.Path.{◌≡◌, refl, sym, ap, ap₂, ◌∙◌, subst}
use mathlib.Core.Logic.{inl, inr}
use Prim.Native.Nat.{ℕ, suc, ◌+◌, ◌≤◌}
use mathlib.Core.Bool.{Bool, true, false, ◌&&◌}
use Rattle.laws.proofs.Options.{none-ne-some, some-injective}
use mathlib.Core.List.{List, [], ◌∷◌, ◌++◌, map, append_assoc}
use native.Mathlib.Omega.{arith}
use lib.ListN.{length, take, drop, length-map}
use lib.Seq.{take_at, drop_at, length-take-le}
use lib.Dec.{ltb}
use Rattle.spec.specs.Lists.{In, join, every, parts, written}
use Rattle.spec.specs.Matrix.{Matrix}
use Rattle.spec.specs.Solid.{Concrete}
use Rattle.spec.specs.Classes.{by_table}
use Rattle.spec.specs.Flags.{Flag}
use Rattle.spec.specs.Points.{row_of}
use Rattle.spec.specs.Search.{Member, Setting, candidate, same_types, examples_go, mark_of, tested, members_of}
use Rattle.spec.specs.Calls.{Room, have_room, fitting}
use Rattle.laws.proofs.Lists.{map-map, map_same, in_map}
use Rattle.laws.proofs.Listed.{Marked, member-mark, rotation_in, fitting_in}
use Rattle.laws.proofs.Shapes.{RoomHolds, none_held, fits-holds}
use Rattle.points.proofs.Parts.{length-parts}
use Rattle.symmetry.specs.Tails.{wanted_of}
use Rattle.symmetry.specs.Listing.{members_given, row_cells, kept_in}
use Rattle.marks.specs.Marking.{marks_in}

-- Rows of v cells each, one after another, are cut where they were joined.
parts_join : {A : Type 0} (d : ℕ) (ls : List (List A)) (rest : List A) → ((x : List A) → In x ls → length x ≡ d) → parts (length ls) d (join ls ++ rest) ≡ ls
unfolding parts join
parts_join d [] rest h = refl
parts_join {A} d (x ∷ ls) rest h =
    rw (append_assoc x (join ls) rest)
    (ap₂ (λ (y : List A) (z : List (List A)). y ∷ z) (take_at x (join ls ++ rest) d (h x (inl refl)))
    (ap (parts (length ls) d) (drop_at x (join ls ++ rest) d (h x (inl refl))) ∙ parts_join d ls rest (λ y i. h y (inr i))))

-- The marks of the rows of some members are the members' marks.
marks_are : (w : Setting) (v : ℕ) (ms : List Member) (old : List ℕ) → ((x : Member) → In x ms → (length x.row ≡ v) × Marked w x)
    → map (mark_of w.read.abs (by_table w.classes)) (parts (length ms) v (written (row_cells ms) old)) ≡ map (λ x. x.mark) ms
unfolding written row_cells
marks_are w v ms old h =
    let mark = mark_of w.read.abs (by_table w.classes) in
    let row : Member → List ℕ = λ x. x.row in
    let cut : parts (length ms) v (written (row_cells ms) old) ≡ map row ms =
    ap (λ (k : ℕ). parts k v (written (row_cells ms) old)) (sym (length-map ms row))
    ∙ parts_join v (map row ms) _ (λ y i. let r = in_map row y ms i in ap length r.2 ∙ (h r.0 r.1).0) in
    ap (map mark) cut ∙ map-map row mark ms ∙ map_same (λ x. mark x.row) (λ x. x.mark) ms (λ x i. sym (h x i).1)

-- The marks of the first n rows stand before what is behind the first n marks, which is as it was.
pub marks_before : (c d : Concrete) (n v : ℕ) (rows ks old : List ℕ) → d ≡ c → n ≤ length old → ks ≡ marks_in d (parts (length (take n old)) v rows)
    → ks ++ drop n old ≡ written (marks_in c (parts n v rows)) old
unfolding written
marks_before c d n v rows ks old e h k =
    let many : length (marks_in c (parts n v rows)) ≡ n = length-map (parts n v rows) _ ∙ length-parts n v rows in
    rw (k, e, length-take-le n old h, many)

-- A member is what some flag's candidate gives.
member-from : (w : Setting) (l : List Flag) (x : Member) → In x (members_of w l) → (F : Flag) × (tested w (candidate w F) ≡ Some x)
unfolding members_of
member-from w [] x h = elim h [ ]
member-from w (F ∷ l) x h = go (same_types w F) (tested w (candidate w F)) refl h (λ k. member-from w l x k)
  where
    go : (b : Bool) (o : Option Member) → tested w (candidate w F) ≡ o
        → In x (elim b as (λ z. List Member) [ true ↦ elim o as (λ z. List Member) [ Some m ↦ m ∷ members_of w l | None ↦ members_of w l ] | false ↦ members_of w l ])
        → (In x (members_of w l) → (F : Flag) × (tested w (candidate w F) ≡ Some x)) → (F : Flag) × (tested w (candidate w F) ≡ Some x)
    go false o e k f = f k
    go true None e k f = f k
    go true (Some m) e (inl q) f = (F, rw q e)
    go true (Some m) e (inr k) f = f k

-- Those that fit have room.
fitting-room : (m : Room) (d v n : ℕ) (l : List Member) → RoomHolds m d v n → RoomHolds m d v (length (fitting m d v n l) + n)
unfolding fitting
fitting-room m d v n [] h = let q : 0 + n ≡ n = omega arith in rw q h
fitting-room m d v n (x ∷ l) h = go (have_room m d v (suc n)) refl (λ k. fitting-room m d v (suc n) l k)
  where
    go : (b : Bool) → have_room m d v (suc n) ≡ b → (RoomHolds m d v (suc n) → RoomHolds m d v (length (fitting m d v (suc n) l) + suc n))
        → RoomHolds m d v (length {A = Member} (elim b as (λ z. List Member) [ true ↦ x ∷ fitting m d v (suc n) l | false ↦ [] ]) + n)
    go true e f =
        let q : suc (length (fitting m d v (suc n) l)) + n ≡ length (fitting m d v (suc n) l) + suc n = omega arith in
        rw q (f (fits-holds m d v (suc n) e))
    go false e f = let q : 0 + n ≡ n = omega arith in rw q h

-- Its row has an entry for each vertex.
tested-row : (w : Setting) (m : Matrix) (x : Member) → tested w m ≡ Some x → length x.row ≡ length w.searched.points
unfolding tested row_of
tested-row w m x = go (every (λ v. ltb v (length w.searched.points)) (row_of w.searched.points m) && examples_go w.searched.abs w.types (row_of w.searched.points m))
  where
    go : (b : Bool) → elim b as (λ z. Option Member) [ true ↦ Some (record { matrix = m; row = row_of w.searched.points m; mark = mark_of w.read.abs (by_table w.classes) (row_of w.searched.points m) }) | false ↦ None ] ≡ Some x
        → length x.row ≡ length w.searched.points
    go true e = subst (λ (y : Member). length y.row ≡ length w.searched.points) (some-injective _ x e) (length-map w.searched.points _)
    go false e = absurd (none-ne-some x e)

module _ (w : Setting) (rot : Bool) (m : Room) (Fs : List Flag) where
  abbrev d : ℕ
  d = w.searched.dimension

  abbrev v : ℕ
  v = length w.searched.points

  abbrev kept : List Member
  kept = kept_in w rot m Fs

  wanted_in : (b : Bool) (ms : List Member) (x : Member) → In x (wanted_of b ms) → In x ms
  unfolding wanted_of
  wanted_in false ms x i = i
  wanted_in true ms x i = rotation_in ms x i

  kept_in_lem : (x : Member) → In x kept → In x (members_of w Fs)
  unfolding kept_in members_given
  kept_in_lem x i = wanted_in rot (members_of w Fs) x (fitting_in m d v 0 (members_given w rot Fs) x i)

  pub kept-room : RoomHolds m d v (length kept)
  unfolding kept_in
  kept-room =
      let l = members_given w rot Fs in
      let q : length (fitting m d v 0 l) + 0 ≡ length (fitting m d v 0 l) = omega arith in
      rw q at (fitting-room m d v 0 l (none_held m d v))

  -- Their marks are those of the rows that are written.
  pub kept_marks : (old : List ℕ) → map (mark_of w.read.abs (by_table w.classes)) (parts (length kept) v (written (row_cells kept) old)) ≡ map (λ x. x.mark) kept
  kept_marks old = marks_are w v kept old (λ x i.
      let k = kept_in_lem x i in
      let f = member-from w Fs x k in
      (tested-row w (candidate w f.0) x f.1, member-mark w Fs x k))
