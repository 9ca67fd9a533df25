-- What the calls wrote is what is printed: by these laws, the lines from cells and numbers are those of document 01's results.
-- Assumes nothing.
use mathlib.Core.Path.{◌≡◌, refl, sym, ap, ap₂, ◌∙◌}
use mathlib.Core.Logic.{inl, inr}
use mathlib.Core.List.{List, [], ◌∷◌, ◌++◌, map, append_assoc, append-nil}
use Prim.Native.Nat.{ℕ, ◌*◌}
use lib.ListN.{length, take, length-map}
use lib.Seq.{take_at, drop_at}
use lib.Ieee.{Float}
use Rattle.spec.specs.Lists.{In, sum, join, parts, written}
use Rattle.spec.specs.Types.{ElementType}
use Rattle.spec.specs.Matrix.{Matrix}
use Rattle.spec.specs.Search.{Member, rotations_of}
use Rattle.spec.specs.Calls.{type_cells}
use Rattle.spec.specs.KitText.{members_line}
use Rattle.laws.proofs.Lists.{map-map, map_same, in_map}
use Rattle.laws.proofs.Shapes.{Square, square_long, type_cells_lem}
use Rattle.text.specs.Cells.{types_from}
use Rattle.text.specs.Members.{members_text, rotation_count}
use Rattle.text.proofs.Tables.{types_back}
use Rattle.text.proofs.Counted.{count-rotations, members_line_lem}

-- Where l was written, l stands.
take-written : {A : Type 0} (l old : List A) (n : ℕ) → length l ≡ n → take n (written l old) ≡ l
unfolding written
take-written l old n h = take_at l _ n h

-- The types of a types call are read back from its cells.
pub types-out : (ks : List ElementType) (old : List ℕ) → types_from (take (4 * length ks) (written (join (map type_cells ks)) old)) ≡ ks
types-out ks old = ap types_from (take-written (join (map type_cells ks)) old (4 * length ks) (type_cells_lem ks)) ∙ types_back ks

-- The marks of a search add up as the members' marks do.
pub marks_out : (ms : List Member) (old : List ℕ) → sum (take (length ms) (written (map (λ x. x.mark) ms) old)) ≡ sum (map (λ x. x.mark) ms)
marks_out ms old = ap sum (take-written (map (λ x. x.mark) ms) old (length ms) (length-map ms (λ x. x.mark)))

-- Lists of d cells each, one after another, are cut where they were joined.
parts_join : {A : Type 0} (d : ℕ) (ls : List (List A)) (rest : List A) → ((x : List A) → In x ls → length x ≡ d) → parts (length ls) d (join ls ++ rest) ≡ ls
unfolding parts join
parts_join d [] rest h = refl
parts_join {A} d (x ∷ ls) rest h =
    rw (append_assoc x (join ls) rest)
    (ap₂ (λ (y : List A) (z : List (List A)). y ∷ z) (take_at x (join ls ++ rest) d (h x (inl refl)))
    (ap (parts (length ls) d) (drop_at x (join ls ++ rest) d (h x (inl refl))) ∙ parts_join d ls rest (λ y i. h y (inr i))))

-- The rows of a square matrix are cut where they were joined.
square_back : (d : ℕ) (m : Matrix) → Square d m → parts d d (join m) ≡ m
square_back d m s =
    ap₂ (λ (k : ℕ) (l : List Float). parts k d l) (sym s.0) (sym (append-nil (join m))) ∙ parts_join d m [] s.1

-- The matrices of a search are counted as its members are.
pub rotations-out : (d : ℕ) (ms : List Member) (old : List Float) → ((x : Member) → In x ms → Square d x.matrix)
    → rotation_count (map (parts d d) (parts (length ms) (d * d) (written (join (map (λ x. join x.matrix) ms)) old))) ≡ length (rotations_of ms)
unfolding written
rotations-out d ms old s =
    let f : Member → List Float = λ x. join x.matrix in
    let cut : parts (length ms) (d * d) (written (join (map f ms)) old) ≡ map f ms =
    ap (λ (k : ℕ). parts k (d * d) (written (join (map f ms)) old)) (sym (length-map ms f))
    ∙ parts_join (d * d) (map f ms) _ (λ y i. let r = in_map f y ms i in ap length r.2 ∙ square_long d r.0.matrix (s r.0 r.1)) in
    ap (λ (l : List (List Float)). rotation_count (map (parts d d) l)) cut
    ∙ ap rotation_count (map-map f (parts d d) ms ∙ map_same (λ x. parts d d (f x)) (λ x. x.matrix) ms (λ x i. square_back d x.matrix (s x i)))
    ∙ count-rotations ms

-- The line from what a search wrote is so the line of its members.
pub members-out : (d : ℕ) (ms : List Member) (marks : List ℕ) (matrices : List Float) → ((x : Member) → In x ms → Square d x.matrix)
    → members_text (length ms) (sum (take (length ms) (written (map (λ x. x.mark) ms) marks)))
    (rotation_count (map (parts d d) (parts (length ms) (d * d) (written (join (map (λ x. join x.matrix) ms)) matrices))))
    ≡ members_line ms
members-out d ms marks matrices s = rw (marks_out ms marks, rotations-out d ms matrices s) (sym (members_line_lem ms))
