-- A search works out D by D matrices, and rows of one entry a vertex. So what a call writes fits the outputs.
-- Assumes nothing.
use Rattle.std.specs.Prelude.{Err, None, Ok, Option, Some}
use mathlib.Core.Path.{◌≡◌, refl, sym, ◌∙◌, ap, subst}
use mathlib.Core.Logic.{inl, inr}
use Prim.Native.Nat.{ℕ, zero, suc, ◌+◌, ◌-◌, ◌*◌, ◌≤◌}
use mathlib.Core.Bool.{Bool, true, false, ◌&&◌}
use Rattle.laws.proofs.Options.{some-injective, none-ne-some}
use mathlib.Core.List.{List, [], ◌∷◌, ◌++◌, map}
use native.Mathlib.Omega.{arith}
use native.Mathlib.Nat.{suc-mul, zero-mul}
use lib.ListN.{length, set, drop, length-append, length-map, length-set}
use lib.Dec.{leb, ltb}
use lib.Ieee.{eq}
use Rattle.spec.specs.declared.Refusal.{Refusal}
use Rattle.spec.specs.declared.Refusal.TheVariants.{NotFull, DoubleCorner, Centred, Flat, ShortSheet, Unsettled}
use Rattle.spec.specs.Refusal.{refused_with}
use Rattle.spec.specs.Lists.{In, range, join, every, no_repeats}
use Rattle.spec.specs.Types.{ElementType, top, size}
use Rattle.spec.specs.Float.{zero_f, zip, dot}
use Rattle.spec.specs.Matrix.{Matrix, Vector, row, entry, columns, mul_mat, identity, Work, pivot_row, swap_rows, clear, column, eliminate, gauss_jordan, inverse}
use Rattle.spec.specs.Points.{near, row_of}
use Rattle.spec.specs.Judged as Judging
use Rattle.spec.specs.Judged.{Judged}
use Rattle.spec.specs.Solid.{Concrete, preflight}
use Rattle.spec.specs.Flags.{Flag, first_flag, flags}
use Rattle.spec.specs.Classes.{point_of, by_table, types_of}
use Rattle.spec.specs.Search.{Setting, Member, first_far, exchanged, walk, flag_columns, candidate, same_types, examples_go, mark_of, tested, members_of, full, all_finite, setting, search}
use Rattle.spec.specs.Calls.{type_cells, Room, Outcome, have_room, fitting, kept_of, outcome, members_in, rotations_in}
use Rattle.laws.proofs.Lists.{length-range, in_map}
use Rattle.laws.proofs.Listed.{rotation_in, fitting_in}
use Rattle.laws.proofs.Marked.{both}
use Rattle.laws.proofs.Accepted.{never, same, bound_to, then_to, le_test}

-- ---- matrices

zip_length : {A B C : Type 0} (f : A → B → C) (xs : List A) (ys : List B) → length xs ≡ length ys → length (zip f xs ys) ≡ length ys
unfolding zip
zip_length f [] [] e = refl
zip_length f [] (y ∷ ys) e = e
zip_length f (x ∷ xs) [] e = refl
zip_length f (x ∷ xs) (y ∷ ys) e = ap suc (zip_length f xs ys (omega arith))

columns-length : (a : Matrix) → length (columns a) ≡ length a
unfolding columns
columns-length a = length-map (range 0 (length a)) _ ∙ length-range 0 (length a)

-- Every row of a product has as many entries as the second factor has rows.
product-rows : (a b : Matrix) (r : Vector) → In r (mul_mat a b) → length r ≡ length b
unfolding mul_mat
product-rows (x ∷ a) b r (inl q) = rw q (length-map (columns b) (dot x) ∙ columns-length b)
product-rows (x ∷ a) b r (inr m) = product-rows a b r m
product-rows [] b r x' = elim x' [ ]

product-length : (a b : Matrix) → length (mul_mat a b) ≡ length a
unfolding mul_mat
product-length a b = length-map a _

-- Rows of n entries each, one after another, have n times as many entries as there are rows.
join-length : {A : Type 0} (n : ℕ) (ls : List (List A)) → ((l : List A) → In l ls → length l ≡ n) → length (join ls) ≡ length ls * n
unfolding join
join-length n [] f = sym (zero-mul n)
join-length n (l ∷ ls) f =
    length-append l (join ls) ∙ ap (λ (k : ℕ). k + length (join ls)) (f l (inl refl)) ∙ ap (λ (k : ℕ). n + k) (join-length n ls (λ k m. f k (inr m))) ∙ regroup
  where
    regroup : n + length ls * n ≡ suc (length ls) * n
    regroup = omega (arith, suc-mul (length ls) n)

-- A square matrix has d rows of d.
abbrev pub Square : ℕ → Matrix → Type 0
Square d m = (length m ≡ d) × ((r : Vector) → In r m → length r ≡ d)

pub square_long : (d : ℕ) (m : Matrix) → Square d m → length (join m) ≡ d * d
square_long d m s = join-length d m s.1 ∙ ap (λ (k : ℕ). k * d) s.0

-- ---- the inverse has as many rows

clear-length : (c : ℕ) (p : Vector) (a : Matrix) → length (clear c p a) ≡ length a
unfolding clear
clear-length c p a = zip_length _ (range 0 (length a)) a (length-range 0 (length a))

swap-length : (a : Matrix) (p c : ℕ) → length (swap_rows a p c) ≡ length a
unfolding swap_rows
swap-length a p c = length-set (set a p (row a c)) c (row a p) ∙ length-set a p (row a c)

column-length : (c : ℕ) (w v : Work) → column c w ≡ Some v → length v.rows ≡ length w.rows
unfolding column
column-length c w v = go (eq (entry w.rows (pivot_row w.rows c) c) zero_f) _ (clear-length c _ (swap_rows w.rows (pivot_row w.rows c) c) ∙ swap-length w.rows (pivot_row w.rows c) c)
  where
    go : (b : Bool) (u : Work) → length u.rows ≡ length w.rows → elim b as (λ z. Option Work) [ true ↦ None | false ↦ Some u ] ≡ Some v → length v.rows ≡ length w.rows
    go true u h e = absurd (none-ne-some v e)
    go false u h e = subst (λ (x : Work). length x.rows ≡ length w.rows) (some-injective u v e) h

eliminate-length : (cs : List ℕ) (w v : Work) → eliminate cs w ≡ Some v → length v.rows ≡ length w.rows
unfolding eliminate
eliminate-length [] w v e = ap (λ (x : Work). length x.rows) (sym (some-injective w v e))
eliminate-length (c ∷ cs) w v e = go (column c w) refl e (λ u h. eliminate-length cs u v h)
  where
    go : (o : Option Work) → column c w ≡ o → elim o as (λ z. Option Work) [ None ↦ None | Some u ↦ eliminate cs u ] ≡ Some v
        → ((u : Work) → eliminate cs u ≡ Some v → length v.rows ≡ length u.rows) → length v.rows ≡ length w.rows
    go None q e f = absurd (none-ne-some v e)
    go (Some u) q e f = f u e ∙ column-length c w u q

pub inverse-length : (a b : Matrix) → inverse a ≡ Some b → length b ≡ length a
unfolding inverse gauss_jordan identity
inverse-length a b = go (gauss_jordan a) refl
  where
    begun : length (zip (λ r e. r ++ e) a (identity (length a))) ≡ length a
    begun =
        let k : length (identity (length a)) ≡ length a = length-map (range 0 (length a)) _ ∙ length-range 0 (length a) in
        zip_length (λ r e. r ++ e) a (identity (length a)) (sym k) ∙ k

    go : (o : Option Work) → gauss_jordan a ≡ o → elim o as (λ z. Option Matrix) [ None ↦ None | Some w ↦ Some (map (drop (length a)) w.rows) ] ≡ Some b → length b ≡ length a
    go None q e = absurd (none-ne-some b e)
    go (Some w) q e = ap (λ (m : Matrix). length m) (sym (some-injective _ b e)) ∙ length-map w.rows (drop (length a)) ∙ eliminate-length (range 0 (length a)) _ w q ∙ begun

-- ---- a member's matrix and row

walk-length : (c : Concrete) (n : ℕ) (F : Flag) → length (walk c.abs n F) ≡ n
unfolding walk
walk-length c zero F = refl
walk-length c (suc n) F = ap suc (walk-length c n _)

pub flag_columns_lem : (c : Concrete) (F : Flag) → length (flag_columns c F) ≡ c.dimension
unfolding flag_columns
flag_columns_lem c F = columns-length _ ∙ length-map (walk c.abs c.dimension F) (point_of c) ∙ walk-length c c.dimension F

-- The setting is for D dimensions and V vertices.
pub record SettingFit (d v : ℕ) (w : Setting) : Type 0 where
  pub wide : w.searched.dimension ≡ d
  pub many : length w.searched.points ≡ v
  pub inverse : length w.inv ≡ d

pub record MemberShape (d v : ℕ) (x : Member) : Type 0 where
  pub matrix : Square d x.matrix
  pub row : length x.row ≡ v

pub candidate_shape : (d v : ℕ) (w : Setting) → SettingFit d v w → (F : Flag) → Square d (candidate w F)
unfolding candidate
candidate_shape d v w h F =
    let a = flag_columns w.searched F in
    (product-length a w.inv ∙ flag_columns_lem w.searched F ∙ h.wide, λ r m. product-rows a w.inv r m ∙ h.inverse)

pub tested_shape : (d v : ℕ) (w : Setting) → SettingFit d v w → (m : Matrix) → Square d m → (x : Member) → tested w m ≡ Some x → MemberShape d v x
unfolding tested row_of
tested_shape d v w h m k x = go (every (λ u. ltb u (length w.searched.points)) (row_of w.searched.points m) && examples_go w.searched.abs w.types (row_of w.searched.points m))
    (record { matrix = k; row = length-map w.searched.points _ ∙ h.many })
  where
    go : (b : Bool) → MemberShape d v (record { matrix = m; row = row_of w.searched.points m; mark = mark_of w.read.abs (by_table w.classes) (row_of w.searched.points m) })
        → elim b as (λ z. Option Member) [ true ↦ Some (record { matrix = m; row = row_of w.searched.points m; mark = mark_of w.read.abs (by_table w.classes) (row_of w.searched.points m) }) | false ↦ None ] ≡ Some x → MemberShape d v x
    go true s e = subst (λ (y : Member). MemberShape d v y) (some-injective _ x e) s
    go false s e = absurd (none-ne-some x e)

member_shape : (d v : ℕ) (w : Setting) → SettingFit d v w → (l : List Flag) (x : Member) → In x (members_of w l) → MemberShape d v x
unfolding members_of
member_shape d v w s (F ∷ l) x h = go (same_types w F) (tested w (candidate w F)) refl h (λ k. member_shape d v w s l x k)
  where
    go : (b : Bool) (o : Option Member) → tested w (candidate w F) ≡ o
        → In x (elim b as (λ z. List Member) [ true ↦ elim o as (λ z. List Member) [ Some m ↦ m ∷ members_of w l | None ↦ members_of w l ] | false ↦ members_of w l ])
        → (In x (members_of w l) → MemberShape d v x) → MemberShape d v x
    go false o e k f = f k
    go true None e k f = f k
    go true (Some m) e (inl q) f = rw q (tested_shape d v w s (candidate w F) (candidate_shape d v w s F) m e)
    go true (Some m) e (inr k) f = f k
member_shape d v w s [] x h = elim h [ ]

pub wanted_some : {A : Type 0} (why : Refusal) (o : Option A) (x : A) → Judging.wanted why o ≡ Ok x → o ≡ Some x
unfolding Judging.wanted
wanted_some why None x e = absurd (never why x e)
wanted_some why (Some y) x e = ap Some (same y x e)

set_shape : (c : Concrete) (w : Setting) → setting c ≡ Ok w → SettingFit c.dimension (length c.points) w
unfolding setting exchanged
set_shape c w e =
    let h₁ = then_to (Judging.judge NotFull (full c)) _ w e in
    let h₂ = then_to (Judging.judge DoubleCorner (no_repeats near c.points)) _ w h₁.2 in
    let h₃ = bound_to (Judging.wanted Centred (first_far c (range 0 (size c.abs (top c.abs - 1))))) _ w h₂.2 in
    let h₄ = bound_to (Ok (exchanged c h₃.0)) _ w h₃.2 in
    let h₅ = bound_to (Judging.wanted Unsettled (types_of h₄.0)) _ w h₄.2 in
    let h₆ = bound_to (Judging.wanted Flat (inverse (flag_columns h₄.0 (first_flag h₄.0.abs)))) _ w h₅.2 in
    let h₇ = then_to (Judging.judge Flat (all_finite h₆.0)) _ w h₆.2 in
    let q : exchanged c h₃.0 ≡ h₄.0 = same _ h₄.0 h₄.1 in
    let i : length h₆.0 ≡ h₄.0.dimension =
    inverse-length (flag_columns h₄.0 (first_flag h₄.0.abs)) h₆.0 (wanted_some Flat (inverse (flag_columns h₄.0 (first_flag h₄.0.abs))) h₆.0 h₆.1) ∙ flag_columns_lem h₄.0 (first_flag h₄.0.abs) in
    subst (λ (u : Setting). SettingFit c.dimension (length c.points) u) (same _ w h₇.2) (record {
      wide = ap (λ (d : Concrete). d.dimension) (sym q);
      many = ap (λ (d : Concrete). length d.points) (sym q);
      inverse = i ∙ ap (λ (d : Concrete). d.dimension) (sym q);
    })

-- ---- the members of a call

unfoldable pub MembersShaped : Judged (Concrete × List Member) → Type 0
MembersShaped o = (y : Concrete × List Member) → o ≡ Ok y → (x : Member) → In x y.1 → MemberShape y.0.dimension (length y.0.points) x

search_shape : (c : Concrete) (ms : List Member) → search c ≡ Ok ms → (x : Member) → In x ms → MemberShape c.dimension (length c.points) x
unfolding search
search_shape c ms e x h =
    let s = bound_to (setting c) _ ms e in
    member_shape c.dimension (length c.points) s.0 (set_shape c s.0 s.1) (flags s.0.searched.abs) x (rw (← same _ ms s.2) at h)

pub members-shaped : (b : List ℕ) (words floats : ℕ) → MembersShaped (members_in b words floats)
unfolding members_in MembersShaped
members-shaped b words floats y e x m =
    let h₁ = bound_to (preflight b words floats) _ y e in
    let h₂ = bound_to (search h₁.0) _ y h₁.2 in
    let p = same _ y h₂.2 in
    subst (λ (z : Concrete × List Member). In x z.1 → MemberShape z.0.dimension (length z.0.points) x) p (λ k. search_shape h₁.0 h₂.0 h₂.1 x k) m

pub rotations-shaped : (b : List ℕ) (words floats : ℕ) → MembersShaped (rotations_in b words floats)
unfolding rotations_in MembersShaped
rotations-shaped b words floats y e x m =
    let s = bound_to (members_in b words floats) _ y e in
    let p = same _ y s.2 in
    subst (λ (z : Concrete × List Member). In x z.1 → MemberShape z.0.dimension (length z.0.points) x) p
    (λ k. members-shaped b words floats s.0 s.1 x (rotation_in s.0.1 x k)) m

-- ---- what fits

pub record RoomHolds (m : Room) (d v n : ℕ) : Type 0 where
  pub matrices : n * (d * d) ≤ m.floats
  pub rows : n * v ≤ m.entries
  pub marks : n ≤ m.marks

pub none_held : (m : Room) (d v : ℕ) → RoomHolds m d v 0
none_held m d v = record { matrices = omega (arith, zero-mul (d * d)); rows = omega (arith, zero-mul v); marks = omega arith }

pub fits-holds : (m : Room) (d v n : ℕ) → have_room m d v n ≡ true → RoomHolds m d v n
unfolding have_room
fits-holds m d v n e =
    let a = leb (n * (d * d)) m.floats in
    let b = leb (n * v) m.entries in
    let h = both (a && b) (leb n m.marks) e in
    let k = both a b h.0 in
    record { matrices = le_test _ _ k.0; rows = le_test _ _ k.1; marks = le_test _ _ h.1 }

fitting-holds : (m : Room) (d v n : ℕ) (l : List Member) → RoomHolds m d v n → RoomHolds m d v (n + length (fitting m d v n l))
unfolding fitting
fitting-holds m d v n [] h = let q : n + 0 ≡ n = omega arith in rw q h
fitting-holds m d v n (x ∷ l) h = go (have_room m d v (suc n)) refl (λ k. fitting-holds m d v (suc n) l k)
  where
    go : (b : Bool) → have_room m d v (suc n) ≡ b → (RoomHolds m d v (suc n) → RoomHolds m d v (suc n + length (fitting m d v (suc n) l)))
        → RoomHolds m d v (n + length {A = Member} (elim b as (λ z. List Member) [ true ↦ x ∷ fitting m d v (suc n) l | false ↦ [] ]))
    go true e f =
        let q : n + suc (length (fitting m d v (suc n) l)) ≡ suc n + length (fitting m d v (suc n) l) = omega arith in
        rw q (f (fits-holds m d v (suc n) e))
    go false e f = let q : n + 0 ≡ n = omega arith in rw q h

-- The cells of some members fit the room.
pub record Cells (m : Room) (l : List Member) : Type 0 where
  pub matrices : length (join (map (λ x. join x.matrix) l)) ≤ m.floats
  pub rows : length (join (map (λ x. x.row) l)) ≤ m.entries
  pub marks : length (map (λ x. x.mark) l) ≤ m.marks

cells_of_lem : (m : Room) (d v : ℕ) (l : List Member) → RoomHolds m d v (length l) → ((x : Member) → In x l → MemberShape d v x) → Cells m l
cells_of_lem m d v l h f = record {
  matrices =
      let e = join-length (d * d) (map (λ x. join x.matrix) l) (λ k i. let r = in_map (λ (x : Member). join x.matrix) k l i in ap length r.2 ∙ square_long d r.0.matrix (f r.0 r.1).matrix) in
      let q : length (map (λ (x : Member). join x.matrix) l) ≡ length l = length-map l _ in
      rw (e, q) h.matrices;
  rows =
      let e = join-length v (map (λ x. x.row) l) (λ k i. let r = in_map (λ (x : Member). x.row) k l i in ap length r.2 ∙ (f r.0 r.1).row) in
      let q : length (map (λ (x : Member). x.row) l) ≡ length l = length-map l _ in
      rw (e, q) h.rows;
  marks = let q : length (map (λ (x : Member). x.mark) l) ≡ length l = length-map l _ in rw q h.marks;
}

no_cells : (m : Room) → Cells m []
unfolding join
no_cells m = record { matrices = omega arith; rows = omega arith; marks = omega arith }

kept-cells : (m : Room) (l kept : List Member) → Cells m kept → Cells m (kept_of l kept).members
unfolding kept_of
kept-cells m [] kept h = no_cells m
kept-cells m (x ∷ l) kept h = go (ltb (length kept) (length (x ∷ l)))
  where
    go : (b : Bool) → Cells m (elim b as (λ z. Outcome) [ true ↦ record { answer = refused_with ShortSheet (length kept); members = kept } | false ↦ record { answer = Ok (length kept); members = kept } ]).members
    go true = h
    go false = h

pub found-cells : (o : Judged (Concrete × List Member)) → MembersShaped o → (m : Room) → Cells m (outcome o m).members
unfolding outcome MembersShaped
found-cells (Err why) s m = no_cells m
found-cells (Ok y) s m =
    let d = y.0.dimension in
    let v = length y.0.points in
    let l = fitting m d v 0 y.1 in
    let q : 0 + length l ≡ length l = omega arith in
    kept-cells m y.1 l (cells_of_lem m d v l (rw q at (fitting-holds m d v 0 y.1 (none_held m d v))) (λ x i. s y refl x (fitting_in m d v 0 y.1 x i)))

pub type_cells_lem : (ks : List ElementType) → length (join (map type_cells ks)) ≡ 4 * length ks
unfolding join type_cells
type_cells_lem [] = refl
type_cells_lem (k ∷ ks) = let h = type_cells_lem ks in omega arith
