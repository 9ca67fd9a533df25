-- The members that a search finds with mark 1 are confirmed by the mark's rule, and those that it writes out are among them.
-- Assumes nothing.
use Rattle.std.specs.Prelude.{Err, None, Ok, Option, Some}
use mathlib.Core.Path.{◌≡◌, refl, sym, ◌∙◌, ap, subst}
use mathlib.Core.Logic.{inl, inr}
use Prim.Native.Nat.{ℕ, suc, ◌-◌}
use mathlib.Core.Bool.{Bool, true, false, ◌&&◌}
use Rattle.laws.proofs.Options.{some-injective, none-ne-some}
use mathlib.Core.List.{List, [], ◌∷◌}
use native.Mathlib.Omega.{arith}
use lib.ListN.{length}
use lib.Dec.{ltb}
use Rattle.spec.specs.declared.Refusal.TheVariants.{NotFull, DoubleCorner, Centred, Flat, ShortSheet, Unsettled}
use Rattle.spec.specs.Refusal.{refused_with}
use Rattle.spec.specs.Lists.{In, range, every, no_repeats}
use Rattle.spec.specs.Types.{Solid, top, size, Classes}
use Rattle.spec.specs.Mark.{marked}
use Rattle.spec.specs.Matrix.{Matrix, inverse}
use Rattle.spec.specs.Points.{near, row_of}
use Rattle.spec.specs.Judged as Judging
use Rattle.spec.specs.Judged.{Judged}
use Rattle.spec.specs.Solid.{Concrete, preflight}
use Rattle.spec.specs.Flags.{Flag, first_flag, flags}
use Rattle.spec.specs.Classes.{class_table, by_table, types_of}
use Rattle.spec.specs.Search.{Setting, Member, first_far, exchanged, flag_columns, candidate, same_types, examples_go, mark_of, tested, members_of, is_rotation, rotations_of, full, all_finite, setting, search}
use Rattle.spec.specs.Calls.{Room, Outcome, have_room, fitting, kept_of, outcome, members_in, rotations_in}
use Rattle.laws.proofs.Accepted.{same, bound_to, then_to}

-- ---- what a call writes out is among the members

pub fitting_in : (m : Room) (d v n : ℕ) (l : List Member) (x : Member) → In x (fitting m d v n l) → In x l
unfolding fitting
fitting_in m d v n (y ∷ l) x h = go (have_room m d v (suc n)) h (λ k. fitting_in m d v (suc n) l x k)
  where
    go : (b : Bool) → In x (elim b as (λ z. List Member) [ true ↦ y ∷ fitting m d v (suc n) l | false ↦ [] ]) → (In x (fitting m d v (suc n) l) → In x l) → In x (y ∷ l)
    go true (inl q) f = inl q
    go true (inr k) f = inr (f k)
    go false k f = absurd k
fitting_in m d v n [] x h = elim h [ ]

kept_in_lem : (l kept : List Member) (x : Member) → In x (kept_of l kept).members → In x kept
unfolding kept_of
kept_in_lem [] kept x h = absurd h
kept_in_lem (y ∷ l) kept x h = go (ltb (length kept) (length (y ∷ l))) h
  where
    go : (b : Bool) → In x (elim b as (λ z. Outcome) [ true ↦ record { answer = refused_with ShortSheet (length kept); members = kept } | false ↦ record { answer = Ok (length kept); members = kept } ]).members → In x kept
    go true k = k
    go false k = k

pub found_in : (o : Judged (Concrete × List Member)) (m : Room) (x : Member) → In x (outcome o m).members → (y : Concrete × List Member) × (o ≡ Ok y) × In x y.1
unfolding outcome
found_in (Err why) m x h = absurd h
found_in (Ok y) m x h = (y, refl, fitting_in m y.0.dimension (length y.0.points) 0 y.1 x (kept_in_lem y.1 _ x h))

pub rotation_in : (l : List Member) (x : Member) → In x (rotations_of l) → In x l
unfolding rotations_of
rotation_in (y ∷ l) x h = go (is_rotation y) h (λ k. rotation_in l x k)
  where
    go : (b : Bool) → In x (elim b as (λ z. List Member) [ true ↦ y ∷ rotations_of l | false ↦ rotations_of l ]) → (In x (rotations_of l) → In x l) → In x (y ∷ l)
    go true (inl q) f = inl q
    go true (inr k) f = inr (f k)
    go false k f = inr (f k)
rotation_in [] x h = elim h [ ]

-- ---- a member's mark is that of its row

abbrev pub Marked : Setting → Member → Type 0
Marked w x = x.mark ≡ mark_of w.read.abs (by_table w.classes) x.row

tested-mark : (w : Setting) (m : Matrix) (x : Member) → tested w m ≡ Some x → Marked w x
unfolding tested
tested-mark w m x = go (every (λ v. ltb v (length w.searched.points)) (row_of w.searched.points m) && examples_go w.searched.abs w.types (row_of w.searched.points m))
  where
    go : (b : Bool) → elim b as (λ z. Option Member) [ true ↦ Some (record { matrix = m; row = row_of w.searched.points m; mark = mark_of w.read.abs (by_table w.classes) (row_of w.searched.points m) }) | false ↦ None ] ≡ Some x → x.mark ≡ mark_of w.read.abs (by_table w.classes) x.row
    go true e = subst (λ (y : Member). y.mark ≡ mark_of w.read.abs (by_table w.classes) y.row) (some-injective _ x e) refl
    go false e = absurd (none-ne-some x e)

pub member-mark : (w : Setting) (l : List Flag) (x : Member) → In x (members_of w l) → Marked w x
unfolding members_of
member-mark w (F ∷ l) x h = go (same_types w F) (tested w (candidate w F)) refl h (λ k. member-mark w l x k)
  where
    go : (b : Bool) (o : Option Member) → tested w (candidate w F) ≡ o
        → In x (elim b as (λ z. List Member) [ true ↦ elim o as (λ z. List Member) [ Some m ↦ m ∷ members_of w l | None ↦ members_of w l ] | false ↦ members_of w l ])
        → (In x (members_of w l) → Marked w x) → Marked w x
    go false o e k f = f k
    go true None e k f = f k
    go true (Some m) e (inl q) f = rw q (tested-mark w (candidate w F) m e)
    go true (Some m) e (inr k) f = f k
member-mark w [] x h = elim h [ ]

pub one_means : (s : Solid) (cls : Classes) (row : List ℕ) → mark_of s cls row ≡ 1 → marked s cls row ≡ true
unfolding mark_of
one_means s cls row = go (marked s cls row)
  where
    go : (b : Bool) → ◌≡◌ {A = ℕ} (elim b as (λ z. ℕ) [ true ↦ 1 | false ↦ 0 ]) 1 → b ≡ true
    go true e = refl
    go false e = absurd (omega arith)

-- ---- the setting is of the solid as read

set-by : (c : Concrete) (w : Setting) → setting c ≡ Ok w → (w.read ≡ c) × (w.classes ≡ class_table c)
unfolding setting
set-by c w e =
    let h₁ = then_to (Judging.judge NotFull (full c)) _ w e in
    let h₂ = then_to (Judging.judge DoubleCorner (no_repeats near c.points)) _ w h₁.2 in
    let h₃ = bound_to (Judging.wanted Centred (first_far c (range 0 (size c.abs (top c.abs - 1))))) _ w h₂.2 in
    let h₄ = bound_to (Ok (exchanged c h₃.0)) _ w h₃.2 in
    let h₅ = bound_to (Judging.wanted Unsettled (types_of h₄.0)) _ w h₄.2 in
    let h₆ = bound_to (Judging.wanted Flat (inverse (flag_columns h₄.0 (first_flag h₄.0.abs)))) _ w h₅.2 in
    let h₇ = then_to (Judging.judge Flat (all_finite h₆.0)) _ w h₆.2 in
    let q = same _ w h₇.2 in
    (ap (λ (v : Setting). v.read) (sym q), ap (λ (v : Setting). v.classes) (sym q))

search-mark : (c : Concrete) (ms : List Member) → search c ≡ Ok ms → (x : Member) → In x ms → x.mark ≡ 1 → marked c.abs (by_table (class_table c)) x.row ≡ true
unfolding search
search-mark c ms e x h k =
    let s = bound_to (setting c) _ ms e in
    let w = s.0 in
    let q = set-by c w s.1 in
    let m : marked w.read.abs (by_table w.classes) x.row ≡ true = one_means _ _ x.row (sym (member-mark w (flags w.searched.abs) x (rw (← same _ ms s.2) at h)) ∙ k) in
    rw (q.0, q.1) at m

-- ---- the calls

-- Of some members of a solid, a row with mark 1 is confirmed by the rule.
abbrev pub Ruled : Concrete × List Member → Type 0
Ruled y = (x : Member) → In x y.1 → x.mark ≡ 1 → marked y.0.abs (by_table (class_table y.0)) x.row ≡ true

-- The solid of a call's members is the sheet's, as read.
pub record Confirms (b : List ℕ) (words floats : ℕ) (o : Judged (Concrete × List Member)) : Type 0 where
  pub read : (y : Concrete × List Member) → o ≡ Ok y → preflight b words floats ≡ Ok y.0
  pub rule : (y : Concrete × List Member) → o ≡ Ok y → Ruled y

pub members_confirm : (b : List ℕ) (words floats : ℕ) → Confirms b words floats (members_in b words floats)
unfolding members_in
members_confirm b words floats = record {
  read = λ y h.
      let h₁ = bound_to (preflight b words floats) _ y h in
      let h₂ = bound_to (search h₁.0) _ y h₁.2 in
      h₁.1 ∙ ap (λ (u : Concrete × List Member). Ok u.0) (same _ y h₂.2);
  rule = λ y h.
      let h₁ = bound_to (preflight b words floats) _ y h in
      let h₂ = bound_to (search h₁.0) _ y h₁.2 in
      subst Ruled (same _ y h₂.2) (search-mark h₁.0 h₂.0 h₂.1);
}

pub rotations_confirm : (b : List ℕ) (words floats : ℕ) → Confirms b words floats (rotations_in b words floats)
unfolding rotations_in
rotations_confirm b words floats =
    let w = members_confirm b words floats in
    record {
      read = λ y h.
          let s = bound_to (members_in b words floats) _ y h in
          w.read s.0 s.1 ∙ ap (λ (u : Concrete × List Member). Ok u.0) (same _ y s.2);
      rule = λ y h.
          let s = bound_to (members_in b words floats) _ y h in
          subst Ruled (same _ y s.2) (λ x m. w.rule s.0 s.1 x (rotation_in s.0.1 x m));
    }
