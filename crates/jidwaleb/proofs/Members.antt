-- A search lists at most one member for each flag, and gives out no more than it lists.
-- Assumes nothing.
use Rattle.std.specs.Prelude.{Err, None, Ok, Option, Some}
use mathlib.Core.Path.{◌≡◌, refl, sym, ap, ◌∙◌, subst}
use mathlib.Core.Bool.{Bool, true, false}
use mathlib.Core.List.{List, [], ◌∷◌}
use Prim.Native.Nat.{ℕ, suc, ◌-◌, ◌^◌, ◌≤◌, ◌<◌, zero-le}
use native.Mathlib.Omega.{arith}
use lib.ListN.{length}
use lib.Dec.{leb, eqb, ltb}
use Rattle.spec.specs.declared.Refusal.TheVariants.{NotFull, DoubleCorner, Centred, Flat, ShortSheet, Unsettled}
use Rattle.spec.specs.Refusal.{answer_count, refused_with}
use Rattle.spec.specs.Limits.{max_stored}
use Rattle.spec.specs.Lists.{range, no_repeats}
use Rattle.spec.specs.Types.{top, size}
use Rattle.spec.specs.Matrix.{inverse}
use Rattle.spec.specs.Points.{near}
use Rattle.spec.specs.Judged as Judging
use Rattle.spec.specs.Judged.{Judged}
use Rattle.spec.specs.Solid.{Concrete, entries, preflight}
use Rattle.spec.specs.Flags.{Flag, first_flag, flags}
use Rattle.spec.specs.Classes.{types_of}
use Rattle.spec.specs.Search.{Setting, Member, first_far, exchanged_in, exchanged, flag_columns, candidate, same_types, tested, members_of, is_rotation, rotations_of, full, all_finite, setting, search}
use Rattle.spec.specs.Calls.{Room, Outcome, have_room, fitting, kept_of, outcome, members_in, rotations_in, SearchOut, room_of, search_written, search_call, rotations_call}
use Rattle.laws.proofs.Marked.{both}
use Rattle.laws.proofs.Accepted as accepted
use Rattle.laws.proofs.Accepted.{same, le_test, bound_to, then_to, every_passed}
use Rattle.laws.proofs.Shapes.{wanted_some}
use Rattle.laws.proofs.Exchange.{top_same, entries_same, every-exchange}
use Rattle.sheet.proofs.Laws.{entries_is, header_small}
use Rattle.search.proofs.Tested.{far-low}
use Rattle.jidwaleb.proofs.Flagged.{few_flags}

-- ---- lists of members

members_few : (w : Setting) (l : List Flag) → length (members_of w l) ≤ length l
unfolding members_of
members_few w [] = zero-le
members_few w (F ∷ l) = go (same_types w F) (tested w (candidate w F)) (members_few w l)
  where
    go : (b : Bool) (o : Option Member) → length (members_of w l) ≤ length l
        → length {A = Member} (elim b as (λ z. List Member) [ true ↦ elim o as (λ z. List Member) [ Some m ↦ m ∷ members_of w l | None ↦ members_of w l ] | false ↦ members_of w l ]) ≤ suc (length l)
    go false o h = omega arith
    go true None h = omega arith
    go true (Some m) h = omega arith

rotations_few : (l : List Member) → length (rotations_of l) ≤ length l
unfolding rotations_of
rotations_few [] = zero-le
rotations_few (x ∷ l) = go (is_rotation x) (rotations_few l)
  where
    go : (b : Bool) → length (rotations_of l) ≤ length l → length {A = Member} (elim b as (λ z. List Member) [ true ↦ x ∷ rotations_of l | false ↦ rotations_of l ]) ≤ suc (length l)
    go true h = omega arith
    go false h = omega arith

fitting_few : (m : Room) (d v n : ℕ) (l : List Member) → length (fitting m d v n l) ≤ length l
unfolding fitting
fitting_few m d v n [] = zero-le
fitting_few m d v n (x ∷ l) = go (have_room m d v (suc n)) (fitting_few m d v (suc n) l)
  where
    go : (b : Bool) → length (fitting m d v (suc n) l) ≤ length l → length {A = Member} (elim b as (λ z. List Member) [ true ↦ x ∷ fitting m d v (suc n) l | false ↦ [] ]) ≤ suc (length l)
    go true h = omega arith
    go false h = omega arith

kept-count : (l kept : List Member) → answer_count (kept_of l kept).answer ≤ length kept
unfolding kept_of
kept-count [] kept = zero-le
kept-count (x ∷ l) kept = go (ltb (length kept) (length (x ∷ l)))
  where
    go : (b : Bool) → answer_count (elim b as (λ z. Outcome) [ true ↦ record { answer = refused_with ShortSheet (length kept); members = kept } | false ↦ record { answer = Ok (length kept); members = kept } ]).answer ≤ length kept
    go true = omega arith
    go false = omega arith

-- ---- the members of a call

abbrev Few : Judged (Concrete × List Member) → Type 0
Few o = (y : Concrete × List Member) → o ≡ Ok y → length y.1 < 2 ^ 32

found-count : (o : Judged (Concrete × List Member)) (m : Room) → Few o → answer_count (outcome o m).answer < 2 ^ 32
unfolding outcome
found-count (Err why) m h = omega arith
found-count (Ok y) m h =
    let l = fitting m y.0.dimension (length y.0.points) 0 y.1 in
    omega (arith, kept-count y.1 l, fitting_few m y.0.dimension (length y.0.points) 0 y.1, h y refl)

-- A solid as it is searched has few flags, too.
exchanged_few : (b : List ℕ) (words floats : ℕ) (c : Concrete) → preflight b words floats ≡ Ok c → 2 ≤ top c.abs
    → (f : ℕ) → f < size c.abs (top c.abs - 1) → length (flags (exchanged_in c.abs f)) < 2 ^ 32
exchanged_few b words floats c e tall f low =
    let s = c.abs in
    let p = every_passed b words floats c e in
    let t = top_same s tall f low in
    let k = every-exchange s p.sound p.diamonds p.filled tall f low in
    let small : entries s ≤ max_stored = omega (arith, ap entries p.solid, entries_is b p.parsed p.read, (header_small b p.parsed p.read).entries) in
    few_flags (exchanged_in s f) k.sound k.diamonds k.filled
    (omega (arith, entries_same s tall f low))
    (omega (arith, p.tall))

-- What a search goes through is the solid that was read, with a facet in the first's place.
searched_is : (c : Concrete) (w : Setting) → setting c ≡ Ok w → (2 ≤ top c.abs) × ((f : ℕ) × (f < size c.abs (top c.abs - 1)) × (w.searched ≡ exchanged c f))
unfolding setting full
searched_is c w e =
    let n = size c.abs (top c.abs - 1) in
    let h₁ = then_to (Judging.judge NotFull (full c)) _ w e in
    let h₂ = then_to (Judging.judge DoubleCorner (no_repeats near c.points)) _ w h₁.2 in
    let h₃ = bound_to (Judging.wanted Centred (first_far c (range 0 n))) _ w h₂.2 in
    let h₄ = bound_to (Ok (exchanged c h₃.0)) _ w h₃.2 in
    let h₅ = bound_to (Judging.wanted Unsettled (types_of h₄.0)) _ w h₄.2 in
    let h₆ = bound_to (Judging.wanted Flat (inverse (flag_columns h₄.0 (first_flag h₄.0.abs)))) _ w h₅.2 in
    let h₇ = then_to (Judging.judge Flat (all_finite h₆.0)) _ w h₆.2 in
    let k = both (leb 2 (top c.abs)) (eqb c.dimension (top c.abs - 1)) (accepted.tested NotFull _ _ h₁.1) in (
      le_test 2 (top c.abs) k.0,
      (
        h₃.0,
        far-low c n h₃.0 (wanted_some Centred (first_far c (range 0 n)) h₃.0 h₃.1),
        ap (λ (v : Setting). v.searched) (sym (same _ w h₇.2)) ∙ sym (same _ h₄.0 h₄.1),
      ),
    )

search_few : (b : List ℕ) (words floats : ℕ) (c : Concrete) → preflight b words floats ≡ Ok c → (ms : List Member) → search c ≡ Ok ms → length ms < 2 ^ 32
unfolding search exchanged
search_few b words floats c e ms q =
    let h = bound_to (setting c) _ ms q in
    let w = h.0 in
    let x = searched_is c w h.1 in
    let n = exchanged_few b words floats c e x.0 x.1.0 x.1.1 in
    omega (arith, ap length (same _ ms h.2), members_few w (flags w.searched.abs), ap (λ (d : Concrete). length (flags d.abs)) x.1.2, n)

all_few : (b : List ℕ) (words floats : ℕ) → Few (members_in b words floats)
unfolding members_in
all_few b words floats y e =
    let h₁ = bound_to (preflight b words floats) _ y e in
    let h₂ = bound_to (search h₁.0) _ y h₁.2 in
    subst (λ (z : Concrete × List Member). length z.1 < 2 ^ 32) (same _ y h₂.2) (search_few b words floats h₁.0 h₁.1 h₂.0 h₂.1)

turns_few : (b : List ℕ) (words floats : ℕ) → Few (rotations_in b words floats)
unfolding rotations_in
turns_few b words floats y e =
    let h = bound_to (members_in b words floats) _ y e in
    subst (λ (z : Concrete × List Member). length z.1 < 2 ^ 32) (same _ y h.2) (omega (arith, rotations_few h.0.1, all_few b words floats h.0 h.1))

pub search-count : (b : List ℕ) (words floats : ℕ) (old : SearchOut) → answer_count (search_call b words floats old).0 < 2 ^ 32
unfolding search_call search_written
search-count b words floats old = found-count (members_in b words floats) (room_of old) (all_few b words floats)

pub rotations-count : (b : List ℕ) (words floats : ℕ) (old : SearchOut) → answer_count (rotations_call b words floats old).0 < 2 ^ 32
unfolding rotations_call search_written
rotations-count b words floats old = found-count (rotations_in b words floats) (room_of old) (turns_few b words floats)
