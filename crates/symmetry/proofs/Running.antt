-- The members are listed one flag after another, and this file says what each flag adds, and what stands at the end.
-- Assumes nothing.
use Rattle.std.specs.Prelude.{None, Ok, Option, Some}
use mathlib.Core.Path.{◌≡◌, refl, sym, ap, ◌∙◌}
use Prim.Native.Nat.{ℕ, zero, suc, ◌+◌, ◌*◌, ◌≤◌}
use mathlib.Core.Bool.{Bool, true, false, not, ◌||◌}
use mathlib.Core.List.{List, [], ◌∷◌, ◌++◌, map, append_assoc, append-nil, map-append}
use native.Mathlib.Omega.{arith}
use lib.ListN.{length, length-append}
use native.Mathlib.Numerals.{add-one}
use native.Mathlib.Nat.{zero-mul}
use lib.Dec.{ltb}
use borrow.Author.Tests.{lt-ltb, ltb-false}
use Rattle.preflight.proofs.store.Listing.{join-append}
use Rattle.spec.specs.Refusal.{refused_with}
use Rattle.spec.specs.Lists.{join}
use Rattle.spec.specs.declared.Refusal.TheVariants.{ShortSheet}
use Rattle.spec.specs.Flags.{Flag, flags}
use Rattle.spec.specs.Search.{Member, Setting, candidate, same_types, tested, members_of, is_rotation, rotations_of}
use Rattle.spec.specs.Judged.{◌>>=◌}
use Rattle.spec.specs.Solid.{Concrete}
use Rattle.spec.specs.Calls.{Room, have_room, fitting, Outcome, kept_of, outcome, SearchOut, room_of, search_written}
use Rattle.symmetry.specs.Tails.{wanted_of, listed, call_from}
use Rattle.symmetry.specs.Listing.{listed_if, gives, members_given, matrix_cells, row_cells, Running, kept_in, answer_of, outs_of}

-- Puts a member, where there is one, before the others.
unfoldable pub before : Option Member → List Member → List Member
before None ms = ms
before (Some x) ms = x ∷ ms

-- One flag more gives its member, where it gives one.
pub members-next : (w : Setting) (rot : Bool) (F : Flag) (Fs : List Flag) → members_given w rot (F ∷ Fs) ≡ before (gives w rot F) (members_given w rot Fs)
unfolding members_given gives members_of rotations_of wanted_of listed_if before
members-next w rot F Fs = go rot (same_types w F) (tested w (candidate w F))
  where
    rotates : (b : Bool) (x : Member) → elim b as (λ z. List Member) [ true ↦ x ∷ rotations_of (members_of w Fs) | false ↦ rotations_of (members_of w Fs) ]
        ≡ before (elim (not true || b) as (λ z. Option Member) [ true ↦ Some x | false ↦ None ]) (rotations_of (members_of w Fs))
    rotates true x = refl
    rotates false x = refl

    go : (rot b : Bool) (o : Option Member) →
        wanted_of rot (elim b as (λ z. List Member) [ true ↦ elim o as (λ z. List Member) [ Some m ↦ m ∷ members_of w Fs | None ↦ members_of w Fs ] | false ↦ members_of w Fs ])
        ≡ before (elim b as (λ z. Option Member) [ true ↦ listed_if rot o | false ↦ None ]) (wanted_of rot (members_of w Fs))
    go rot false o = refl
    go rot true None = refl
    go false true (Some x) = refl
    go true true (Some x) = rotates (is_rotation x) x

-- The cells of one member more stand behind those before.
cells-one : {A : Type 0} (f : Member → List A) (done : List Member) (x : Member) → join (map f (done ++ x ∷ [])) ≡ join (map f done) ++ f x
unfolding join
cells-one f done x = rw (map-append f done (x ∷ [])) (join-append (map f done) (f x ∷ []) ∙ ap (λ l. join (map f done) ++ l) (append-nil (f x)))

pub matrix_one : (done : List Member) (x : Member) → matrix_cells (done ++ x ∷ []) ≡ matrix_cells done ++ join x.matrix
unfolding matrix_cells
matrix_one done x = cells-one (λ y. join y.matrix) done x

pub row_one : (done : List Member) (x : Member) → row_cells (done ++ x ∷ []) ≡ row_cells done ++ x.row
unfolding row_cells
row_one done x = cells-one (λ y. y.row) done x

fitting_yes : (m : Room) (d v n : ℕ) (x : Member) (l : List Member) → have_room m d v (suc n) ≡ true → fitting m d v n (x ∷ l) ≡ x ∷ fitting m d v (suc n) l
unfolding fitting
fitting_yes m d v n x l e = ap (λ b. elim b as (λ z. List Member) [ true ↦ x ∷ fitting m d v (suc n) l | false ↦ [] ]) e

fitting_no : (m : Room) (d v n : ℕ) (x : Member) (l : List Member) → have_room m d v (suc n) ≡ false → fitting m d v n (x ∷ l) ≡ []
unfolding fitting
fitting_no m d v n x l e = ap (λ b. elim b as (λ z. List Member) [ true ↦ x ∷ fitting m d v (suc n) l | false ↦ [] ]) e

module _ (w : Setting) (rot : Bool) (m : Room) (d v : ℕ) (Fs : List Flag) where
  -- At the first flag nothing is listed.
  pub running-first : Running w rot m d v Fs Fs []
  unfolding matrix_cells row_cells join
  running-first = record { kept = refl; all = omega arith; floats = sym (zero-mul (d * d)); entries = sym (zero-mul v) }

  module _ (F : Flag) (rest : List Flag) (done : List Member) (i : Running w rot m d v Fs (F ∷ rest) done) where
    -- The flag gives no member.
    pub running_none : gives w rot F ≡ None → Running w rot m d v Fs rest done
    unfolding before
    running_none e =
        let q : members_given w rot (F ∷ rest) ≡ members_given w rot rest = members-next w rot F rest ∙ ap (λ o. before o (members_given w rot rest)) e in
        record { kept = rw q at i.kept; all = rw q at i.all; floats = i.floats; entries = i.entries }

    module _ (x : Member) (e : gives w rot F ≡ Some x) where
      coming : members_given w rot (F ∷ rest) ≡ x ∷ members_given w rot rest
      unfolding before
      coming = members-next w rot F rest ∙ ap (λ o. before o (members_given w rot rest)) e

      -- The flag gives a member for which there is room.
      pub running-next : have_room m d v (suc (length done)) ≡ true → length (join x.matrix) ≡ d * d → length x.row ≡ v → Running w rot m d v Fs rest (done ++ x ∷ [])
      unfolding coming
      running-next h a b =
          let n : length (done ++ x ∷ []) ≡ suc (length done) = length-append done (x ∷ []) ∙ add-one (length done) in
          let k = rw (coming, fitting_yes m d v (length done) x (members_given w rot rest) h) at i.kept in
          let l = rw coming at i.all in
          record {
            kept = rw n (k ∙ sym (append_assoc done (x ∷ []) (fitting m d v (suc (length done)) (members_given w rot rest))));
            all = rw n (omega (arith, l));
            floats = rw (matrix_one done x, n, length-append (matrix_cells done) (join x.matrix), i.floats, a) (omega arith);
            entries = rw (row_one done x, n, length-append (row_cells done) x.row, i.entries, b) (omega arith);
          }

      -- The flag gives a member for which there is no room, which is refusal 13.
      pub running_short : have_room m d v (suc (length done)) ≡ false
          → (fitting m d v 0 (members_given w rot Fs) ≡ done) × (ltb (length done) (length (members_given w rot Fs)) ≡ true)
      unfolding coming
      running_short h = (
        rw (coming, fitting_no m d v (length done) x (members_given w rot rest) h) at i.kept ∙ append-nil done,
        lt-ltb (length done) (length (members_given w rot Fs)) (let l = rw coming at i.all in omega (arith, l)),
      )

  -- After the last flag, all members are listed.
  pub running-end : (done : List Member) → Running w rot m d v Fs [] done
      → (fitting m d v 0 (members_given w rot Fs) ≡ done) × (length (members_given w rot Fs) ≡ length done)
  unfolding members_given members_of wanted_of rotations_of fitting
  running-end done i = (ends rot i.kept, counts rot i.all)
    where
      ends : (b : Bool) → fitting m d v 0 (members_given w b Fs) ≡ done ++ fitting m d v (length done) (wanted_of b []) → fitting m d v 0 (members_given w b Fs) ≡ done
      ends false e = e ∙ append-nil done
      ends true e = e ∙ append-nil done

      counts : (b : Bool) → length (members_given w b Fs) ≡ length done + length (wanted_of b []) → length (members_given w b Fs) ≡ length done
      counts false e = omega (arith, e)
      counts true e = omega (arith, e)

-- ---- the end

fitting_few : (m : Room) (d v n : ℕ) (ms : List Member) → length (fitting m d v n ms) ≤ length ms
unfolding fitting
fitting_few m d v n [] = omega arith
fitting_few m d v n (x ∷ l) = go (have_room m d v (suc n)) (fitting_few m d v (suc n) l)
  where
    go : (b : Bool) → length (fitting m d v (suc n) l) ≤ length l → length {A = Member} (elim b as (λ z. List Member) [ true ↦ x ∷ fitting m d v (suc n) l | false ↦ [] ]) ≤ suc (length l)
    go true h = omega (arith, h)
    go false h = omega arith

-- The answer is "then 12 or 13" for members of which some fit.
written-kept : (old : SearchOut) (ms kept : List Member) (short : Bool) → length kept ≤ length ms → short ≡ ltb (length kept) (length ms)
    → search_written (kept_of ms kept) old ≡ (answer_of short (length kept), outs_of kept old)
unfolding kept_of search_written answer_of outs_of matrix_cells row_cells
written-kept old [] [] short h e = rw e refl
written-kept old [] (y ∷ kept) short h e = absurd (omega (arith, h))
written-kept old (x ∷ ms) kept short h e = rw e (go (length kept) (ltb (length kept) (suc (length ms))) refl refl)
  where
    go : (n : ℕ) (b : Bool) → length kept ≡ n → ltb n (suc (length ms)) ≡ b
        → search_written (elim b as (λ z. Outcome) [ true ↦ record { answer = refused_with ShortSheet (length kept); members = kept } | false ↦ record { answer = Ok (length kept); members = kept } ]) old
        ≡ (answer_of b (length kept), outs_of kept old)
    go n true q t = refl
    go zero false q t = let z = ltb-false 0 (suc (length ms)) t in absurd (omega (arith, z))
    go (suc n) false q t = rw q refl

-- This is what a call gives once its members are listed.
pub listed-call : (w : Setting) (rot : Bool) (c : Concrete) (old : SearchOut) (short : Bool) → c.dimension ≡ w.searched.dimension → c.points ≡ w.searched.points
    → short ≡ ltb (length (kept_in w rot (room_of old) (flags w.searched.abs))) (length (members_given w rot (flags w.searched.abs)))
    → call_from rot c (Ok w) old ≡ (answer_of short (length (kept_in w rot (room_of old) (flags w.searched.abs))), outs_of (kept_in w rot (room_of old) (flags w.searched.abs)) old)
unfolding call_from listed outcome ◌>>=◌ kept_in members_given
listed-call w rot c old short d p e =
    let ms = members_given w rot (flags w.searched.abs) in
    rw (d, p) (written-kept old ms (kept_in w rot (room_of old) (flags w.searched.abs)) short (fitting_few (room_of old) w.searched.dimension (length w.searched.points) 0 ms) e)
