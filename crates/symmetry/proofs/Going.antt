-- While flags are tried, the members listed so far stand in the outputs, and the next one goes to the part after those.
-- Assumes nothing.
use Rattle.std.specs.Prelude.{None, Option, Some}
use mathlib.Core.Path.{◌≡◌, refl, sym, ap, ap₂, ◌∙◌, subst}
use Prim.Native.Nat.{ℕ, suc, ◌+◌, ◌-◌, ◌*◌, ◌≤◌}
use mathlib.Core.Bool.{Bool, true, false, not, ◌&&◌, ◌||◌}
use Rattle.laws.proofs.Options.{none-ne-some}
use mathlib.Core.List.{List, [], ◌∷◌, ◌++◌}
use native.Mathlib.Omega.{arith}
use native.Mathlib.Numerals.{add-one}
use borrow.Author.Tests.{leb-true, leb-false, le-leb, lt-leb}
use lib.ListN.{length, length-append, length-drop}
use borrow.Rule.Slice.PartMut.{mid_of, put_mid, put_same}
use native.Mathlib.Nat.{suc-mul}
use lib.Dec.{leb, ltb}
use lib.Ieee.{Float}
use Rattle.spec.specs.Lists.{join, written}
use Rattle.spec.specs.Flags.{Flag}
use Rattle.spec.specs.Search.{Member, Setting, candidate, same_types, tested, is_rotation}
use Rattle.spec.specs.Calls.{Room, have_room, fitting}
use Rattle.laws.proofs.CopyLaws.{written-length}
use Rattle.points.proofs.Tails.{tail_is}
use Rattle.points.proofs.Tails.{part-written}
use Rattle.laws.proofs.Shapes.{SettingFit, MemberShape, square_long, RoomHolds, none_held, fits-holds, candidate_shape, tested_shape}
use Rattle.symmetry.specs.Listing.{listed_if, gives, members_given, matrix_cells, row_cells, Running, tried, fits}
use Rattle.symmetry.specs.declared.listing.Tried.{Tried}
use Rattle.symmetry.specs.declared.listing.Tried.TheVariants.{Skipped, Added, Short}
use Rattle.symmetry.proofs.Running.{matrix_one, row_one, running-first, running_none, running-next, running_short}

-- ---- the loop

-- The outputs ms and rs are as they were lent, ms' and rs' as they are; the flags `left` are to come, and n members are listed.
pub record Going (w : Setting) (rot : Bool) (m : Room) (d v : ℕ) (Fs left : List Flag) (ms ms' : List Float) (rs rs' : List ℕ) (n : ℕ) : Type 0 where
  pub done : List Member
  pub running : Running w rot m d v Fs left done
  pub count : n ≡ length done
  pub matrices : ms' ≡ written (matrix_cells done) ms
  pub rows : rs' ≡ written (row_cells done) rs
  pub room : RoomHolds m d v n

pub going_first : (w : Setting) (rot : Bool) (m : Room) (d v : ℕ) (Fs : List Flag) (ms : List Float) (rs : List ℕ) → Going w rot m d v Fs Fs ms ms rs rs 0
unfolding written matrix_cells row_cells join
going_first w rot m d v Fs ms rs = record { done = []; running = running-first w rot m d v Fs; count = refl; matrices = refl; rows = refl; room = none_held m d v }

-- What is left of the outputs has room for one more exactly when the whole has room for n + 1.
room_left : (m : Room) (d v n : ℕ) → RoomHolds m d v n → fits d v (m.floats - n * (d * d)) (m.entries - n * v) (m.marks - n) ≡ have_room m d v (suc n)
unfolding fits have_room
room_left m d v n h =
    ap₂ ◌&&◌
    (ap₂ ◌&&◌ (moved (d * d) (n * (d * d)) m.floats (suc n * (d * d)) (suc-mul n (d * d)) h.matrices) (moved v (n * v) m.entries (suc n * v) (suc-mul n v) h.rows))
    (moved 1 n m.marks (suc n) (add-one_sym n) h.marks)
  where
    add-one_sym : (n : ℕ) → suc n ≡ n + 1
    add-one_sym n = omega arith

    moved : (k a b c : ℕ) → c ≡ a + k → a ≤ b → leb k (b - a) ≡ leb c b
    moved k a b c e h = go (leb c b) refl
      where
        go : (t : Bool) → leb c b ≡ t → leb k (b - a) ≡ t
        go true q = let z = leb-true c b q in le-leb k (b - a) (omega (arith, z, e))
        go false q = let z = leb-false c b q in lt-leb k (b - a) (omega (arith, z, e))

module _ (w : Setting) (rot : Bool) (m : Room) (d v : ℕ) (shape : SettingFit d v w) (Fs : List Flag) (F : Flag) (left : List Flag)
    (ms ms' : List Float) (rs rs' : List ℕ) (n : ℕ) (es : m.floats ≡ length ms) (er : m.entries ≡ length rs)
    (g : Going w rot m d v Fs (F ∷ left) ms ms' rs rs' n) where
  -- These are the parts after the finished members.
  abbrev pub matrix_part : List Float
  matrix_part = mid_of (n * (d * d)) (length ms' - n * (d * d)) ms'

  abbrev pub row_part : List ℕ
  row_part = mid_of (n * v) (length rs' - n * v) rs'

  many : length ms' ≡ length ms
  many = ap length g.matrices ∙ written-length (matrix_cells g.done) ms (rw (g.running.floats, ← g.count, ← es) g.room.matrices)

  long : length rs' ≡ length rs
  long = ap length g.rows ∙ written-length (row_cells g.done) rs (rw (g.running.entries, ← g.count, ← er) g.room.rows)

  -- The parts start within the outputs.
  pub floats_in : n * (d * d) ≤ length ms'
  unfolding many
  floats_in = rw (many, ← es) g.room.matrices

  pub entries_in : n * v ≤ length rs'
  unfolding long
  entries_in = rw (long, ← er) g.room.rows

  -- Trying the flag came to t.
  module _ (t : Tried) (p : List Float) (q : List ℕ)
      (e : ◌≡◌ {A = Tried × List Float × List ℕ} (t, p, q) (tried (gives w rot F) (fits d v (length matrix_part) (length row_part) (m.marks - n)) matrix_part row_part)) where
    abbrev pub matrices_then : List Float
    matrices_then = put_mid (n * (d * d)) (length ms' - n * (d * d)) ms' p

    abbrev pub rows_then : List ℕ
    rows_then = put_mid (n * v) (length rs' - n * v) rs' q

    -- This is what stands then.
    unfoldable pub Then : Tried → Type 0
    Then Skipped = Going w rot m d v Fs left ms matrices_then rs rows_then n
    Then Added = Going w rot m d v Fs left ms matrices_then rs rows_then (suc n)
    Then Short = (fitting m d v 0 (members_given w rot Fs) ≡ g.done) × (ltb n (length (members_given w rot Fs)) ≡ true) × (matrices_then ≡ ms') × (rows_then ≡ rs')

    fits_is : fits d v (length matrix_part) (length row_part) (m.marks - n) ≡ have_room m d v (suc n)
    unfolding many long floats_in entries_in
    fits_is =
        rw (tail_is ms' p (n * (d * d)) floats_in, tail_is rs' q (n * v) entries_in, length-drop (n * (d * d)) ms', length-drop (n * v) rs', many, long, ← es, ← er) (room_left m d v n g.room)

    same_matrices : p ≡ matrix_part → matrices_then ≡ ms'
    same_matrices k = rw k (put_same (n * (d * d)) (length ms' - n * (d * d)) ms')

    same_rows : q ≡ row_part → rows_then ≡ rs'
    same_rows k = rw k (put_same (n * v) (length rs' - n * v) rs')

    member_shape : (x : Member) → gives w rot F ≡ Some x → MemberShape d v x
    unfolding gives listed_if
    member_shape x = go (same_types w F)
      where
        listed : (b : Bool) (y : Member) → tested w (candidate w F) ≡ Some y → elim b as (λ z. Option Member) [ true ↦ Some y | false ↦ None ] ≡ Some x → MemberShape d v x
        listed true y k h = tested_shape d v w shape (candidate w F) (candidate_shape d v w shape F) x (k ∙ h)
        listed false y k h = absurd (none-ne-some x h)

        passing : (o : Option Member) → tested w (candidate w F) ≡ o → listed_if rot o ≡ Some x → MemberShape d v x
        passing None k h = absurd (none-ne-some x h)
        passing (Some y) k h = listed (not rot || is_rotation y) y k h

        go : (b : Bool) → elim b as (λ z. Option Member) [ true ↦ listed_if rot (tested w (candidate w F)) | false ↦ None ] ≡ Some x → MemberShape d v x
        go true h = passing (tested w (candidate w F)) refl h
        go false h = absurd (none-ne-some x h)

    -- There are three cases, of a member and of the room.
    module _ (k : ◌≡◌ {A = Tried × List Float × List ℕ} (t, p, q) (tried None true matrix_part row_part)) (o : gives w rot F ≡ None) where
      skipped : Going w rot m d v Fs left ms matrices_then rs rows_then n
      unfolding tried same_matrices same_rows
      skipped = record {
        done = g.done;
        running = running_none w rot m d v Fs F left g.done g.running o;
        count = g.count;
        matrices = same_matrices (ap (λ (u : Tried × List Float × List ℕ). u.1) k) ∙ g.matrices;
        rows = same_rows (ap (λ (u : Tried × List Float × List ℕ). u.2) k) ∙ g.rows;
        room = g.room;
      }

    module _ (x : Member) (o : gives w rot F ≡ Some x) where
      module _ (h : have_room m d v (suc n) ≡ true) (k : ◌≡◌ {A = Tried × List Float × List ℕ} (t, p, q) (tried (Some x) true matrix_part row_part)) where
        joined : Going w rot m d v Fs left ms matrices_then rs rows_then (suc n)
        unfolding tried member_shape floats_in entries_in
        joined =
            let a = member_shape x o in
            record {
              done = g.done ++ x ∷ [];
              running = running-next w rot m d v Fs F left g.done g.running x o (rw (← g.count) h) (square_long d x.matrix a.matrix) a.row;
              count = ap suc g.count ∙ sym (length-append g.done (x ∷ []) ∙ add-one (length g.done));
              matrices = part-written (matrix_cells g.done) (join x.matrix) ms ms' p (n * (d * d)) (g.running.floats ∙ ap (λ z. z * (d * d)) (sym g.count)) floats_in g.matrices
                  (ap (λ (u : Tried × List Float × List ℕ). u.1) k)
                  ∙ ap (λ z. written z ms) (sym (matrix_one g.done x));
              rows = part-written (row_cells g.done) x.row rs rs' q (n * v) (g.running.entries ∙ ap (λ z. z * v) (sym g.count)) entries_in g.rows
                  (ap (λ (u : Tried × List Float × List ℕ). u.2) k)
                  ∙ ap (λ z. written z rs) (sym (row_one g.done x));
              room = fits-holds m d v (suc n) h;
            }

      module _ (h : have_room m d v (suc n) ≡ false) (k : ◌≡◌ {A = Tried × List Float × List ℕ} (t, p, q) (tried (Some x) false matrix_part row_part)) where
        stopped : (fitting m d v 0 (members_given w rot Fs) ≡ g.done) × (ltb n (length (members_given w rot Fs)) ≡ true) × (matrices_then ≡ ms') × (rows_then ≡ rs')
        unfolding tried same_matrices same_rows
        stopped =
            let a = running_short w rot m d v Fs F left g.done g.running x o (rw (← g.count) h) in
            (a.0, rw g.count a.1, same_matrices (ap (λ (u : Tried × List Float × List ℕ). u.1) k), same_rows (ap (λ (u : Tried × List Float × List ℕ). u.2) k))

    pub after : Then t
    unfolding Then fits_is skipped joined stopped tried
    after = go (gives w rot F) (have_room m d v (suc n)) refl refl (e ∙ ap (λ b. tried (gives w rot F) b matrix_part row_part) fits_is)
      where
        go : (o : Option Member) (b : Bool) → gives w rot F ≡ o → have_room m d v (suc n) ≡ b
            → ◌≡◌ {A = Tried × List Float × List ℕ} (t, p, q) (tried (gives w rot F) (have_room m d v (suc n)) matrix_part row_part) → Then t
        go None b o h k =
            let k' = rw o at k in
            subst Then (sym (ap (λ (u : Tried × List Float × List ℕ). u.0) k')) (skipped k' o)
        go (Some x) true o h k =
            let k' = rw (o, h) at k in
            subst Then (sym (ap (λ (u : Tried × List Float × List ℕ). u.0) k')) (joined x o h k')
        go (Some x) false o h k =
            let k' = rw (o, h) at k in
            subst Then (sym (ap (λ (u : Tried × List Float × List ℕ). u.0) k')) (stopped x o h k')
