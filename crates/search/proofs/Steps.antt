-- The search's judgements are taken as the program comes to them.
-- Assumes nothing.
use Rattle.std.specs.Prelude.{Err, None, Ok, Option, Result, Some, ⊤}
use Rattle.std.specs.Option.{ok_or}
use Rattle.std.specs.Result.{is_err}
use mathlib.Core.Path.{◌≡◌, refl, sym, ap, subst, ◌∙◌}
use Prim.Native.Nat.{ℕ, ◌-◌, ◌≤◌, ◌<◌}
use mathlib.Core.Bool.{Bool, true, false, ◌&&◌}
use mathlib.Core.List.{List, map}
use native.Mathlib.Omega.{arith}
use borrow.Author.Tests.{leb-true, eqb-true}
use lib.ListN.{length}
use lib.Dec.{leb, eqb}
use lib.Ieee.{Float}
use Rattle.spec.specs.declared.Refusal.{Refusal}
use Rattle.spec.specs.declared.Refusal.TheVariants.{NotFull, DoubleCorner, Centred, Flat, Unsettled}
use Rattle.spec.specs.Refusal.{Answer, refused_with}
use Rattle.spec.specs.Lists.{range, parts, written, no_repeats}
use Rattle.spec.specs.Types.{top, size, State}
use Rattle.spec.specs.Matrix.{Matrix, inverse}
use Rattle.spec.specs.Points.{near}
use Rattle.spec.specs.Judged.{Judged}
use Rattle.spec.specs.Solid.{Concrete, preflight}
use Rattle.spec.specs.Flags.{first_flag, flags}
use Rattle.spec.specs.Classes.{types_of}
use Rattle.spec.specs.Search.{Member, Setting, first_far, exchanged_in, exchanged, flag_columns, all_finite, full, setting}
use Rattle.spec.specs.Calls.{SearchOut, room_of}
use Rattle.laws.proofs.Shapes.{RoomHolds}
use Rattle.laws.proofs.Marked.{both}
use Rattle.points.proofs.Parts.{parts-take}
use Rattle.ranked.specs.declared.Shape.{Shape}
use Rattle.ranked.specs.Words.{size_at, lists_of, abs_in}
use Rattle.preflight.specs.Bench.{Bench, Laid}
use Rattle.ranked.specs.Layout.{solid_in}
use Rattle.preflight.specs.Preflight.{Preflighted}
use Rattle.preflight.proofs.Laws.{refused_by, passed_by}
use Rattle.preflight.proofs.Benches.{bench_kept}
use Rattle.element_types.specs.State.{state_in}
use Rattle.element_types.specs.Typed.{TypesMade}
use Rattle.marks.specs.Rows.{ClassesIn}
use Rattle.symmetry.proofs.exchange.Exchanged.{bench_exchanged, solid-exchanged}
use Rattle.symmetry.specs.declared.listing.Full.{Full}
use Rattle.symmetry.specs.Tails.{setting_of, from9, from10, from15, from11, call_from, out_of}
use Rattle.symmetry.specs.Searching.{Parted}
use Rattle.symmetry.specs.Listing.{MembersListed, number_of, answer_of, outs_of, kept_in}
use Rattle.symmetry.proofs.Tails.{judge_no, judge_yes, wanted_no, wanted_yes, from8, refused-call, after, search-after, rotations-after}
use Rattle.symmetry.proofs.Running.{listed-call}
use Rattle.search.specs.Reading.{call_of}
use Rattle.marks.specs.Marking.{marks_in}
use Rattle.search.proofs.Tested.{solid-kept, full_is, facets_are, far-low}
use Rattle.search.proofs.Benched.{exchanged_back, classes_in_lem}
use Rattle.search.proofs.Marked.{kept-room, kept_marks}

-- ---- what is wanted, and refused where it is missing

pub missing : {A : Type 0} (o : Option A) (why : Refusal) {e : Refusal} → ok_or o why ≡ Err e → (o ≡ None) × (e ≡ why)
missing None why q = (refl, cc)
missing (Some x) why q = (cc)

pub given : {A : Type 0} (o : Option A) (why : Refusal) {x : A} → ok_or o why ≡ Ok x → o ≡ Some x
given None why q = (cc)
given (Some x) why q = (cc)

-- ---- a tail that stops, and one that goes on

module _ (rot : Bool) (c : Concrete) (old : SearchOut) where
  pub stops : (why : Refusal) (j : Judged Setting) → j ≡ Err why → (refused_with why 0, old) ≡ call_from rot c j old
  stops why j e = rw e (sym (refused-call rot c why old))

  pub goes_on : (j k : Judged Setting) → j ≡ k → (x : Answer × SearchOut) → x ≡ call_from rot c k old → x ≡ call_from rot c j old
  goes_on j k e x p = rw e p

-- ---- 8, of the solid as read

module _ (sh : Shape) (b : Bool) (e : b ≡ leb 2 sh.rank && eqb sh.dimension (sh.rank - 1)) where
  -- There are two ranks, and an axis.
  pub tall : b ≡ true → (2 ≤ sh.rank) × (1 ≤ sh.dimension)
  tall t =
      let h = both (leb 2 sh.rank) (eqb sh.dimension (sh.rank - 1)) (sym e ∙ t) in
      let k = leb-true 2 sh.rank h.0 in
      (k, omega (arith, eqb-true sh.dimension (sh.rank - 1) h.1))

  module _ (ws : List ℕ) (fs : List Float) (rot : Bool) (old : SearchOut) where
    abbrev read : Concrete
    read = solid_in sh ws fs

    pub not_full : b ≡ false → (refused_with NotFull 0, old) ≡ call_from rot read (setting read) old
    not_full t = stops rot read old NotFull (setting read) (from8 read ∙ judge_no NotFull (full read) (from9 read) (full_is sh ws fs ∙ sym e ∙ t))

    pub is_full : b ≡ true → (x : Answer × SearchOut) → x ≡ call_from rot read (from9 read) old → x ≡ call_from rot read (setting read) old
    is_full t = goes_on rot read old (setting read) (from9 read) (from8 read ∙ judge_yes NotFull (full read) (from9 read) (full_is sh ws fs ∙ sym e ∙ t))

-- ---- 9

module _ (sh : Shape) (ws : List ℕ) (fs : List Float) (v : ℕ) (m : v ≡ size_at sh 1) (b : Bool) (e : b ≡ no_repeats near (parts v sh.dimension fs)) where
  abbrev corner-solid : Concrete
  corner-solid = solid_in sh ws fs

  corners : no_repeats near corner-solid.points ≡ b
  corners = ap (no_repeats near) (parts-take (size_at sh 1) sh.dimension fs ∙ ap (λ (k : ℕ). parts k sh.dimension fs) (sym m)) ∙ sym e

  pub parted : b ≡ true → 1 ≤ sh.dimension → Parted corner-solid
  unfolding corners
  parted t d = record { axes = d; distinct = corners ∙ t }

  module _ (rot : Bool) (old : SearchOut) where
    pub doubled : b ≡ false → (refused_with DoubleCorner 0, old) ≡ call_from rot corner-solid (from9 corner-solid) old
    unfolding from9 corners
    doubled t =
        stops rot corner-solid old DoubleCorner (from9 corner-solid)
        (judge_no DoubleCorner (no_repeats near corner-solid.points) (from10 corner-solid) (corners ∙ t))

    pub not_doubled : b ≡ true → (x : Answer × SearchOut) → x ≡ call_from rot corner-solid (from10 corner-solid) old → x ≡ call_from rot corner-solid (from9 corner-solid) old
    unfolding from9 corners
    not_doubled t =
        goes_on rot corner-solid old (from9 corner-solid) (from10 corner-solid)
        (judge_yes DoubleCorner (no_repeats near corner-solid.points) (from10 corner-solid) (corners ∙ t))

-- ---- 10, and the exchange

module _ (sh : Shape) (ws : List ℕ) (fs : List Float) (h : 2 ≤ sh.rank) (r : Option ℕ) (e : r ≡ first_far (solid_in sh ws fs) (range 0 (size_at sh (sh.rank - 1)))) where
  abbrev far-solid : Concrete
  far-solid = solid_in sh ws fs

  facets : first_far far-solid (range 0 (size far-solid.abs (top far-solid.abs - 1))) ≡ r
  facets = ap (λ (n : ℕ). first_far far-solid (range 0 n)) (facets_are sh (lists_of sh ws) h) ∙ sym e

  pub centred : (rot : Bool) (old : SearchOut) → r ≡ None → (refused_with Centred 0, old) ≡ call_from rot far-solid (from10 far-solid) old
  unfolding from10 facets
  centred rot old q =
      stops rot far-solid old Centred (from10 far-solid)
      (wanted_no Centred (first_far far-solid (range 0 (size far-solid.abs (top far-solid.abs - 1)))) (λ f. from15 far-solid (exchanged far-solid f)) (facets ∙ q))

  module _ (f : ℕ) (q : r ≡ Some f) where
    pub facet_in : (2 ≤ sh.rank) × (f < size_at sh (sh.rank - 1))
    facet_in = (h, far-low far-solid (size_at sh (sh.rank - 1)) f (sym e ∙ q))

    module _ (b : Bench sh ws fs) (vs : List ℕ) (s : abs_in sh (lists_of sh vs) ≡ exchanged_in (abs_in sh (lists_of sh ws)) f) where
      searched : solid_in sh vs fs ≡ exchanged far-solid f
      searched = solid-exchanged b f facet_in vs s

      pub exchanged_bench : Laid sh vs → Bench sh vs fs
      exchanged_bench l = bench_exchanged b f facet_in vs s l

      pub exchanged_parted : Parted far-solid → Parted (solid_in sh vs fs)
      unfolding exchanged searched
      exchanged_parted d = subst Parted (sym searched) (record { axes = d.axes; distinct = d.distinct })

      pub far_off : (rot : Bool) (old : SearchOut) (x : Answer × SearchOut)
          → x ≡ call_from rot (exchanged (solid_in sh vs fs) f) (from15 (exchanged (solid_in sh vs fs) f) (solid_in sh vs fs)) old
          → x ≡ call_from rot far-solid (from10 far-solid) old
      unfolding from10 facets
      far_off rot old x p =
          goes_on rot far-solid old (from10 far-solid) (from15 far-solid (exchanged far-solid f))
          (wanted_yes Centred (first_far far-solid (range 0 (size far-solid.abs (top far-solid.abs - 1)))) (λ g. from15 far-solid (exchanged far-solid g)) f (facets ∙ q))
          x (rw (searched, exchanged_back sh ws fs f h facet_in.1) at p)

-- ---- 15, of the solid as searched

module _ (sh : Shape) (ws vs : List ℕ) (fs gs : List Float) (b : Judged ⊤) (t : TypesMade sh ws vs fs gs b) where
  abbrev solid : Concrete
  solid = solid_in sh ws fs

  same_solid : solid_in sh vs gs ≡ solid
  same_solid = solid-kept sh ws vs fs gs t.lists t.points

  pub typed_bench : Bench sh ws fs → Bench sh vs gs
  typed_bench o = bench_kept o t.lists t.lengths.0 t.lengths.1

  pub typed_classes : Bench sh ws fs → ClassesIn sh (lists_of sh vs) gs
  typed_classes o = classes_in_lem (typed_bench o) ws fs t.lists t.points t.cells

  pub typed_parted : Parted solid → Parted (solid_in sh vs gs)
  typed_parted d = subst Parted (sym same_solid) d

  module _ (rot : Bool) (old : SearchOut) where
    pub unsettled : {why : Refusal} → b ≡ Err why → (c : Concrete) → (refused_with why 0, old) ≡ call_from rot c (from15 c solid) old
    unfolding from15
    unsettled e c =
        let n = rw e at t.ends in
        rw n.0 (stops rot c old Unsettled (from15 c solid) (wanted_no Unsettled (types_of solid) (λ z. from11 c solid z) n.1))

    pub settled : {u : ⊤} → b ≡ Ok u → (f : ℕ) (x : Answer × SearchOut)
        → x ≡ call_from rot (exchanged (solid_in sh vs gs) f) (from11 (exchanged (solid_in sh vs gs) f) (solid_in sh vs gs) (state_in sh vs)) old
        → x ≡ call_from rot (exchanged solid f) (from15 (exchanged solid f) solid) old
    unfolding from15
    settled e f x p =
        let c = exchanged solid f in
        goes_on rot c old (from15 c solid) (from11 c solid (state_in sh vs))
        (wanted_yes Unsettled (types_of solid) (λ z. from11 c solid z) (state_in sh vs) (rw e at t.ends))
        x (rw same_solid at p)

-- ---- 11

module _ (c d : Concrete) (z : State) where
  abbrev inverted : Option Matrix
  inverted = inverse (flag_columns d (first_flag d.abs))

  solid_is : (i : Matrix) → inverted ≡ Some i → all_finite i ≡ true → from11 c d z ≡ Ok (setting_of c d z i)
  unfolding from11
  solid_is i q n = wanted_yes Flat inverted _ i q ∙ judge_yes Flat (all_finite i) _ n

  module _ (rot : Bool) (old : SearchOut) where
    pub singular : inverted ≡ None → (refused_with Flat 0, old) ≡ call_from rot c (from11 c d z) old
    unfolding from11
    singular q = stops rot c old Flat (from11 c d z) (wanted_no Flat inverted _ q)

    pub not_finite : (i : Matrix) → inverted ≡ Some i → all_finite i ≡ false → (refused_with Flat 0, old) ≡ call_from rot c (from11 c d z) old
    unfolding from11
    not_finite i q n = stops rot c old Flat (from11 c d z) (wanted_yes Flat inverted _ i q ∙ judge_no Flat (all_finite i) _ n)

    pub not_flat : (i : Matrix) → inverted ≡ Some i → all_finite i ≡ true → (x : Answer × SearchOut) → x ≡ call_from rot c (Ok (setting_of c d z i)) old
        → x ≡ call_from rot c (from11 c d z) old
    not_flat i q n x p = goes_on rot c old (from11 c d z) (Ok (setting_of c d z i)) (solid_is i q n) x p

-- ---- 12 or 13, and the marks

module _ (d : Concrete) (f : ℕ) (z : State) (i : Matrix) (rot : Bool) (old : SearchOut) (r : Result ℕ Full) (ms : List Float) (rs : List ℕ)
    (l : MembersListed (setting_of (exchanged d f) d z i) rot (room_of old) (flags d.abs) r old.matrices ms old.rows rs) where
  abbrev as_read : Concrete
  as_read = exchanged d f

  abbrev set : Setting
  set = setting_of as_read d z i

  abbrev kept : List Member
  kept = kept_in set rot (room_of old) (flags d.abs)

  -- The rows have v entries each.
  module _ (v : ℕ) (m : length d.points ≡ v) where
    -- There is room for the rows and the marks.
    pub marks_in_lem : RoomHolds (room_of old) d.dimension v (number_of r)
    unfolding setting_of
    marks_in_lem = rw (← m, l.count) (kept-room set rot (room_of old) (flags d.abs))

    -- The marks of the rows that are written are the members' marks.
    row_marks : marks_in as_read (parts (number_of r) v rs) ≡ map (λ x. x.mark) kept
    unfolding setting_of
    row_marks = rw (← m, l.count, l.rows) (kept_marks set rot (room_of old) (flags d.abs) old.rows)

    pub ended : (a : Answer) → a ≡ answer_of (is_err r) (number_of r) → (ks : List ℕ) → ks ≡ written (marks_in as_read (parts (number_of r) v rs)) old.marks
        → (a, out_of ms rs ks) ≡ call_from rot as_read (Ok set) old
    unfolding setting_of exchanged outs_of
    ended a e ks q =
        let w : ks ≡ written (map (λ x. x.mark) kept) old.marks = q ∙ ap (λ (n : List ℕ). written n old.marks) row_marks in
        rw (e, l.count, l.matrices, l.rows, w) (sym (listed-call set rot as_read old (is_err r) refl refl l.short))

-- ---- 1 to 7

-- Either call goes by preflight.
call-after : (rot : Bool) (b : List ℕ) (n m : ℕ) (old : SearchOut) → call_of rot b n m old ≡ after rot (preflight b n m) old
call-after false b n m old = search-after b n m old
call-after true b n m old = rotations-after b n m old

module _ {b : List ℕ} {n m : ℕ} {r : Judged Shape} {ws : List ℕ} {fs : List Float} (p : Preflighted b n m r ws fs) where
  pub unready-call : (rot : Bool) (old : SearchOut) {why : Refusal} → r ≡ Err why → (refused_with why 0, old) ≡ call_of rot b n m old
  unfolding after
  unready-call rot old e = sym (call-after rot b n m old ∙ ap (λ (o : Judged Concrete). after rot o old) (refused_by p e))

  module _ {sh : Shape} (e : r ≡ Ok sh) where
    pub benched : Bench sh ws fs
    benched = (passed_by p e).2.bench

    pub passed_call : (rot : Bool) (old : SearchOut) (x : Answer × SearchOut) → x ≡ call_from rot (solid_in sh ws fs) (setting (solid_in sh ws fs)) old
        → x ≡ call_of rot b n m old
    unfolding after
    passed_call rot old x q =
        let c = passed_by p e in
        q ∙ ap (λ (d : Concrete). call_from rot d (setting d) old) c.2.is
        ∙ sym (call-after rot b n m old ∙ ap (λ (o : Judged Concrete). after rot o old) c.1)
