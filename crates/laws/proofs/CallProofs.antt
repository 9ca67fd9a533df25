-- These are the laws of the calls: no empty list passes for success, when a call answers 13 or copying 14, what a refusal leaves in the outputs, and
-- that these keep their lengths.
-- Assumes nothing.
use Rattle.std.specs.Prelude.{Err, Ok, Some}
use mathlib.Core.Path.{◌≡◌, refl, sym, ◌∙◌, ap, subst}
use mathlib.Core.Logic.{◌≢◌, ◌⊎◌, inl, inr, ⊎_elim}
use Prim.Native.Nat.{ℕ, suc, ◌+◌, ◌*◌, ◌/◌, ◌%◌, ◌≤◌, ◌<◌, min}
use native.Mathlib.Nat.{zero-mul, le_trans, mul-le-mul_right, div-mul-le_self, div-lt_iff_lt-mul}
use mathlib.Core.Bool.{Bool, true, false, not, ◌&&◌}
use mathlib.Core.List.{List, [], ◌∷◌, map}
use native.Mathlib.Omega.{arith}
use native.Mathlib.Decide.{dec_lt}
use borrow.Author.Tests.{le-leb, leb-false}
use lib.ListN.{length, take, replicate, length-replicate}
use lib.Seq.{take_all, take-length, length-take-le}
use lib.Dec.{leb, ltb, eqb, nleb→lt, nltb→le, T}
use lib.Ieee.{Float}
use Rattle.spec.specs.declared.Refusal.{Refusal}
use Rattle.spec.specs.declared.Refusal.TheVariants.{CutSheet, Format, OffTheBoard, Blank, ShortSheet, Open, Unsettled}
use Rattle.spec.specs.declared.Refused.{Refused}
use Rattle.spec.specs.Refusal.{number, Answer, refused_with, answer_count}
use Rattle.spec.specs.Limits.{max_dimension, max_count}
use Rattle.spec.specs.Lists.{holds, join, every, written}
use Rattle.spec.specs.Float.{in_range}
use Rattle.spec.specs.Matrix.{Vector, Matrix}
use Rattle.spec.specs.Types.{State, given, element_types}
use Rattle.spec.specs.Classes.{types_of}
use Rattle.spec.specs.Judged as Judging
use Rattle.spec.specs.Judged.{Judged}
use Rattle.spec.specs.Copying.{copies, copy_table, points, matrices, judge_copy, copy_out, copy_call, no_image}
use Rattle.spec.specs.Solid.{Concrete, preflight}
use Rattle.spec.specs.Search.{Member}
use Rattle.spec.specs.Calls.{Given, type_cells, TypesOut, types_given, types_written, types_call, Room, Outcome, have_room, fitting, kept_of, outcome, members_in, rotations_in, SearchOut, room_of, search_written, search_call, rotations_call}
use Rattle.spec.specs.Workspace.{SameLength}
use Rattle.laws.specs.CallLaws.{AllMembers, FirstMembers, SearchLaws, AllTypes, NoRoom, CallLaws, AllCopies, FirstCopies, OpenCopies, EveryCopyCall}
use Rattle.laws.proofs.Counts.{numbers}
use Rattle.laws.proofs.Marked.{both, lt_test}
use Rattle.laws.proofs.Accepted.{never, same, bound_to, then_to, tested, le_test}
use Rattle.laws.proofs.Refuses.{by-judge, by-wanted, by-then, unlike, Refuses, not13, Spares, spares_preflight, spares_members, spares_rotations}
use Rattle.laws.proofs.Shapes.{wanted_some, MembersShaped, members-shaped, rotations-shaped, found-cells, type_cells_lem}
use Rattle.laws.proofs.CopyLaws.{Wide, all-wide, kept_fit, wide-join, written-length, table_length, closed_table, open_table, some_copy}

pub apart : (why : Refusal) (k m : ℕ) → refused_with why k ≡ Ok m → ⊥
apart why k m e = let z : ◌≡◌ {A = ℕ} 0 1 = cc in omega arith

same_refusal : (why other : Refusal) (k l : ℕ) → refused_with why k ≡ refused_with other l → why ≡ other
same_refusal why other k l e =
    let q : ◌≡◌ {A = Refused} (record { why = why; kept = k }) (record { why = other; kept = l }) = cc in ap (λ (r : Refused). r.why) q

same_count : (why : Refusal) (k l : ℕ) → refused_with why k ≡ refused_with why l → k ≡ l
same_count why k l e = ap answer_count e

open_short : (k l : ℕ) → refused_with Open k ≡ refused_with ShortSheet l → ⊥
open_short k l e = omega (arith, ap number (same_refusal Open ShortSheet k l e))

pub counted : (n m : ℕ) → ◌≡◌ {A = Answer} (Ok n) (Ok m) → n ≡ m
counted n m e = cc

unfoldable pub choose : (kept : List Member) → Bool → Outcome
choose kept b = elim b [ true ↦ record { answer = refused_with ShortSheet (length kept); members = kept } | false ↦ record { answer = Ok (length kept); members = kept } ]

-- ---- what fits

-- Of members l, after n others, those that are kept are the first; there is room for them, and for one more only where no more are left.
record MembersKept (m : Room) (d v n : ℕ) (l kept : List Member) : Type 0 where
  first : kept ≡ take (length kept) l
  fit : have_room m d v (n + length kept) ≡ true
  full : length kept < length l → have_room m d v (suc (n + length kept)) ≡ false

fitting-kept : (m : Room) (d v n : ℕ) (l : List Member) → have_room m d v n ≡ true → MembersKept m d v n l (fitting m d v n l)
unfolding fitting
fitting-kept m d v n [] h = record { first = refl; fit = let q : n + 0 ≡ n = omega arith in rw q h; full = λ k. absurd (omega arith) }
fitting-kept m d v n (x ∷ l) h = go (have_room m d v (suc n)) refl (λ k. fitting-kept m d v (suc n) l k)
  where
    go : (b : Bool) → have_room m d v (suc n) ≡ b → (have_room m d v (suc n) ≡ true → MembersKept m d v (suc n) l (fitting m d v (suc n) l))
        → MembersKept m d v n (x ∷ l) (elim b as (λ z. List Member) [ true ↦ x ∷ fitting m d v (suc n) l | false ↦ [] ])
    go true e f =
        let k = f e in
        let q : n + suc (length (fitting m d v (suc n) l)) ≡ suc n + length (fitting m d v (suc n) l) = omega arith in
        record { first = ap {B = List Member} (λ ys. x ∷ ys) k.first; fit = rw q k.fit; full = λ i. rw q (k.full (omega arith)) }
    go false e f = let q : n + 0 ≡ n = omega arith in record { first = refl; fit = rw q h; full = λ i. rw q e }

no_members_fit : (m : Room) (d v : ℕ) → have_room m d v 0 ≡ true
unfolding have_room
no_members_fit m d v = rw (zero-mul (d * d), zero-mul v, le-leb 0 m.floats (omega arith), le-leb 0 m.entries (omega arith), le-leb 0 m.marks (omega arith)) refl

-- ---- search and rotations

module _ (o : Judged (Concrete × List Member)) (m : Room) where
  -- There is room for n members of the solid c.
  abbrev MembersFit : Concrete → ℕ → Bool
  MembersFit c n = have_room m c.dimension (length c.points) n

  -- A search whose members are o, with the room m, ends in one of these ways: by a refusal that is not 13, with the first k members, or with all.
  data SearchEnds : Outcome → Type 0 where
    before : (why : Refusal) → why ≢ ShortSheet → SearchEnds (record { answer = refused_with why 0; members = [] })
    short : (c : Concrete) (ms : List Member) (k : ℕ) → o ≡ Ok (c, ms) → MembersFit c k ≡ true → MembersFit c (suc k) ≡ false → k < length ms
        → SearchEnds (record { answer = refused_with ShortSheet k; members = take k ms })
    whole : (c : Concrete) (ms : List Member) → o ≡ Ok (c, ms) → MembersFit c (length ms) ≡ true → 0 < length ms → SearchEnds (record { answer = Ok (length ms); members = ms })

  kept-ends : (c : Concrete) (ms kept : List Member) → o ≡ Ok (c, ms) → MembersKept m c.dimension (length c.points) 0 ms kept → SearchEnds (kept_of ms kept)
  unfolding kept_of choose
  kept-ends c [] kept q h = before Blank (unlike Blank ShortSheet tt)
  kept-ends c (x ∷ l) kept q h = go (ltb (length kept) (length (x ∷ l))) refl
    where
      none_before : 0 + length kept ≡ length kept
      none_before = omega arith

      go : (b : Bool) → ltb (length kept) (length (x ∷ l)) ≡ b → SearchEnds (choose kept b)
      go true e =
          let k = lt_test (length kept) (length (x ∷ l)) e in
          subst (λ (ys : List Member). SearchEnds (record { answer = refused_with ShortSheet (length kept); members = ys })) (sym h.first)
          (short c (x ∷ l) (length kept) q (rw none_before at h.fit) (rw none_before at (h.full k)) k)
      go false e =
          let k : length (x ∷ l) ≤ length kept = nltb→le (length kept) (length (x ∷ l)) (subst (λ (b : Bool). T (not b)) (sym e) tt) in
          let r : kept ≡ x ∷ l = h.first ∙ take_all (length kept) (x ∷ l) k in
          let f : MembersFit c (length (x ∷ l)) ≡ true = subst (λ (ys : List Member). MembersFit c (length ys) ≡ true) r (rw none_before at h.fit) in
          subst (λ (ys : List Member). SearchEnds (record { answer = Ok (length ys); members = ys })) (sym r) (whole c (x ∷ l) q f (omega arith))

search-ends : (o : Judged (Concrete × List Member)) (m : Room) → Spares o → SearchEnds o m (outcome o m)
unfolding outcome
search-ends (Err why) m s = before why s
search-ends (Ok x) m s =
    let d = x.0.dimension in
    let v = length x.0.points in
    kept-ends (Ok x) m x.0 x.1 (fitting m d v 0 x.1) refl (fitting-kept m d v 0 x.1 (no_members_fit m d v))

module _ (o : Judged (Concrete × List Member)) (old : SearchOut) where
  ended_some : (f : Outcome) → SearchEnds o (room_of old) f → (n : ℕ) → f.answer ≡ Ok n → 0 < n
  ended_some f (before why h) n e = absurd (apart why 0 n e)
  ended_some f (short c ms k q r t h) n e = absurd (apart ShortSheet k n e)
  ended_some f (whole c ms q r h) n e = rw (← counted (length ms) n e) h

  ended-done : (f : Outcome) → SearchEnds o (room_of old) f → (n : ℕ) → f.answer ≡ Ok n → AllMembers o old (search_written f old).1 n
  unfolding search_written
  ended-done f (before why h) n e = absurd (apart why 0 n e)
  ended-done f (short c ms k q r t h) n e = absurd (apart ShortSheet k n e)
  ended-done f (whole c ms q r h) n e =
      let k = counted (length ms) n e in
      record { solid = c; members = ms; listed = q; count = sym k; fit = rw (← k) r; hold = record { matrices = refl; rows = refl; marks = refl } }

  ended_short : (f : Outcome) → SearchEnds o (room_of old) f → (n : ℕ) → f.answer ≡ refused_with ShortSheet n → FirstMembers o old (search_written f old).1 n
  unfolding search_written
  ended_short f (before why h) n e = absurd (h (same_refusal why ShortSheet 0 n e))
  ended_short f (whole c ms q r h) n e = absurd (apart ShortSheet n (length ms) (sym e))
  ended_short f (short c ms k q r t h) n e =
      subst (λ (i : ℕ). FirstMembers o old (search_written (record { answer = refused_with ShortSheet k; members = take k ms }) old).1 i) (same_count ShortSheet k n e)
      (record { solid = c; members = ms; listed = q; fit = r; full = t; more = h; hold = record { matrices = refl; rows = refl; marks = refl } })

  ended_untouched : (f : Outcome) → SearchEnds o (room_of old) f → (why : Refusal) (k : ℕ) → f.answer ≡ refused_with why k → why ≢ ShortSheet → (search_written f old).1 ≡ old
  unfolding search_written written join
  ended_untouched f (before why h) other k e p = refl
  ended_untouched f (short c ms n q r t h) why k e p = absurd (p (sym (same_refusal ShortSheet why n k e)))
  ended_untouched f (whole c ms q r h) why k e p = absurd (apart why k (length ms) (sym e))

search_lengths : (o : Judged (Concrete × List Member)) → MembersShaped o → (old : SearchOut) →
    let new = (search_written (outcome o (room_of old)) old).1 in
    SameLength old.matrices new.matrices × SameLength old.rows new.rows × SameLength old.marks new.marks
unfolding search_written room_of
search_lengths o s old =
    let c = found-cells o s (room_of old) in
    (written-length _ old.matrices c.matrices, written-length _ old.rows c.rows, written-length _ old.marks c.marks)

search_laws : (inside : List ℕ → ℕ → ℕ → Judged (Concrete × List Member)) → ((b : List ℕ) (words floats : ℕ) → MembersShaped (inside b words floats)) → ((b : List ℕ) (words floats : ℕ) → Spares (inside b words floats))
    → SearchLaws (λ b words floats old. search_written (outcome (inside b words floats) (room_of old)) old) inside
unfolding search_written
search_laws inside shaped spares = record {
  some_member = λ b words floats old. ended_some (inside b words floats) old _ (ends b words floats old);
  done = λ b words floats old. ended-done (inside b words floats) old _ (ends b words floats old);
  short = λ b words floats old. ended_short (inside b words floats) old _ (ends b words floats old);
  untouched = λ b words floats old. ended_untouched (inside b words floats) old _ (ends b words floats old);
  lengths = λ b words floats old. search_lengths (inside b words floats) (shaped b words floats) old;
}
  where
    ends : (b : List ℕ) (words floats : ℕ) (old : SearchOut) → SearchEnds (inside b words floats) (room_of old) (outcome (inside b words floats) (room_of old))
    ends b words floats old = search-ends (inside b words floats) (room_of old) (spares b words floats)

-- ---- types

types-out : (g : Judged Given) (old : TypesOut) (why : Refusal) (k : ℕ) → (types_written g old).0 ≡ refused_with why k → (types_written g old).1 ≡ old
unfolding types_written
types-out (Err m) old why k e = refl
types-out (Ok g) old why k e = absurd (apart why k (length g.types) (sym e))

-- Behind a types call that passes stand the sheet's solid, the result of the sweeps, and room for what is given out.
pub record Behind (b : List ℕ) (words floats n m : ℕ) (g : Given) : Type 0 where
  pub solid : Concrete
  pub result : State
  pub read : preflight b words floats ≡ Ok solid
  pub ended : types_of solid ≡ Some result
  pub out : g ≡ record { elements = given solid.abs result; types = element_types solid.abs result }
  pub elements : length g.elements ≤ n
  pub types : 4 * length g.types ≤ m

pub behind : (b : List ℕ) (words floats n m : ℕ) (g : Given) → types_given b words floats n m ≡ Ok g → Behind b words floats n m g
unfolding types_given
behind b words floats n m g q =
    let h₁ = bound_to (preflight b words floats) _ g q in
    let h₂ = bound_to (Judging.wanted Unsettled (types_of h₁.0)) _ g h₁.2 in
    let h₃ = bound_to (Ok (record { elements = given h₁.0.abs h₂.0; types = element_types h₁.0.abs h₂.0 })) _ g h₂.2 in
    let a = leb (length h₃.0.elements) n in
    let h₄ = then_to (Judging.judge ShortSheet (a && leb (4 * length h₃.0.types) m)) _ g h₃.2 in
    let k = both a (leb (4 * length h₃.0.types) m) (tested ShortSheet _ _ h₄.1) in
    let p = same h₃.0 g h₄.2 in
    record {
      solid = h₁.0;
      result = h₂.0;
      read = h₁.1;
      ended = wanted_some Unsettled (types_of h₁.0) h₂.0 h₂.1;
      out = sym (same _ h₃.0 h₃.1 ∙ p);
      elements = subst (λ (x : Given). length x.elements ≤ n) p (le_test _ _ k.0);
      types = subst (λ (x : Given). 4 * length x.types ≤ m) p (le_test _ _ k.1);
    }

types-done : (b : List ℕ) (words floats : ℕ) (old : TypesOut) (o : Judged Given) → types_given b words floats (length old.elements) (length old.types) ≡ o
    → (n : ℕ) → (types_written o old).0 ≡ Ok n → AllTypes b words floats old (types_written o old).1 n
unfolding types_written
types-done b words floats old (Err why) q n e = absurd (apart why 0 n e)
types-done b words floats old (Ok g) q n e =
    let h = behind b words floats (length old.elements) (length old.types) g q in
    record {
      out = g;
      settled = record { solid = h.solid; result = h.result; read = h.read; ended = h.ended; out = h.out };
      count = sym (counted (length g.types) n e);
      elements_fit = h.elements;
      types_fit = h.types;
      elements = refl;
      types = refl;
    }

-- A sequence of judgements that ends with 13, and not in its first one, passes that one.
passed_by : {A B : Type 0} (m : Judged A) (k : A → Judged B) → Spares m → Judging.◌>>=◌ m k ≡ Err ShortSheet → (x : A) × (m ≡ Ok x) × (k x ≡ Err ShortSheet)
unfolding Judging.◌>>=◌
passed_by (Err why) k s e = let q : why ≡ ShortSheet = cc in absurd (s q)
passed_by (Ok x) k s e = (x, refl, e)

-- The last judgement is what refuses.
test_failed : {A : Type 0} (why : Refusal) (a b : Bool) (x : A) → Judging.◌>>◌ (Judging.judge why (a && b)) (Ok x) ≡ Err why → (a ≡ false) ⊎ (b ≡ false)
unfolding Judging.◌>>◌ Judging.judge
test_failed why false b x e = inl refl
test_failed why true false x e = inr refl
test_failed why true true x e = absurd (never why x (sym e))

types_short : (b : List ℕ) (words floats : ℕ) (old : TypesOut) (o : Judged Given) → types_given b words floats (length old.elements) (length old.types) ≡ o
    → (k : ℕ) → (types_written o old).0 ≡ refused_with ShortSheet k → NoRoom b words floats old k
unfolding types_written types_given
types_short b words floats old (Ok g) q k e = absurd (apart ShortSheet k (length g.types) (sym e))
types_short b words floats old (Err why) q k e =
    let h₁ = passed_by (preflight b words floats) _ (spares_preflight b words floats) (q ∙ ap Err (same_refusal why ShortSheet 0 k e)) in
    let h₂ = passed_by (Judging.wanted Unsettled (types_of h₁.0)) _ (by-wanted not13 Unsettled (types_of h₁.0) (unlike Unsettled ShortSheet tt)) h₁.2 in
    let g : Given = record { elements = given h₁.0.abs h₂.0; types = element_types h₁.0.abs h₂.0 } in
    let h₃ = passed_by (Ok g) _ tt h₂.2 in
    let l = h₃.0 in
    let t = test_failed ShortSheet (leb (length l.elements) (length old.elements)) (leb (4 * length l.types) (length old.types)) l h₃.2 in
    record {
      out = l;
      settled = record { solid = h₁.0; result = h₂.0; read = h₁.1; ended = wanted_some Unsettled (types_of h₁.0) h₂.0 h₂.1; out = sym (same g l h₃.1) };
      count = sym (same_zero why k e);
      exceed = ⊎_elim (λ p. inl (leb-false _ _ p)) (λ p. inr (leb-false _ _ p)) t;
    }
  where
    same_zero : (why : Refusal) (k : ℕ) → refused_with why 0 ≡ refused_with ShortSheet k → ◌≡◌ {A = ℕ} 0 k
    same_zero why k e = ap answer_count e

types_lengths : (b : List ℕ) (words floats : ℕ) (old : TypesOut) (o : Judged Given) → types_given b words floats (length old.elements) (length old.types) ≡ o
    → SameLength old.elements (types_written o old).1.elements × SameLength old.types (types_written o old).1.types
unfolding types_written
types_lengths b words floats old (Err why) q = (refl, refl)
types_lengths b words floats old (Ok g) q =
    let h = behind b words floats (length old.elements) (length old.types) g q in
    (written-length g.elements old.elements h.elements, written-length (join (map type_cells g.types)) old.types (rw (type_cells_lem g.types) h.types))

pub call_laws : CallLaws
unfolding search_call rotations_call types_call
call_laws = record {
  searches = search_laws members_in members-shaped spares_members;
  rotations = search_laws rotations_in rotations-shaped spares_rotations;
  types-done = λ b words floats old n e. types-done b words floats old _ refl n e;
  types_short = λ b words floats old k e. types_short b words floats old _ refl k e;
  types = λ b words floats old why k e. types-out (types_given b words floats (length old.elements) (length old.types)) old why k e;
  lengths = λ b words floats old. types_lengths b words floats old (types_given b words floats (length old.elements) (length old.types)) refl;
}

-- ---- copying

-- The refusal is one of those that copying judges before 13 and 14.
abbrev Early : Refusal → Type 0
Early why = (why ≢ ShortSheet) × (why ≢ Open)

module _ (d : ℕ) (ps ts : List Float) where
  early_copy : Refuses Early (judge_copy d ps ts)
  unfolding judge_copy
  early_copy =
      by-then Early _ _ (by-judge Early Format _ (unlike Format ShortSheet tt, unlike Format Open tt))
      (by-then Early _ _ (by-judge Early CutSheet _ (unlike CutSheet ShortSheet tt, unlike CutSheet Open tt))
      (by-then Early _ _ (by-judge Early OffTheBoard _ (unlike OffTheBoard ShortSheet tt, unlike OffTheBoard Open tt))
      (by-judge Early Blank _ (unlike Blank ShortSheet tt, unlike Blank Open tt))))

  -- A call that is not refused before 13 has at least one dimension and at least one copy.
  judged : (u : Unit {0}) → judge_copy d ps ts ≡ Ok u → (0 < d) × (0 < length (copies (matrices d ts) (points d ps)))
  unfolding judge_copy
  judged u e =
      let h₁ = then_to (Judging.judge Format (leb 1 d && leb d max_dimension)) _ u e in
      let h₂ = then_to (Judging.judge CutSheet (eqb (length ps % d) 0 && eqb (length ts % (d * d)) 0)) _ u h₁.2 in
      let h₃ = then_to (Judging.judge OffTheBoard (every in_range ps && every in_range ts)) _ u h₂.2 in
      let dims = both (leb 1 d) (leb d max_dimension) (tested Format _ _ h₁.1) in
      let cut = both (eqb (length ps % d) 0) (eqb (length ts % (d * d)) 0) (tested CutSheet _ _ h₂.1) in
      let full = both (ltb 0 (length ps)) (ltb 0 (length ts)) (tested Blank _ u h₃.2) in (
        le_test 1 d dims.0,
        some_copy d ps ts (lt_test 0 (length ps) full.0) (numbers.sound (length ps % d) 0 cut.0) (lt_test 0 (length ts) full.1) (numbers.sound (length ts % (d * d)) 0 cut.1),
      )

-- In l cells there is room for n points of d floats each, 2,048 at most, and for no more.
record PointsFit (n d l : ℕ) : Type 0 where
  limit : n ≤ max_count
  cells : n * d ≤ l
  most : (n ≡ max_count) ⊎ (l < suc n * d)

module _ (d : ℕ) (ms : List Matrix) (cs : List Vector) (out_points : List Float) (out_table : List ℕ) where
  abbrev All : ℕ → List Float → List ℕ → Type 0
  All = AllCopies d ms cs out_points out_table

  abbrev FirstKept : ℕ → List Float → List ℕ → Type 0
  FirstKept = FirstCopies d ms cs out_points out_table

  abbrev Unclosed : ℕ → List Float → List ℕ → Type 0
  Unclosed = OpenCopies d ms cs out_points out_table

  -- A call with the copies cs under the matrices ms ends in one of these ways, which say what it answers, and what it leaves in the outputs.
  data Ends : Answer × List Float × List ℕ → Type 0 where
    before : (why : Refusal) → Early why → Ends (refused_with why 0, out_points, out_table)
    short : (k : ℕ) (p : List Float) (t : List ℕ) → FirstKept k p t → Ends (refused_with ShortSheet k, p, t)
    unclosed : (k : ℕ) (p : List Float) (t : List ℕ) → Unclosed k p t → Ends (refused_with Open k, p, t)
    whole : (n : ℕ) (p : List Float) (t : List ℕ) → All n p t → Ends (Ok n, p, t)

  ends : (n : ℕ) → PointsFit n d (length out_points) → 0 < length cs → Ends (copy_out n ms cs out_points out_table)
  unfolding copy_out
  ends n f s = go (leb (length cs) n) refl (leb cells (length out_table)) refl (holds eqb (length cs) (copy_table ms cs)) refl
    where
      cells : ℕ
      cells = length ms * length cs

      fits : length cs ≤ n → length cs * d ≤ length out_points
      fits h = le_trans (mul-le-mul_right d h) f.cells

      go : (a : Bool) → leb (length cs) n ≡ a → (b : Bool) → leb cells (length out_table) ≡ b → (c : Bool) → holds eqb (length cs) (copy_table ms cs) ≡ c → Ends (elim (a && b) [
        | false ↦ (refused_with ShortSheet (length (take n cs)), written (join (take n cs)) out_points, out_table)
        | true ↦ elim c [
          | true ↦ (refused_with Open (length (take n cs)), written (join (take n cs)) out_points, written (replicate cells no_image) out_table)
          | false ↦ (Ok (length cs), written (join (take n cs)) out_points, written (copy_table ms cs) out_table)
        ]
      ])
      go false p b q c r =
          let more : n < length cs = nleb→lt (length cs) n (rw p tt) in
          rw (length-take-le n cs (omega arith)) (short n _ _ (record {
            among = omega arith;
            limit = f.limit;
            points_fit = f.cells;
            exceed = ⊎_elim (λ e. inl (more, e)) (λ l. inr (inl (more, l))) f.most;
            points = refl;
            table = refl;
          }))
      go true p false q c r =
          let all = le_test (length cs) n p in
          rw (take_all n cs all) (short (length cs) (written (join cs) out_points) out_table (record {
            among = omega arith;
            limit = le_trans all f.limit;
            points_fit = fits all;
            exceed = inr (inr (refl, nleb→lt cells (length out_table) (rw q tt)));
            points = rw take-length;
            table = refl;
          }))
      go true p true q true r =
          let all = le_test (length cs) n p in
          rw (take_all n cs all) (unclosed (length cs) _ _ (record {
            count = refl;
            limit = le_trans all f.limit;
            points_fit = fits all;
            table_fit = le_test cells (length out_table) q;
            points = refl;
            table = refl;
            missing = open_table ms cs r;
          }))
      go true p true q false r =
          let all = le_test (length cs) n p in
          rw (take_all n cs all) (whole (length cs) _ _ (record {
            count = refl;
            some_copy = s;
            limit = le_trans all f.limit;
            points_fit = fits all;
            table_fit = le_test cells (length out_table) q;
            points = refl;
            table = refl;
            closed = closed_table ms cs r;
          }))

  ends-done : (o : Answer × List Float × List ℕ) → Ends o → (n : ℕ) → o.0 ≡ Ok n → All n o.1 o.2
  ends-done o (before why h) n e = absurd (apart why 0 n e)
  ends-done o (short k p t h) n e = absurd (apart ShortSheet k n e)
  ends-done o (unclosed k p t h) n e = absurd (apart Open k n e)
  ends-done o (whole k p t h) n e = subst (λ (i : ℕ). All i p t) (counted k n e) h

  ends_short : (o : Answer × List Float × List ℕ) → Ends o → (k : ℕ) → o.0 ≡ refused_with ShortSheet k → FirstKept k o.1 o.2
  ends_short o (before why h) k e = absurd (h.0 (same_refusal why ShortSheet 0 k e))
  ends_short o (short n p t h) k e = subst (λ (i : ℕ). FirstKept i p t) (same_count ShortSheet n k e) h
  ends_short o (unclosed n p t h) k e = absurd (open_short n k e)
  ends_short o (whole n p t h) k e = absurd (apart ShortSheet k n (sym e))

  ends_unclosed : (o : Answer × List Float × List ℕ) → Ends o → (k : ℕ) → o.0 ≡ refused_with Open k → Unclosed k o.1 o.2
  ends_unclosed o (before why h) k e = absurd (h.1 (same_refusal why Open 0 k e))
  ends_unclosed o (short n p t h) k e = absurd (open_short k n (sym e))
  ends_unclosed o (unclosed n p t h) k e = subst (λ (i : ℕ). Unclosed i p t) (same_count Open n k e) h
  ends_unclosed o (whole n p t h) k e = absurd (apart Open k n (sym e))

  ends_untouched : (o : Answer × List Float × List ℕ) → Ends o → (why : Refusal) (k : ℕ) → o.0 ≡ refused_with why k → why ≢ ShortSheet → why ≢ Open → (o.1 ≡ out_points) × (o.2 ≡ out_table)
  ends_untouched o (before w h) why k e s u = (refl, refl)
  ends_untouched o (short n p t h) why k e s u = absurd (s (sym (same_refusal ShortSheet why n k e)))
  ends_untouched o (unclosed n p t h) why k e s u = absurd (u (sym (same_refusal Open why n k e)))
  ends_untouched o (whole n p t h) why k e s u = absurd (apart why k n (sym e))

  all-length : Wide d cs → (n : ℕ) → n ≡ length cs → n * d ≤ length out_points → SameLength out_points (written (join cs) out_points)
  all-length w n q h = written-length (join cs) out_points (rw (wide-join d cs w, ← q) h)

  ends_lengths : Wide d cs → (o : Answer × List Float × List ℕ) → Ends o → SameLength out_points o.1 × SameLength out_table o.2
  ends_lengths w o (before why h) = (refl, refl)
  ends_lengths w o (short k p t h) = (
    rw h.points (written-length (join (take k cs)) out_points (kept_fit k d (length out_points) cs w h.points_fit)),
    ap length h.table,
  )
  ends_lengths w o (unclosed k p t h) = (
    rw h.points (all-length w k h.count h.points_fit),
    rw h.table (written-length (replicate (length ms * k) no_image) out_table (rw length-replicate h.table_fit)),
  )
  ends_lengths w o (whole n p t h) = (
    rw h.points (all-length w n h.count h.points_fit),
    rw h.table (written-length (copy_table ms cs) out_table (rw (table_length, ← h.count) h.table_fit)),
  )

-- A number above the lesser of two numbers is above one of them.
over-min : (a b c : ℕ) → min a b < c → (a < c) ⊎ (b < c)
over-min a b c h = go (dec_lt a c)
  where
    go : Dec (a < c) → (a < c) ⊎ (b < c)
    go (yes p) = inl p
    go (no n) = inr (omega arith)

-- Where a is one of two values, chosen by a judgement, what holds of both holds of a.
either : {A : Type 0} (P : A → Type 0) (j : Judged (Unit {0})) (f : Refusal → A) (x a : A) → a ≡ elim j [ Err why ↦ f why | Ok u ↦ x ]
    → ((why : Refusal) → j ≡ Err why → P (f why)) → ((u : Unit {0}) → j ≡ Ok u → P x) → P a
either P (Err why) f x a q g h = rw q (g why refl)
either P (Ok u) f x a q g h = rw q (h u refl)

call_ends : (d : ℕ) (ps ts out_points : List Float) (out_table : List ℕ)
    → Ends d (matrices d ts) (copies (matrices d ts) (points d ps)) out_points out_table (copy_call d ps ts out_points out_table)
unfolding copy_call
call_ends d ps ts out_points out_table =
    either (Ends d (matrices d ts) (copies (matrices d ts) (points d ps)) out_points out_table) (judge_copy d ps ts) _ _ (copy_call d ps ts out_points out_table) refl
    (λ why q. before why (rw q at (early_copy d ps ts)))
    (λ u q.
    let k = judged d ps ts u q in
    ends d (matrices d ts) (copies (matrices d ts) (points d ps)) out_points out_table _ (record {
      limit = omega arith;
      cells = le_trans (mul-le-mul_right d (omega arith)) (div-mul-le_self (length out_points) d);
      most = ⊎_elim (λ p. inl (omega arith)) (λ p. inr ((div-lt_iff_lt-mul k.0).0 p)) (over-min max_count (length out_points / d) (suc (min max_count (length out_points / d))) (omega arith));
    }) k.1)

pub every-copy-call : EveryCopyCall
every-copy-call d ps ts out_points out_table =
    let ms = matrices d ts in
    let cs = copies ms (points d ps) in
    let e = call_ends d ps ts out_points out_table in
    record {
      done = ends-done d ms cs out_points out_table _ e;
      short = ends_short d ms cs out_points out_table _ e;
      unclosed = ends_unclosed d ms cs out_points out_table _ e;
      untouched = ends_untouched d ms cs out_points out_table _ e;
      lengths = ends_lengths d ms cs out_points out_table (all-wide d ps ts) _ e;
    }
