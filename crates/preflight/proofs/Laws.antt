-- This file takes preflight step by step: what each refusal leaves of it, what the steps need of the header, and the whole answer.
-- Assumes nothing.
use Rattle.std.specs.Prelude.{Err, Ok}
use mathlib.Core.Path.{◌≡◌, refl, sym, ◌∙◌, ap}
use mathlib.Core.Logic.{inl, inr}
use Prim.Native.Nat.{ℕ, ◌-◌, ◌^◌, ◌≤◌, ◌<◌}
use mathlib.Core.Bool.{Bool, true, false, ◌&&◌}
use mathlib.Core.List.{List, [], ◌∷◌}
use native.Mathlib.Omega.{arith}
use lib.ListN.{length, take, replicate}
use lib.Seq.{take-append_seam, take_at, drop_at}
use lib.Dec.{leb}
use lib.Ieee.{Float}
use Rattle.spec.specs.declared.Refusal.{Refusal}
use Rattle.spec.specs.declared.Refusal.TheVariants.{Loose, Mitre, Bench}
use Rattle.spec.specs.Lists.{In, join, parts}
use Rattle.spec.specs.Types.{Solid, elements}
use Rattle.spec.specs.Judged.{Judged, judge, ◌>>=◌, ◌>>◌}
use Rattle.spec.specs.Sheet.{Parsed, read_sheet}
use Rattle.spec.specs.Solid.{solid_of, entries, roomy, bound, diamond, Concrete, preflight, words_for, floats_for}
use Rattle.laws.specs.Passed.{Passed}
use Rattle.laws.proofs.Accepted.{never, same, every_passed}
use Rattle.sheet.specs.declared.Header.{Header}
use Rattle.sheet.specs.Judge.{proper, padded, map_ok, header_of}
use Rattle.sheet.proofs.Readers.{refused_of, passed_of}
use Rattle.sheet.proofs.Laws.{elements_is, entries_is, header_small}
use Rattle.ranked.specs.declared.Shape.{Shape}
use Rattle.ranked.specs.Words.{lists_of, abs_in}
use Rattle.ranked.specs.Shapes.{shape_of}
use Rattle.preflight.specs.Store.{parsed_of, said, StoredSheet}
use Rattle.preflight.specs.Preflight.{without_value, checks_of, OnBench, SheetJudged, Preflighted}
use Rattle.ranked.proofs.Solids.{sizes_are}
use Rattle.preflight.proofs.store.Reading.{allowed}
use Rattle.preflight.proofs.store.Whole.{room_in}

-- ---- 5 and 6

module _ (s : Solid) where
  pub loose : bound s ≡ false → Err Loose ≡ checks_of s
  unfolding checks_of judge ◌>>◌
  loose e = rw e

  pub mitred : bound s ≡ true → diamond s ≡ false → Err Mitre ≡ checks_of s
  unfolding checks_of judge ◌>>◌
  mitred e f = rw (e, f)

  pub fine : bound s ≡ true → diamond s ≡ true → Ok tt ≡ checks_of s
  unfolding checks_of judge ◌>>◌
  fine e f = rw (e, f)

-- ---- the steps after the sheet is read

-- Refusals 7, 5 and 6 go by their tests.
after : Concrete → Bool → Bool → Bool → Judged Concrete
after c x y z = judge Bench x >> (judge Loose y >> (judge Mitre z >> Ok c))

after_bench : (c : Concrete) (y z : Bool) → after c false y z ≡ Err Bench
unfolding after judge ◌>>◌
after_bench c y z = refl

after_checks : (c : Concrete) (s : Solid) (y z : Bool) → bound s ≡ y → diamond s ≡ z → without_value (after c true y z) ≡ checks_of s
unfolding after judge ◌>>◌
after_checks c s false z e f = loose s e
after_checks c s true false e f = mitred s e f
after_checks c s true true e f = fine s e f

after_passed : (c d : Concrete) (x y z : Bool) → after c x y z ≡ Ok d → c ≡ d
unfolding after judge ◌>>◌
after_passed c d false y z e = absurd (never Bench d e)
after_passed c d true false z e = absurd (never Loose d e)
after_passed c d true true false e = absurd (never Mitre d e)
after_passed c d true true true e = same c d e

-- ---- points one after another

parts_join : {A : Type 0} (d : ℕ) (ps : List (List A)) → ((x : List A) → In x ps → length x ≡ d) → parts (length ps) d (join ps) ≡ ps
unfolding parts join
parts_join d [] e = refl
parts_join d (x ∷ ps) e =
    let l = e x (inl refl) in
    rw (take_at x (join ps) d l, drop_at x (join ps) d l, parts_join d ps (λ y m. e y (inr m)))

-- ---- the whole

module _ (b : List ℕ) (n m : ℕ) where
  stopped : (why : Refusal) → read_sheet b ≡ Err why → preflight b n m ≡ Err why
  unfolding preflight ◌>>=◌
  stopped why e = rw e

  module _ (p : Parsed) (e : read_sheet b ≡ Ok p) where
    went_on : preflight b n m ≡ after (said p) (roomy (solid_of p) n m) (bound (solid_of p)) (diamond (solid_of p))
    unfolding preflight ◌>>=◌ after
    went_on = rw e

    pub cramped : roomy (solid_of p) n m ≡ false → preflight b n m ≡ Err Bench
    cramped q = went_on ∙ rw q (after_bench (said p) (bound (solid_of p)) (diamond (solid_of p)))

    judged : roomy (solid_of p) n m ≡ true → without_value (preflight b n m) ≡ checks_of (solid_of p)
    judged q = rw (went_on, q) (after_checks (said p) (solid_of p) (bound (solid_of p)) (diamond (solid_of p)) refl refl)

    accepted : (c : Concrete) → preflight b n m ≡ Ok c → said p ≡ c
    accepted c q = after_passed (said p) c (roomy (solid_of p) n m) (bound (solid_of p)) (diamond (solid_of p)) (sym went_on ∙ q)

-- ---- what a read sheet's header says

module _ (b : List ℕ) (p : Parsed) (e : read_sheet b ≡ Ok p) where
  pub parsed_is : p ≡ parsed_of b
  unfolding parsed_of
  parsed_is = rw (e, parsed_of)

  module _ (h : Header) (eh : h ≡ header_of p) where
    pub header_fits : (h.elements < 2 ^ 32) × (h.entries < 2 ^ 32)
    header_fits = rw eh (let s = header_small b p e in (omega (arith, s.elements), omega (arith, s.entries)))

    pub room_is : (n m : ℕ) → leb (words_for h.elements h.entries) n && leb (floats_for h.elements) m ≡ roomy (solid_of p) n m
    unfolding roomy
    room_is n m = rw (eh, ← elements_is b p e, ← entries_is b p e)

    pub header_said : (h.rank ≡ p.rank) × (h.dimension ≡ p.dimension) × (take (h.rank - 1) h.counts ≡ p.counts) × (h.entries ≡ entries (solid_of p))
    unfolding header_of padded
    header_said =
        rw eh (refl, refl, rw (← (allowed b p e).counted) (take-append_seam p.counts (replicate (proper - length p.counts) 0)), sym (entries_is b p e))

-- ---- the whole answer

refused_alike : {A : Type 0} {x y : Refusal} → ◌≡◌ {A = Judged A} (Err x) (Err y) → x ≡ y
refused_alike e = cc

module _ (b : List ℕ) (n m : ℕ) (r : Judged Shape) (ws : List ℕ) (fs : List Float) (same-words : length ws ≡ n) (same-floats : length fs ≡ m) where
  -- A refusal is the whole answer.
  refusal : {why : Refusal} → preflight b n m ≡ Err why → r ≡ Err why → Preflighted b n m r ws fs
  refusal {why} e v = record {
    answer = v ∙ rw e;
    lengths = (same-words, same-floats);
    placed = λ c sh q. absurd (never why c (sym e ∙ q));
  }

  -- Refusals 1 to 4 come from reading the sheet.
  pub unread : {why : Refusal} → read_sheet b ≡ Err why → r ≡ Err why → Preflighted b n m r ws fs
  unread {why} e v = refusal (stopped b n m why e) v

  module _ (p : Parsed) (e : read_sheet b ≡ Ok p) (h : Header) (eh : h ≡ header_of p) (t : Bool)
      (et : t ≡ (leb (words_for h.elements h.entries) n && leb (floats_for h.elements) m)) where
    room : t ≡ roomy (solid_of p) n m
    room = et ∙ room_is b p e h eh n m

    -- Refusal 7 comes where there is too little room.
    pub cramped_in : t ≡ false → r ≡ Err Bench → Preflighted b n m r ws fs
    cramped_in q v = refusal (cramped b n m p e (sym room ∙ q)) v

    -- Refusals 5 and 6, or none, come from judging the stored solid.
    pub settled_in : t ≡ true → SheetJudged (parsed_of b) r ws fs → Preflighted b n m r ws fs
    settled_in q z = from (rw (← parsed_is b p e) at z)
      where
        place : Passed b (said p) → {sh : Shape} → StoredSheet p sh ws fs → OnBench (said p) sh ws fs
        place v {sh} k = record {
          bench = record {
            held = k.held;
            low_is = rw here k.low;
            words_in = k.words_in;
            stored = k.stored;
            subs_alone = rw here k.subs_alone;
            joined = rw here v.joined;
            diamonds = rw here v.diamonds;
            words = rw (here, same-words) space.0;
            floats = rw (here, same-floats) space.1;
          };
          is = rw (← sizes_are sh (lists_of sh ws) k.held 1, here, k.dimension, k.points, ← v.points) (ap (λ (x : List (List Float)). record { dimension = p.dimension; points = x; abs = solid_of p }) (parts_join p.dimension p.points (λ x k. (v.coordinates x k).0)));
        }
          where
            here : abs_in sh (lists_of sh ws) ≡ solid_of p
            here = k.solid

            space : (words_for (elements (solid_of p)) (entries (solid_of p)) ≤ n) × (floats_for (elements (solid_of p)) ≤ m)
            space = room_in (solid_of p) n m (sym room ∙ q)

        from : SheetJudged p r ws fs → Preflighted b n m r ws fs
        from z = record {
          answer = go r (preflight b n m) refl refl;
          lengths = (same-words, same-floats);
          placed = λ c sh k l.
              rw (← accepted b n m p e c k) (place (rw (← accepted b n m p e c k) at (every_passed b n m c k)) (z.kept sh l));
        }
          where
            checks : without_value r ≡ without_value (preflight b n m)
            checks = z.verdict ∙ sym (judged b n m p e (sym room ∙ q))

            go : (u : Judged Shape) (o : Judged Concrete) → r ≡ u → preflight b n m ≡ o → r ≡ map_ok shape_of o
            go (Err why) (Err other) x y = x ∙ ap Err (refused_alike (sym (ap without_value x) ∙ checks ∙ ap without_value y))
            go (Err why) (Ok c) x y = absurd (never why tt (sym (ap without_value x) ∙ checks ∙ ap without_value y))
            go (Ok sh) (Err why) x y = absurd (never why tt (sym (ap without_value y) ∙ sym checks ∙ ap without_value x))
            go (Ok sh) (Ok c) x y = x ∙ ap Ok (rw (← accepted b n m p e c y) (z.kept sh x).shape)

-- ---- for the callers

module _ {b : List ℕ} {n m : ℕ} {r : Judged Shape} {ws : List ℕ} {fs : List Float} (p : Preflighted b n m r ws fs) where
  pub refused_by : {why : Refusal} → r ≡ Err why → preflight b n m ≡ Err why
  refused_by e = refused_of shape_of (preflight b n m) (sym e ∙ p.answer)

  pub passed_by : {sh : Shape} → r ≡ Ok sh → (c : Concrete) × (preflight b n m ≡ Ok c) × OnBench c sh ws fs
  passed_by {sh} e = let x = passed_of shape_of (preflight b n m) (sym e ∙ p.answer) in (x.0, x.1, p.placed x.0 sh x.1 e)

-- Storing asks for this.
pub asked : (b : List ℕ) (n m : ℕ) (p : Parsed) (e : read_sheet b ≡ Ok p) (h : Header) (eh : h ≡ header_of p) (t : Bool)
    → t ≡ (leb (words_for h.elements h.entries) n && leb (floats_for h.elements) m) → t ≡ true
    → (read_sheet b ≡ Ok (parsed_of b)) × ((h ≡ header_of (parsed_of b)) × (roomy (solid_of (parsed_of b)) n m ≡ true))
asked b n m p e h eh t et q = rw (← parsed_is b p e) (e, (eh, sym (room_is b p e h eh n m) ∙ sym et ∙ q))
