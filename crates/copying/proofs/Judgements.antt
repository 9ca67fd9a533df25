-- This file takes the judgement of points and matrices test by test: which test fails first, and what holds where none does.
-- Assumes nothing.
use Rattle.std.specs.Prelude.{Err, Ok}
use mathlib.Core.Path.{◌≡◌, refl, ◌∙◌}
use mathlib.Core.Bool.{Bool, true, false, ◌&&◌}
use mathlib.Core.List.{List}
use Prim.Native.Nat.{ℕ, ◌*◌, ◌%◌, ◌≤◌, ◌<◌}
use native.Mathlib.Omega.{arith}
use lib.ListN.{length}
use lib.Dec.{eqb, leb, ltb}
use lib.Ieee.{Float}
use borrow.Author.Tests.{leb-true, eqb-true, ltb-true}
use Rattle.spec.specs.declared.Refusal.{Refusal}
use Rattle.spec.specs.declared.Refusal.TheVariants.{CutSheet, Format, OffTheBoard, Blank}
use Rattle.spec.specs.Limits.{max_dimension}
use Rattle.spec.specs.Lists.{every}
use Rattle.spec.specs.Float.{in_range}
use Rattle.spec.specs.Judged.{Judged, ◌>>◌, judge}
use Rattle.spec.specs.Copying.{judge_copy}

-- ---- one judgement of two tests, and those after it

module _ (why : Refusal) (x y : Bool) (after : Judged (Unit {0})) where
  pub first_fails : x ≡ false → Err why ≡ (judge why (x && y) >> after)
  unfolding judge ◌>>◌
  first_fails e = rw e

  pub second_fails : x ≡ true → y ≡ false → Err why ≡ (judge why (x && y) >> after)
  unfolding judge ◌>>◌
  second_fails e f = rw (e, f)

  pub both_pass : x ≡ true → y ≡ true → after ≡ (judge why (x && y) >> after)
  unfolding judge ◌>>◌
  both_pass e f = rw (e, f)

clash : (why : Refusal) → ◌≡◌ {A = Judged (Unit {0})} (Ok tt) (Err why) → ⊥
clash why e = let z : ◌≡◌ {A = ℕ} 0 1 = cc in omega arith

both_passed : (why : Refusal) (x y : Bool) (after : Judged (Unit {0})) → Ok tt ≡ (judge why (x && y) >> after) → (x ≡ true) × (y ≡ true) × (Ok tt ≡ after)
unfolding judge ◌>>◌
both_passed why true true after e = (refl, refl, e)
both_passed why true false after e = absurd (clash why e)
both_passed why false y after e = absurd (clash why e)

-- ---- the four judgements

module _ (d : ℕ) (ps ts : List Float) where
  abbrev pub blank : Judged (Unit {0})
  blank = judge Blank (ltb 0 (length ps) && ltb 0 (length ts)) >> Ok tt

  abbrev pub off_the_board : Judged (Unit {0})
  off_the_board = judge OffTheBoard (every in_range ps && every in_range ts) >> blank

  abbrev pub cut_sheet : Judged (Unit {0})
  cut_sheet = judge CutSheet (eqb (length ps % d) 0 && eqb (length ts % (d * d)) 0) >> off_the_board

  last : (b : Bool) → judge Blank b ≡ (judge Blank b >> Ok tt)
  unfolding judge ◌>>◌
  last true = refl
  last false = refl

  pub judgements : judge_copy d ps ts ≡ (judge Format (leb 1 d && leb d max_dimension) >> cut_sheet)
  unfolding judge_copy
  judgements = rw (← last (ltb 0 (length ps) && ltb 0 (length ts)))

  -- The copying relies on these facts, which the judgement gives.
  pub record Judgeable : Type 0 where
    pub low : 1 ≤ d
    pub high : d ≤ max_dimension
    pub whole : length ts % (d * d) ≡ 0
    pub some : 0 < length ts

  pub judged_passed : Ok tt ≡ judge_copy d ps ts → Judgeable
  judged_passed e =
      let f = both_passed Format (leb 1 d) (leb d max_dimension) cut_sheet (e ∙ judgements) in
      let g = both_passed CutSheet (eqb (length ps % d) 0) (eqb (length ts % (d * d)) 0) off_the_board f.2 in
      let h = both_passed OffTheBoard (every in_range ps) (every in_range ts) blank g.2 in
      let i = both_passed Blank (ltb 0 (length ps)) (ltb 0 (length ts)) (Ok tt) h.2 in
      record {
        low = leb-true 1 d f.0;
        high = leb-true d max_dimension f.1;
        whole = eqb-true (length ts % (d * d)) 0 g.1;
        some = ltb-true 0 (length ts) i.1;
      }
