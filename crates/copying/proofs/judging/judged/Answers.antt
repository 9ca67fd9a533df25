-- The tests come in the order of the judgements.
-- Assumes nothing.
use Rattle.std.specs.Prelude.{Ok}
use mathlib.Core.Path.{◌≡◌, sym, ◌∙◌}
use Prim.Native.Nat.{ℕ, ◌*◌, ◌%◌, ◌<◌}
use native.Mathlib.Omega.{arith}
use lib.ListN.{length}
use lib.Dec.{eqb, leb, ltb}
use borrow.Author.Tests.{lt-leb, le-leb, eq-eqb, ne_eqb, lt-ltb, le-ltb}
use Rattle.spec.specs.declared.Refusal.TheVariants.{CutSheet, Format, OffTheBoard, Blank}
use Rattle.spec.specs.Limits.{max_dimension}
use Rattle.spec.specs.Lists.{every}
use Rattle.spec.specs.Float.{in_range}
use Rattle.spec.specs.Copying.{judge_copy}
use Rattle.copying.proofs.Judgements.{first_fails, second_fails, both_pass, blank, off_the_board, cut_sheet, judgements}
use Rattle.copying.proofs.judging.judged.Goals.{Else-d-gt-DIMENSION, Else-not-all_in_range-2, Else-turns-d-ne0}
use Rattle.copying.proofs.judging.judged.Goals as goal

above : (n : ℕ) → (n ≡ 0 → ⊥) → 0 < n
above n h = omega arith

-- Where the tests so far passed, what is left to judge gives the whole judgement.
upto2 : (c : Else-d-gt-DIMENSION) → (let a = c.args in cut_sheet a.d a.from.now a.turns.now ≡ judge_copy a.d a.from.now a.turns.now)
upto2 c =
    let a = c.args in
    both_pass Format (leb 1 a.d) (leb a.d max_dimension) (cut_sheet a.d a.from.now a.turns.now) (le-leb 1 a.d c.if-d-lt1.false) (le-leb a.d max_dimension c.if-d-gt-DIMENSION.false)
    ∙ sym (judgements a.d a.from.now a.turns.now)

upto4 : (c : Else-turns-d-ne0) →
    (let a = c.args in
    off_the_board a.d a.from.now a.turns.now ≡ judge_copy a.d a.from.now a.turns.now)
upto4 c =
    let a = c.args in
    both_pass CutSheet (eqb (length a.from.now % a.d) 0) (eqb (length a.turns.now % (a.d * a.d)) 0) (off_the_board a.d a.from.now a.turns.now) (eq-eqb _ _ c.if-from-d-ne0.false) (eq-eqb _ _ c.if-turns-d-ne0.false)
    ∙ (let a = c.args in
    both_pass Format (leb 1 a.d) (leb a.d max_dimension) (cut_sheet a.d a.from.now a.turns.now) (le-leb 1 a.d c.if-d-lt1.false) (le-leb a.d max_dimension c.if-d-gt-DIMENSION.false)
    ∙ sym (judgements a.d a.from.now a.turns.now))

upto6 : (c : Else-not-all_in_range-2) →
    (let a = c.args in
    blank a.d a.from.now a.turns.now ≡ judge_copy a.d a.from.now a.turns.now)
upto6 c =
    let a = c.args in
    both_pass OffTheBoard (every in_range a.from.now) (every in_range a.turns.now) (blank a.d a.from.now a.turns.now) (sym c.all_in_range.ensures ∙ c.if-not-all_in_range.false) (sym c.all_in_range-2.ensures ∙ c.if-not-all_in_range-2.false)
    ∙ (let a = c.args in
    both_pass CutSheet (eqb (length a.from.now % a.d) 0) (eqb (length a.turns.now % (a.d * a.d)) 0) (off_the_board a.d a.from.now a.turns.now) (eq-eqb _ _ c.if-from-d-ne0.false) (eq-eqb _ _ c.if-turns-d-ne0.false)
    ∙ (let a = c.args in
    both_pass Format (leb 1 a.d) (leb a.d max_dimension) (cut_sheet a.d a.from.now a.turns.now) (le-leb 1 a.d c.if-d-lt1.false) (le-leb a.d max_dimension c.if-d-gt-DIMENSION.false)
    ∙ sym (judgements a.d a.from.now a.turns.now)))

pub returns-then-d-lt1 : goal.returns-then-d-lt1
returns-then-d-lt1 c =
    let a = c.args in
    first_fails Format (leb 1 a.d) (leb a.d max_dimension) (cut_sheet a.d a.from.now a.turns.now) (lt-leb 1 a.d c.if-d-lt1.true)
    ∙ sym (judgements a.d a.from.now a.turns.now)

pub returns-then-d-gt-DIMENSION : goal.returns-then-d-gt-DIMENSION
returns-then-d-gt-DIMENSION c =
    let a = c.args in
    second_fails Format (leb 1 a.d) (leb a.d max_dimension) (cut_sheet a.d a.from.now a.turns.now) (le-leb 1 a.d c.if-d-lt1.false) (lt-leb a.d max_dimension c.if-d-gt-DIMENSION.true)
    ∙ sym (judgements a.d a.from.now a.turns.now)

pub returns-then-from-d-ne0 : goal.returns-then-from-d-ne0
returns-then-from-d-ne0 c =
    let a = c.args in
    first_fails CutSheet (eqb (length a.from.now % a.d) 0) (eqb (length a.turns.now % (a.d * a.d)) 0) (off_the_board a.d a.from.now a.turns.now) (ne_eqb _ _ c.if-from-d-ne0.true)
    ∙ upto2 (goal.at.returns-then-from-d-ne0 c).Else-d-gt-DIMENSION

pub returns-then-turns-d-ne0 : goal.returns-then-turns-d-ne0
returns-then-turns-d-ne0 c =
    let a = c.args in
    second_fails CutSheet (eqb (length a.from.now % a.d) 0) (eqb (length a.turns.now % (a.d * a.d)) 0) (off_the_board a.d a.from.now a.turns.now) (eq-eqb _ _ c.if-from-d-ne0.false) (ne_eqb _ _ c.if-turns-d-ne0.true)
    ∙ upto2 (goal.at.returns-then-turns-d-ne0 c).Else-d-gt-DIMENSION

pub returns-then-not-all_in_range : goal.returns-then-not-all_in_range
returns-then-not-all_in_range c =
    let a = c.args in
    first_fails OffTheBoard (every in_range a.from.now) (every in_range a.turns.now) (blank a.d a.from.now a.turns.now) (sym c.all_in_range.ensures ∙ c.if-not-all_in_range.true)
    ∙ upto4 (goal.at.returns-then-not-all_in_range c).Else-turns-d-ne0

pub returns-then-not-all_in_range-2 : goal.returns-then-not-all_in_range-2
returns-then-not-all_in_range-2 c =
    let a = c.args in
    second_fails OffTheBoard (every in_range a.from.now) (every in_range a.turns.now) (blank a.d a.from.now a.turns.now) (sym c.all_in_range.ensures ∙ c.if-not-all_in_range.false) (sym c.all_in_range-2.ensures ∙ c.if-not-all_in_range-2.true)
    ∙ upto4 (goal.at.returns-then-not-all_in_range-2 c).Else-turns-d-ne0

pub returns-then-from-eq0 : goal.returns-then-from-eq0
returns-then-from-eq0 c =
    let a = c.args in
    first_fails Blank (ltb 0 (length a.from.now)) (ltb 0 (length a.turns.now)) (Ok tt) (le-ltb 0 (length a.from.now) (omega (arith, c.if-from-eq0.true)))
    ∙ upto6 (goal.at.returns-then-from-eq0 c).Else-not-all_in_range-2

pub returns-then-turns-eq0 : goal.returns-then-turns-eq0
returns-then-turns-eq0 c =
    let a = c.args in
    second_fails Blank (ltb 0 (length a.from.now)) (ltb 0 (length a.turns.now)) (Ok tt) (lt-ltb _ _ (above _ c.if-from-eq0.false)) (le-ltb 0 (length a.turns.now) (omega (arith, c.if-turns-eq0.true)))
    ∙ upto6 (goal.at.returns-then-turns-eq0 c).Else-not-all_in_range-2

pub returns : goal.returns
returns c =
    let a = c.args in
    both_pass Blank (ltb 0 (length a.from.now)) (ltb 0 (length a.turns.now)) (Ok tt) (lt-ltb _ _ (above _ c.if-from-eq0.false)) (lt-ltb _ _ (above _ c.if-turns-eq0.false))
    ∙ upto6 (goal.at.returns c).Else-not-all_in_range-2
