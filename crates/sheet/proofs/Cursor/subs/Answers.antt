use Rattle.std.specs.Prelude.{Ok}
use mathlib.Core.Path.{◌≡◌, refl, sym, ◌∙◌}
use mathlib.Core.Logic.{inl, inr}
use native.Mathlib.Omega.{arith}
use Rattle.spec.specs.Sheet.{bits}
use Rattle.sheet.proofs.Readers.{stopped_by, bits-size}
use Rattle.sheet.proofs.Turns.{refuses, subs_cut, subs_bad, subs_go_on, subs-end}
use Rattle.sheet.proofs.Cursor.subs.Goals.{In_ok-x, then-x-below-via-then-x-below, then-x-below-via-else-x-below+then-x-low}
use Rattle.sheet.proofs.Cursor.subs.Goals as goal

-- The field was read.
read : (c : In_ok-x) → bits c.args.self.now.sheet.now 11 c.loop.self.at ≡ Ok (c.in_ok-x.x, c.bits.new.self.at)
read c = rw c.loop.invariant.sheet at (sym c.in_ok-x.ensures.value)

pub returns-in_err-x : goal.returns-in_err-x
returns-in_err-x c =
    let a = c.args in
    let l = c.loop in
    refuses (stopped_by c.from_residual.result c.from_residual.ensures.1)
    (subs_cut a.self.now.sheet.now a.below a.n l.counter l.low l.self.at l.invariant.left c.loop-test.true (rw l.invariant.sheet at (sym c.in_err-x.ensures.value)))
    (c.bits.ensures.sheet ∙ l.invariant.sheet)

pub returns-then-x-below : goal.returns-then-x-below
returns-then-x-below c =
    let a = c.args in
    let l = c.loop in
    refuses refl
    (subs_bad a.self.now.sheet.now a.below a.n l.counter l.low l.self.at l.invariant.left c.loop-test.true (read (goal.at.returns-then-x-below c).In_ok-x)
    (elim c.then-x-below.branch [ then-x-below-via-then-x-below w ↦ inl w.if-x-below.true | then-x-below-via-else-x-below+then-x-low w ↦ inr w.if-x-low.true ]))
    (c.bits.ensures.sheet ∙ l.invariant.sheet)

pub loop-preserved : goal.loop-preserved
loop-preserved c =
    let a = c.args in
    let l = c.loop in
    let e = read (goal.at.loop-preserved c).In_ok-x in
    record {
      sheet = c.bits.ensures.sheet ∙ l.invariant.sheet;
      at = omega (arith, bits-size a.self.now.sheet.now 11 l.self.at _ e);
      left = subs_go_on a.self.now.sheet.now a.below a.n l.counter l.low l.self.at l.invariant.left c.loop-test.true e c.if-x-below.false c.if-x-low.false;
    }

pub returns : goal.returns
returns c =
    let a = c.args in
    let l = c.loop in
    record {
      value = subs-end a.self.now.sheet.now a.below a.n l.counter l.low l.self.at l.invariant.left c.loop-test.false;
      sheet = l.invariant.sheet;
    }
