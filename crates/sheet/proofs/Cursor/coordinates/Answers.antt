use Rattle.std.specs.Prelude.{Ok}
use mathlib.Core.Path.{◌≡◌, refl, sym, ◌∙◌}
use native.Mathlib.Omega.{arith}
use Rattle.spec.specs.Sheet.{bits, coordinate}
use Rattle.sheet.specs.Reading.{forgotten}
use Rattle.sheet.proofs.Readers.{stopped_by, bits-size, coordinate_cut, coordinate_off, coordinate_on}
use Rattle.sheet.proofs.Turns.{refuses, times_refuses, times-goes_on, times-ends}
use Rattle.sheet.proofs.Cursor.coordinates.Goals.{In_ok-pattern}
use Rattle.sheet.proofs.Cursor.coordinates.Goals as goal

-- The field was read.
read : (c : In_ok-pattern) → bits c.args.self.now.sheet.now 64 c.loop.self.at ≡ Ok (c.in_ok-pattern.pattern, c.bits.new.self.at)
read c = rw c.loop.invariant.sheet at (sym c.in_ok-pattern.ensures.value)

pub returns-in_err-pattern : goal.returns-in_err-pattern
returns-in_err-pattern c =
    let a = c.args in
    let l = c.loop in
    refuses (stopped_by c.from_residual.result c.from_residual.ensures.1)
    (times_refuses (coordinate a.self.now.sheet.now) a.n l.counter l.self.at forgotten l.invariant.left c.loop-test.true
    (coordinate_cut a.self.now.sheet.now l.self.at (rw l.invariant.sheet at (sym c.in_err-pattern.ensures.value))))
    (c.bits.ensures.sheet ∙ l.invariant.sheet)

pub returns-then-not-on_board : goal.returns-then-not-on_board
returns-then-not-on_board c =
    let a = c.args in
    let l = c.loop in
    refuses refl
    (times_refuses (coordinate a.self.now.sheet.now) a.n l.counter l.self.at forgotten l.invariant.left c.loop-test.true
    (coordinate_off a.self.now.sheet.now l.self.at (read (goal.at.returns-then-not-on_board c).In_ok-pattern) (sym c.if-not-on_board.ensures)))
    (c.bits.ensures.sheet ∙ l.invariant.sheet)

pub loop-preserved : goal.loop-preserved
loop-preserved c =
    let a = c.args in
    let l = c.loop in
    let e = read (goal.at.loop-preserved c).In_ok-pattern in
    record {
      sheet = c.bits.ensures.sheet ∙ l.invariant.sheet;
      at = omega (arith, bits-size a.self.now.sheet.now 64 l.self.at _ e);
      left = times-goes_on (coordinate a.self.now.sheet.now) a.n l.counter l.self.at forgotten l.invariant.left c.loop-test.true
          (coordinate_on a.self.now.sheet.now l.self.at e (sym c.if-not-on_board.ensures)) forgotten (λ y. refl);
    }

pub returns : goal.returns
returns c =
    let a = c.args in
    let l = c.loop in
    record {
      value = times-ends (coordinate a.self.now.sheet.now) a.n l.counter l.self.at forgotten l.invariant.left c.loop-test.false;
      sheet = l.invariant.sheet;
    }
