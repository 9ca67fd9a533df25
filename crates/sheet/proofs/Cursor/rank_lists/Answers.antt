use Rattle.std.specs.Prelude.{Ok}
use mathlib.Core.Path.{◌≡◌, ◌∙◌}
use native.Mathlib.Omega.{arith}
use lib.ListN.{length}
use Rattle.spec.specs.Sheet.{list}
use Rattle.sheet.specs.Reading.{kept}
use Rattle.sheet.proofs.Readers.{stopped_by}
use Rattle.sheet.proofs.Turns.{refuses, rank_refuses, rank-goes_on, rank-ends, list-fits}
use Rattle.sheet.proofs.Cursor.rank_lists.Goals.{In_ok-used}
use Rattle.sheet.proofs.Cursor.rank_lists.Goals as goal

-- The list was read.
read : (c : In_ok-used) → Ok (c.in_ok-used.field-0, c.list.new.self.at) ≡ kept length (list c.args.self.now.sheet.now c.args.below c.loop.used) c.loop.self.at
read c = rw c.loop.invariant.sheet at c.in_ok-used.ensures.value

pub returns-in_err-used : goal.returns-in_err-used
returns-in_err-used c =
    let a = c.args in
    let l = c.loop in
    refuses (stopped_by c.from_residual.result c.from_residual.ensures.1)
    (rank_refuses a.self.now.sheet.now a.below a.n l.counter l.used l.self.at l.invariant.left c.loop-test.true (rw l.invariant.sheet at c.in_err-used.ensures.value))
    (c.list.ensures.sheet ∙ l.invariant.sheet)

pub overflow_add-used : goal.overflow_add-used
overflow_add-used c = let a = c.args in let l = c.loop in omega (arith, (list-fits a.self.now.sheet.now a.below l.used l.self.at (read c)).0)

pub loop-preserved : goal.loop-preserved
loop-preserved c =
    let a = c.args in
    let l = c.loop in
    let e = read (goal.at.loop-preserved c).In_ok-used in
    let f = list-fits a.self.now.sheet.now a.below l.used l.self.at e in
    record {
      sheet = c.list.ensures.sheet ∙ l.invariant.sheet;
      few = f.0;
      at = omega (arith, f.1);
      left = rank-goes_on a.self.now.sheet.now a.below a.n l.counter l.used l.self.at l.invariant.left c.loop-test.true e;
    }

pub returns : goal.returns
returns c =
    let a = c.args in
    let l = c.loop in
    record {
      value = rank-ends a.self.now.sheet.now a.below a.n l.counter l.used l.self.at l.invariant.left c.loop-test.false;
      sheet = l.invariant.sheet;
    }
