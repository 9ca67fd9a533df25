use Rattle.std.specs.Prelude.{Ok}
use mathlib.Core.Path.{◌≡◌, ◌∙◌}
use Prim.Native.Nat.{◌-◌}
use native.Mathlib.Omega.{arith}
use lib.ListN.{get_or}
use Rattle.spec.specs.Sheet.{lists_at}
use Rattle.sheet.specs.Judge.{rank_entries}
use Rattle.sheet.specs.Reading.{kept}
use Rattle.sheet.proofs.Readers.{stopped_by}
use Rattle.sheet.proofs.Turns.{refuses, ranks_refuse, ranks_go_on, ranks-end, rank-fits}
use Rattle.sheet.proofs.Cursor.lists.Goals.{In_ok-entries}
use Rattle.sheet.proofs.Cursor.lists.Goals as goal

-- The rank's lists were read.
read : (c : In_ok-entries) → let a = c.args in let k = c.loop-k.k in
    Ok (c.in_ok-entries.field-0, c.rank_lists.new.self.at) ≡ kept rank_entries (lists_at a.self.now.sheet.now (get_or a.counts.now (k - 1) 0) (get_or a.counts.now k 0) 0) c.loop-k.self.at
read c = rw c.loop-k.invariant.sheet at c.in_ok-entries.ensures.value

pub returns-in_err-entries : goal.returns-in_err-entries
returns-in_err-entries c =
    let a = c.args in
    let l = c.loop-k in
    refuses (stopped_by c.from_residual.result c.from_residual.ensures.1)
    (ranks_refuse a.self.now.sheet.now a.counts.now l.k l.entries l.self.at l.invariant.left l.auto.k c.loop-k-test.true (rw l.invariant.sheet at c.in_err-entries.ensures.value))
    (c.rank_lists.ensures.sheet ∙ l.invariant.sheet)

pub overflow_add-entries : goal.overflow_add-entries
overflow_add-entries c =
    let a = c.args in
    let k = c.loop-k.k in
    omega (arith, (rank-fits a.self.now.sheet.now (get_or a.counts.now (k - 1) 0) (get_or a.counts.now k 0) c.loop-k.self.at (read c)).0)

pub loop-k-preserved : goal.loop-k-preserved
loop-k-preserved c =
    let a = c.args in
    let l = c.loop-k in
    let e = read (goal.at.loop-k-preserved c).In_ok-entries in
    let f = rank-fits a.self.now.sheet.now (get_or a.counts.now (l.k - 1) 0) (get_or a.counts.now l.k 0) l.self.at e in
    record {
      sheet = c.rank_lists.ensures.sheet ∙ l.invariant.sheet;
      at = omega (arith, f.0, f.1, c.requires.2 l.k);
      few = omega (arith, f.0);
      left = ranks_go_on a.self.now.sheet.now a.counts.now l.k l.entries l.self.at l.invariant.left l.auto.k c.loop-k-test.true e;
    }

pub returns : goal.returns
returns c =
    let a = c.args in
    let l = c.loop-k in
    record {
      value = ranks-end a.self.now.sheet.now a.counts.now l.k l.entries l.self.at l.invariant.left c.loop-k-test.false;
      sheet = l.invariant.sheet;
    }
