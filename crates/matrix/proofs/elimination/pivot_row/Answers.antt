use mathlib.Core.Path.{◌≡◌, sym, ap, ◌∙◌}
use Prim.Native.Nat.{◌+◌, ◌<◌}
use native.Mathlib.Omega.{arith}
use lib.ListN.{length}
use borrow.Author.Rules.{rules}
use Rattle.spec.specs.Limits.{max_dimension}
use Rattle.spec.specs.Float.{abs_f}
use Rattle.matrix.proofs.Leading.{length-leading, entry-leading}
use Rattle.matrix.proofs.PivotScan.{first, larger, not_larger, end}
use Rattle.matrix.proofs.elimination.pivot_row.Goals.{then-magnitude, else-magnitude}
use Rattle.matrix.proofs.elimination.pivot_row.Goals as goal

pub loop-r-init : goal.loop-r-init
loop-r-init c =
    let a = c.args in
    let k : length a.rows ≡ max_dimension = search rules in
    (search rules, first (length-leading a.d (a.d + a.d) a.rows (omega arith)))

pub loop-r-preserved : goal.loop-r-preserved
loop-r-preserved c =
    let n = c.before.before.before in
    let l = n.before.before.before in
    let a = l.args in
    let view = entry-leading a.d (a.d + a.d) a.rows in
    let eu = n.magnitude.ensures ∙ ap abs_f (n.entry.ensures ∙ sym (view l.loop-r.p a.c (omega arith) (omega arith))) in
    let ev = c.magnitude-in-loop-r.ensures ∙ ap abs_f (c.entry-in-loop-r.ensures ∙ sym (view l.loop-r.r a.c (omega arith) (omega arith))) in
    let h : l.loop-r.r < a.d = n.loop-r-test.true in
    elim c.if-magnitude.branch [
      | then-magnitude w ↦ rw w.p-is (h, larger _ _ h eu ev l.loop-r.invariant.1 w.if-magnitude.true)
      | else-magnitude w ↦ rw w.p-is (l.loop-r.invariant.0, not_larger _ _ h eu ev l.loop-r.invariant.1 w.if-magnitude.false)
    ]

pub returns : goal.returns
returns c = (end c.loop-r-test.false c.loop-r.invariant.1, search rules)
