use Rattle.std.specs.Prelude.{Some}
use Rattle.std.specs.Option.{option_map}
use mathlib.Core.Path.{◌≡◌, sym, ap, ◌∙◌}
use Prim.Native.Nat.{◌+◌, ◌≤◌}
use native.Mathlib.Omega.{arith}
use lib.ListN.{length}
use lib.Ieee.{of_bits}
use borrow.Author.Rules.{rules}
use Rattle.spec.specs.Float.{zero_f, one_f}
use Rattle.spec.specs.Matrix.{entry}
use Rattle.matrix.specs.Reading.{leading, padded_rows}
use Rattle.matrix.proofs.Leading.{entry-leading}
use Rattle.matrix.proofs.Columns.{first, stop, next, inverse-none, determinant-none, inverse-end, determinant-end}
use Rattle.matrix.proofs.elimination.eliminate.Goals.{After-entry-x, Start}
use Rattle.matrix.proofs.elimination.eliminate.Goals as goal

long : (c : Start) → c.args.d ≤ length c.args.m
long c = search rules

-- The pivot is as it stands in the leading part.
pivot-is : (c : After-entry-x) →
    let d = c.args.d in
    c.entry-x.result ≡ entry (leading d (d + d) c.loop-c.rows) c.pivot_row-p.result c.loop-c.c
pivot-is c =
    let d = c.args.d in
    c.entry-x.ensures
    ∙ sym (entry-leading d (d + d) c.loop-c.rows c.pivot_row-p.result c.loop-c.c c.pivot_row-p.ensures.1 (omega arith))

pub loop-c-init : goal.loop-c-init
unfolding of_bits one_f
loop-c-init c = first _ _

pub returns-then-x : goal.returns-then-x
unfolding of_bits zero_f
returns-then-x c =
    let e = c.before in
    let l = e.before.before.before in
    let s = l.before.before in
    let h = e.loop-c-test.true in
    let z = stop l.loop-c.invariant h _ _ e.pivot_row-p.ensures.0 (pivot-is e) c.if-x.true in
    let i = inverse-none s.args.d s.args.m (long s) _ l.beside_identity-rows.ensures z in
    record {
      entries = i;
      cells = ap (option_map padded_rows) i;
      product = determinant-none s.args.d s.args.m (long s) _ l.beside_identity-rows.ensures z;
    }

pub loop-c-preserved : goal.loop-c-preserved
unfolding of_bits zero_f
loop-c-preserved c =
    let f = c.before.before.before in
    let e = f.before in
    let l = e.before.before.before in
    let h = e.loop-c-test.true in
    next
    l.loop-c.invariant
    h
    _
    _
    e.pivot_row-p.ensures.0
    (pivot-is e)
    _
    _
    _
    f.if-x.false
    c.column-next.ensures
    c.multiplied-t.ensures
    c.parity-odd.ensures

pub returns : goal.returns
returns c =
    let a = c.args in
    let l = long (goal.at.returns c).Start in
    let rows = c.beside_identity-rows.ensures in
    let k = c.loop-c-test.false in
    let i = inverse-end a.d a.m l _ rows k c.loop-c.invariant in
    record {
      entries = ap Some c.right_halves.ensures.1 ∙ i;
      cells = ap Some c.right_halves.ensures.0 ∙ ap (option_map padded_rows) i;
      product = c.signed.ensures ∙ determinant-end a.d a.m l _ rows k c.loop-c.invariant;
    }
