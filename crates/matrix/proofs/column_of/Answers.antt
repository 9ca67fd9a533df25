use mathlib.Core.Path.{◌≡◌, sym, ap, ◌∙◌}
use mathlib.Core.List.{[]}
use Prim.Native.Nat.{◌≤◌}
use native.Mathlib.Omega.{arith}
use lib.ListN.{get_or, take, length}
use lib.Seq.{get_or-take}
use lib.Ieee.{nan, binary64, of_bits}
use denote.Floats.{FloatOf}
use borrow.Author.Rules.{rules}
use Rattle.spec.specs.Limits.{max_dimension}
use Rattle.spec.specs.Float.{zero_f}
use Rattle.float.specs.Reading.{padded}
use Rattle.float.proofs.Written.{none, next}
use Rattle.matrix.proofs.Corner.{below, at-most, at-end, item, over-corner}
use Rattle.float.proofs.Padded.{padded_table}
use Rattle.matrix.proofs.Sized.{wide, get_d_any}
use Rattle.matrix.proofs.column_of.Goals.{Start}
use Rattle.matrix.proofs.column_of.Goals as goal

-- The matrix has at least d rows.
tall : (c : Start) → c.args.d ≤ length c.args.c
tall c = let k : length c.args.c ≡ max_dimension = search rules in omega arith

pub loop-i-init : goal.loop-i-init
loop-i-init c = none

pub loop-i-preserved : goal.loop-i-preserved
loop-i-preserved c =
    let l = c.loop-i in
    let s = tall (goal.at.loop-i-preserved c).Start in
    let t = c.loop-i-test.true in
    let low = below _ _ s t in
    let row = get_or c.args.c l.i [] in
    let k : length row ≡ max_dimension = wide (FloatOf binary64) max_dimension max_dimension c.args.c _ l.i c.well_formed.0 (omega arith) in
    let e : get_or row c.args.j nan ≡ get_or (take c.args.d row) c.args.j zero_f =
    get_d_any row c.args.j nan zero_f (omega arith) ∙ sym (get_or-take c.args.d row c.args.j zero_f (omega arith)) in
    next _ (omega arith) (rw (item _ _ s t) e) l.invariant

pub returns : goal.returns
unfolding of_bits zero_f
returns c =
    let m = c.args.c in
    let d = c.args.d in
    let h = tall (goal.at.returns c).Start in
    padded_table _ _ _ d (at-most _ _ h c.loop-i.auto.i-end) (at-end _ _ h c.loop-i-test.false) c.loop-i.invariant
    ∙ ap padded (over-corner (λ x. get_or x c.args.j zero_f) d m h)
