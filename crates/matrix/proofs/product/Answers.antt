use mathlib.Core.Path.{◌≡◌, ap, ◌∙◌}
use mathlib.Core.List.{map}
use Prim.Native.Nat.{◌≤◌}
use native.Mathlib.Omega.{arith}
use lib.ListN.{length}
use lib.Ieee.{of_bits}
use borrow.Author.Rules.{rules}
use Rattle.spec.specs.Limits.{max_dimension}
use Rattle.spec.specs.Float.{zero_f, dot}
use Rattle.spec.specs.Matrix.{mul_mat}
use Rattle.float.specs.Reading.{padded}
use Rattle.matrix.specs.Reading.{corner, padded_rows}
use Rattle.float.proofs.Written.{none, next}
use Rattle.matrix.proofs.Corner.{below, at-most, at-end, item, length-corner, over-corner, image_dots}
use Rattle.matrix.proofs.Padded.{padded-rows_table, corner-columns}
use Rattle.matrix.proofs.product.Goals.{Start}
use Rattle.matrix.proofs.product.Goals as goal

-- The first matrix has at least d rows.
tall : (c : Start) → c.args.d ≤ length c.args.a
tall c = let k : length c.args.a ≡ max_dimension = search rules in omega arith

pub loop-i-init : goal.loop-i-init
loop-i-init c = none

pub loop-i-preserved : goal.loop-i-preserved
loop-i-preserved c =
    let h = tall (goal.at.loop-i-preserved c).Start in
    let t = c.loop-i-test.true in
    next _ (omega (arith, below _ _ h t)) (rw (item _ _ h t) at (c.image.ensures ∙ ap padded (image_dots _ _))) c.loop-i.invariant

pub returns : goal.returns
unfolding mul_mat of_bits zero_f
returns c =
    let a = c.args.a in
    let b = c.args.b in
    let d = c.args.d in
    let h = tall (goal.at.returns c).Start in
    let k : length b ≡ max_dimension = search rules in
    padded-rows_table _ _ _ d (at-most _ _ h c.loop-i.auto.i-end) (at-end _ _ h c.loop-i-test.false) c.loop-i.invariant
    ∙ ap padded_rows
    (over-corner (λ x. map (dot x) (corner d c.from_columns-t.result)) d a h
    ∙ rw (corner-columns d (corner d b) (length-corner d b (omega arith)) c.from_columns-t.result c.from_columns-t.ensures))
