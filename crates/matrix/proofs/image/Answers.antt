use mathlib.Core.Path.{◌≡◌, ap, ◌∙◌}
use Prim.Native.Nat.{◌≤◌}
use native.Mathlib.Omega.{arith}
use lib.ListN.{take, length}
use lib.Ieee.{of_bits}
use borrow.Author.Rules.{rules}
use Rattle.spec.specs.Limits.{max_dimension}
use Rattle.spec.specs.Float.{zero_f, dot}
use Rattle.spec.specs.Matrix.{mul_vec}
use Rattle.float.specs.Reading.{padded}
use Rattle.float.proofs.Written.{none, next}
use Rattle.matrix.proofs.Corner.{below, at-most, at-end, item, over-corner}
use Rattle.float.proofs.Padded.{padded_table}
use Rattle.matrix.proofs.image.Goals.{Start}
use Rattle.matrix.proofs.image.Goals as goal

-- The matrix has at least d rows.
tall : (c : Start) → c.args.d ≤ length c.args.m
tall c = let k : length c.args.m ≡ max_dimension = search rules in omega arith

pub loop-i-init : goal.loop-i-init
loop-i-init c = none

pub loop-i-preserved : goal.loop-i-preserved
loop-i-preserved c =
    let h = tall (goal.at.loop-i-preserved c).Start in
    let t = c.loop-i-test.true in
    next _ (omega (arith, below _ _ h t)) (rw (item _ _ h t) at c.dot_of.ensures) c.loop-i.invariant

pub returns : goal.returns
unfolding mul_vec of_bits zero_f
returns c =
    let m = c.args.m in
    let d = c.args.d in
    let h = tall (goal.at.returns c).Start in
    padded_table _ _ _ d (at-most _ _ h c.loop-i.auto.i-end) (at-end _ _ h c.loop-i-test.false) c.loop-i.invariant
    ∙ ap padded (over-corner (λ x. dot x (take d c.args.v)) d m h)
