use mathlib.Core.Path.{◌≡◌, ◌∙◌}
use Prim.Native.Nat.{◌≤◌}
use native.Mathlib.Omega.{arith}
use lib.ListN.{length}
use borrow.Author.Rules.{rules}
use Rattle.spec.specs.Limits.{max_dimension}
use Rattle.matrix.specs.Reading.{leading}
use Rattle.float.proofs.Written.{none, next, end}
use Rattle.matrix.proofs.Corner.{below, at-most, at-end, item}
use Rattle.matrix.proofs.Beside.{beside-rows}
use Rattle.matrix.proofs.elimination.beside_identity.Goals.{Start}
use Rattle.matrix.proofs.elimination.beside_identity.Goals as goal

-- The matrix has at least d rows.
tall : (c : Start) → c.args.d ≤ length c.args.m
tall c = let k : length c.args.m ≡ max_dimension = search rules in omega arith

pub loop-i-init : goal.loop-i-init
loop-i-init c = none

pub loop-i-preserved : goal.loop-i-preserved
loop-i-preserved c =
    let h = tall (goal.at.loop-i-preserved c).Start in
    let t = c.loop-i-test.true in
    next _ (omega (arith, below _ _ h t)) (rw (item _ _ h t) at c.beside.ensures) c.loop-i.invariant

pub returns : goal.returns
unfolding leading
returns c =
    let a = c.args in
    let h = tall (goal.at.returns c).Start in
    end a.d (at-most _ _ h c.loop-i.auto.i-end) (at-end _ _ h c.loop-i-test.false) c.loop-i.invariant
    ∙ beside-rows a.d a.m h
