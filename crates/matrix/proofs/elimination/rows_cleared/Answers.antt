use mathlib.Core.Path.{◌≡◌, ap, ◌∙◌}
use Prim.Native.Nat.{◌+◌, ◌≤◌, ◌<◌}
use native.Mathlib.Omega.{arith}
use lib.ListN.{take, length}
use borrow.Author.Rules.{rules}
use Rattle.spec.specs.Limits.{max_dimension}
use Rattle.spec.specs.Matrix.{row}
use Rattle.matrix.specs.Reading.{leading}
use Rattle.float.proofs.Written.{none, next, end}
use Rattle.matrix.proofs.Corner.{below, at-most, at-end, item}
use Rattle.matrix.proofs.Leading.{next_row, next-take, clear-leading}
use Rattle.matrix.proofs.elimination.rows_cleared.Goals.{Start}
use Rattle.matrix.proofs.elimination.rows_cleared.Goals as goal

-- There are at least d rows.
tall : (c : Start) → c.args.d ≤ length c.args.rows
tall c = let k : length c.args.rows ≡ max_dimension = search rules in omega arith

pub loop-r-init : goal.loop-r-init
loop-r-init c = none

pub loop-r-preserved : goal.loop-r-preserved
loop-r-preserved c =
    let l = c.loop-r in
    let n = c.args.d + c.args.d in
    let h : c.args.c < n = omega arith in
    let s = tall (goal.at.loop-r-preserved c).Start in
    let t = c.loop-r-test.true in
    let e =
    ap (take n) c.row_next.ensures
    ∙ next-take n c.args.c c.args.pivot l.r (row (take c.args.d c.args.rows) l.r) h
    ∙ ap (λ v. next_row c.args.c (take n c.args.pivot) l.r (take n v)) (item _ _ s t) in
    next _ (omega (arith, below _ _ s t)) e l.invariant

pub returns : goal.returns
unfolding leading
returns c =
    let d = c.args.d in
    let rows = c.args.rows in
    let s = tall (goal.at.returns c).Start in
    end d (at-most _ _ s c.loop-r.auto.r-end) (at-end _ _ s c.loop-r-test.false) c.loop-r.invariant
    ∙ clear-leading d (d + d) rows c.args.c (take (d + d) c.args.pivot) s
