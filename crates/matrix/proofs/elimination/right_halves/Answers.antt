use mathlib.Core.Path.{◌≡◌, ap, ◌∙◌}
use Prim.Native.Nat.{ℕ, ◌+◌, ◌≤◌, ◌<◌}
use native.Mathlib.Omega.{arith}
use lib.ListN.{drop, length}
use lib.Ieee.{binary64, of_bits}
use denote.Floats.{FloatOf}
use borrow.Author.Rules.{rules}
use Rattle.spec.specs.Limits.{max_dimension}
use Rattle.spec.specs.Float.{zero_f}
use Rattle.spec.specs.Matrix.{row}
use Rattle.matrix.specs.Reading.{width, padded_rows}
use Rattle.float.proofs.Written.{none, next}
use Rattle.matrix.proofs.Sized.{wide}
use Rattle.matrix.proofs.Corner.{below, at-most, at-end, item, over-leading}
use Rattle.matrix.proofs.Beside.{half_long}
use Rattle.matrix.proofs.Padded.{corner-padded, square_table, padded-rows_table}
use Rattle.matrix.proofs.elimination.right_halves.Goals.{Start}
use Rattle.matrix.proofs.elimination.right_halves.Invariants.{half}
use Rattle.matrix.proofs.elimination.right_halves.Goals as goal

-- There are at least d rows.
tall : (c : Start) → c.args.d ≤ length c.args.rows
tall c = let k : length c.args.rows ≡ max_dimension = search rules in omega arith

pub loop-i-init : goal.loop-i-init
loop-i-init c = none

pub loop-i-preserved : goal.loop-i-preserved
loop-i-preserved c =
    let h = tall (goal.at.loop-i-preserved c).Start in
    let t = c.loop-i-test.true in
    next _ (omega (arith, below _ _ h t)) (rw (item _ _ h t) at c.right_half.ensures) c.loop-i.invariant

pub returns : goal.returns
unfolding of_bits zero_f
returns c =
    let rows = c.args.rows in
    let d = c.args.d in
    let s = tall (goal.at.returns c).Start in
    let long : (i : ℕ) → i < d → length (half rows d i) ≡ d =
    λ i h. half_long d (row rows i) (omega (arith, wide (FloatOf binary64) width max_dimension rows _ i c.well_formed.0 (omega arith))) in
    let e = over-leading (drop d) d (d + d) rows s in
    let z = padded-rows_table (half rows d) _ _ d (at-most _ _ s c.loop-i.auto.i-end) (at-end _ _ s c.loop-i-test.false) c.loop-i.invariant in
    (z ∙ ap padded_rows e, corner-padded d _ _ (square_table (half rows d) d long) z ∙ e)
