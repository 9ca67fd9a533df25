use mathlib.Core.Path.{◌≡◌, sym, ap, ◌∙◌}
use mathlib.Core.List.{[]}
use Prim.Native.Nat.{ℕ, ◌*◌}
use native.Mathlib.Omega.{arith}
use lib.ListN.{length, get_or, take, length-map}
use lib.Seq.{length-take-le, get_or-take}
use lib.Ieee.{binary64}
use denote.Floats.{FloatOf}
use borrow.Author.Rules.{rules}
use Rattle.spec.specs.Limits.{max_dimension}
use Rattle.laws.proofs.Lists.{get_or-map}
use Rattle.matrix.specs.Reading.{leading, corner}
use Rattle.matrix.proofs.Sized.{wide}
use Rattle.points.proofs.Parts.{part_end}
use Rattle.points.proofs.Laid.{laid_none, laid_next, laid_all}
use Rattle.points.proofs.put_matrix.Goals.{Start}
use Rattle.points.proofs.put_matrix.Goals as goal

-- The matrix has at least d rows.
tall : (c : Start) → length (take c.args.d c.args.m) ≡ c.args.d
tall c =
    let long : length c.args.m ≡ max_dimension = search rules in
    length-take-le c.args.d c.args.m (omega arith)

pub loop-i-init : goal.loop-i-init
loop-i-init c = laid_none _ _ _

pub loop-i-preserved : goal.loop-i-preserved
loop-i-preserved c =
    let d = c.args.d in
    let m = c.args.m in
    let i = c.loop-i.i in
    let h = c.loop-i-test.true in
    let n = tall (goal.at.loop-i-preserved c).Start in
    let e = get_or-map (take d) [] [] (take d m) i h in
    let full : length (get_or m i []) ≡ max_dimension = wide (FloatOf binary64) max_dimension max_dimension m _ i c.well_formed.1.0 (omega arith) in
    let cut : length (take d (get_or (take d m) i [])) ≡ d = rw (get_or-take d m i [] (omega arith)) (length-take-le d (get_or m i []) (omega arith)) in
    laid_next c.loop-i.invariant (omega (arith, length-map (take d m) (take d))) (ap length e ∙ cut) (omega (arith, part_end d d i (omega arith), c.loop-i.auto.out)) (rw (sym e) at c.put.ensures)

pub returns-clause-long : goal.returns-clause-long
unfolding corner leading
returns-clause-long c =
    let n = length-map (take c.args.d c.args.m) (take c.args.d) in
    (laid_all c.loop-i.invariant (omega (arith, n, c.loop-i.auto.i-end, c.loop-i-test.false))).0
    ∙ ap (λ (k : ℕ). k * c.args.d) (n ∙ tall (goal.at.returns-clause-long c).Start)

pub returns-clause-cells : goal.returns-clause-cells
unfolding corner leading
returns-clause-cells c =
    let n = length-map (take c.args.d c.args.m) (take c.args.d) in
    (laid_all c.loop-i.invariant (omega (arith, n, c.loop-i.auto.i-end, c.loop-i-test.false))).1
