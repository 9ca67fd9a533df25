use mathlib.Core.Path.{◌≡◌, sym, ap, ◌∙◌}
use mathlib.Core.List.{[], map}
use Prim.Native.Nat.{ℕ, ◌*◌}
use native.Mathlib.Omega.{arith}
use lib.ListN.{length, get_or, length-map}
use Rattle.spec.specs.Lists.{join}
use Rattle.laws.proofs.Lists.{get_or-map}
use Rattle.matrix.specs.Reading.{corner}
use Rattle.points.proofs.Laid.{laid_none, laid_next, laid_all}
use Rattle.copying.proofs.Flat.{joined_twice}
use Rattle.copying.proofs.axes.put_turns.Goals.{Start}
use Rattle.copying.proofs.axes.put_turns.Goals as goal

many : (c : Start) → length (map join (map (corner 3) c.args.table.now)) ≡ length c.args.table.now
many c = length-map (map (corner 3) c.args.table.now) join ∙ length-map c.args.table.now (corner 3)

pub loop-k-init : goal.loop-k-init
loop-k-init c = laid_none _ _ _

pub loop-k-preserved : goal.loop-k-preserved
loop-k-preserved c =
    let t = c.args.table.now in
    let k = c.loop-k.k in
    let h = c.loop-k-test.true in
    let e : get_or (map join (map (corner 3) t)) k [] ≡ join (corner 3 (get_or t k [])) =
    get_or-map join [] [] (map (corner 3) t) k (omega (arith, length-map t (corner 3))) ∙ ap join (get_or-map (corner 3) [] [] t k h) in
    laid_next c.loop-k.invariant (omega (arith, many (goal.at.loop-k-preserved c).Start)) (ap length e ∙ c.put_matrix.ensures.long) (omega (arith, c.loop-k.auto.out)) (rw (sym e) at c.put_matrix.ensures.cells)

pub returns : goal.returns
returns c =
    let n = many (goal.at.returns c).Start in
    let all = laid_all c.loop-k.invariant (omega (arith, n, c.loop-k.auto.k-end, c.loop-k-test.false)) in
    rw (← joined_twice) (all.0 ∙ ap (λ (k : ℕ). k * 9) n, all.1)
