use native.Mathlib.Numerals.{add-one}
use native.Mathlib.Omega.{arith}
use mathlib.Core.Path.{◌≡◌, refl}
use Prim.Native.Nat.{suc, ◌-◌}
use Rattle.flag.proofs.Flags.{some_sub, next_down, last-down}
use Rattle.flag.proofs.down.Goals as goal

pub bounds-subs-0 : goal.bounds-subs-0
bounds-subs-0 c =
    let l = c.loop-r in let s = c.args.solid.now in
    let up : suc (l.r - 1) ≡ l.r = omega (arith, c.loop-r-test.true) in
    rw (c.subs.ensures, add-one, up) (some_sub s.shape s.lists.now s.held l.r _ (omega (arith, c.loop-r-test.true)) l.invariant.low l.invariant.inside)

pub loop-r-preserved : goal.loop-r-preserved
loop-r-preserved c =
    let l = c.loop-r in let s = c.args.solid.now in
    let up : suc (l.r - 1) ≡ l.r = omega (arith, c.loop-r-test.true) in
    next_down s.shape s.lists.now s.held _ l.elements (l.r - 1) (rw up l.invariant) _ (rw (c.subs.ensures, add-one) refl)

pub returns : goal.returns
returns c =
    let l = c.loop-r in let s = c.args.solid.now in
    let zero : l.r ≡ 0 = omega (arith, c.loop-r-test.false) in
    last-down s.shape s.lists.now s.held _ l.elements (rw zero at l.invariant)
