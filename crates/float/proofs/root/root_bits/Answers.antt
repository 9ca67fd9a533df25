-- `float::root::root_bits` meets its contract, by the laws of `Rounded.antt`. Assumes nothing.
use mathlib.Core.Path.{◌≡◌, sym, subst}
use Prim.Native.Nat.{ℕ, ◌+◌, ◌-◌, ◌*◌, ◌/◌, ◌%◌, ◌^◌, ◌≤◌, ◌<◌}
use native.Mathlib.Omega.{arith}
use lib.Ieee.{binary64, of_bits}
use Rattle.spec.specs.Float.{root_units}
use Rattle.spec.specs.Root.{in_units}
use Rattle.float.proofs.root.Digits.{Root}
use Rattle.float.proofs.root.Rounded.{Even, even, root_short, rounded_up, rounded_down}
use Rattle.float.proofs.root.root_bits.Goals.{After-argument-s, After-long_root-w, Joined-w}
use Rattle.float.proofs.root.root_bits.Goals.{then-w, else-w}
use Rattle.float.proofs.root.root_bits.Goals as goal

evened : (c : After-argument-s) → Even c.argument-s.result.digits c.argument-s.result.zeros
evened c = even _ _ c.argument-s.ensures.0 c.argument-s.ensures.1

rooted : (c : After-long_root-w) → let a = c.argument-s.result in Root 53 (a.digits * 2 ^ (a.zeros % 2) * 2 ^ 52) c.long_root-w.result.root c.long_root-w.result.rest
rooted c =
    subst (λ (n : ℕ). Root 53 (n * 2 ^ 52) c.long_root-w.result.root c.long_root-w.result.rest) (evened c.before.before.before).whole c.long_root-w.ensures

short : (c : After-long_root-w) → c.long_root-w.result.root < 2 ^ 53
short c = let a = c.argument-s.ensures in root_short _ _ _ _ _ a.0 a.1 a.2 a.3 a.4 (rooted c)

rounded : (c : Joined-w) → let a = c.before.before.before.before.before.before in
    (c.if-w.nearest ≤ 2 ^ 53) × (of_bits binary64 ((a.argument-s.result.zeros - 52) / 2 * 2 ^ 52 + c.if-w.nearest) ≡ root_units (in_units (of_bits binary64 a.args.b) * 2 ^ 1074))
rounded c =
    let l = c.before.before.before in
    let a = l.argument-s.ensures in
    let h = short l in
    elim c.if-w.branch [
      | then-w w ↦ rw w.nearest-is (omega arith, rounded_up _ _ _ _ _ a.0 a.1 a.2 a.3 a.4 (rooted l) w.if-w.true)
      | else-w w ↦ rw w.nearest-is (omega arith, rounded_down _ _ _ _ _ a.0 a.1 a.2 a.3 a.4 (rooted l) w.if-w.false)
    ]

pub long_root-w-requires : goal.long_root-w-requires
long_root-w-requires c = let e = evened c.before.before in subst (λ (n : ℕ). (2 ^ 52 ≤ n) × (n < 2 ^ 54)) (sym e.whole) (e.least, e.short)

pub returns : goal.returns
returns c = (rounded c.before).1
