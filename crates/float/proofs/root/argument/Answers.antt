-- `float::root::argument` meets its contract, by the laws of `Fields.antt`. Assumes nothing.
use mathlib.Core.Path.{◌≡◌}
use Prim.Native.Nat.{◌-◌, ◌/◌, ◌^◌, ◌≤◌, ◌<◌}
use native.Mathlib.Omega.{arith}
use lib.Count.{count_leading_zeros}
use Rattle.float.proofs.root.Fields.{Shifted, shifted, subnormal, normal}
use Rattle.float.proofs.root.argument.Goals.{After-from-shift, Then-field-eq0}
use Rattle.float.proofs.root.argument.Goals as goal

small : (c : Then-field-eq0) → c.args.b < 2 ^ 52
small c = let e : c.args.b / 2 ^ 52 ≡ 0 = c.if-field-eq0.true in omega arith

known : (c : Then-field-eq0) → (11 ≤ count_leading_zeros 64 c.args.b) × Shifted c.args.b (count_leading_zeros 64 c.args.b - 11)
known c = shifted c.args.b c.requires.0 (small c)

-- The shift is by as many digits as the argument lacks.
shift-is : (c : After-from-shift) → c.from-shift.result ≡ count_leading_zeros 64 c.args.b
shift-is c = c.from-shift.ensures

pub overflow_sub-shift : goal.overflow_sub-shift
overflow_sub-shift c = rw (shift-is c) (known (goal.at.overflow_sub-shift c).Then-field-eq0).0

pub returns-then-field-eq0 : goal.returns-then-field-eq0
returns-then-field-eq0 c =
    let t = (goal.at.returns-then-field-eq0 c).Then-field-eq0 in
    rw (shift-is c) (subnormal _ _ (small t) (known t).1)

pub returns-else-field-eq0 : goal.returns-else-field-eq0
returns-else-field-eq0 c = normal c.args.b c.if-field-eq0.false c.requires.1
