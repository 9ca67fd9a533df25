-- `float::root::long_root` meets its contract: after the call there is one division, of which `Digits.antt` has the law. Assumes nothing.
use Prim.Native.Nat.{◌*◌, ◌/◌, ◌%◌, ◌^◌}
use native.Mathlib.Omega.{arith}
use Rattle.float.proofs.root.Digits.{Divided, divided, lower_right, lower-over}
use Rattle.float.proofs.root.long_root.Goals.{After-short_root-upper}
use Rattle.float.proofs.root.long_root.Goals as goal

known : (c : After-short_root-upper) → Divided c.args.n c.short_root-upper.result.root c.short_root-upper.result.rest
    (c.short_root-upper.result.rest * 2 ^ 26 / (2 * c.short_root-upper.result.root)) (c.short_root-upper.result.rest * 2 ^ 26 % (2 * c.short_root-upper.result.root))
known c = divided _ _ _ c.requires.0 c.requires.1 c.short_root-upper.ensures

pub overflow_mul-part : goal.overflow_mul-part
overflow_mul-part c = omega (arith, known c.before.before)

pub nonzero_div-lower : goal.nonzero_div-lower
nonzero_div-lower c = omega (arith, known c.before.before)

pub nonzero_rem-over : goal.nonzero_rem-over
nonzero_rem-over c = omega (arith, known c.before.before)

pub overflow_mul-over : goal.overflow_mul-over
overflow_mul-over c = omega (arith, known c.before.before)

pub overflow_mul-square : goal.overflow_mul-square
overflow_mul-square c = omega (arith, known c.before.before)

pub overflow_add-root : goal.overflow_add-root
overflow_add-root c = omega (arith, known c.before.before.before)

pub overflow_mul-result : goal.overflow_mul-result
overflow_mul-result c = omega (arith, known c.before.before.before.before)

pub overflow_add-result : goal.overflow_add-result
overflow_add-result c = omega (arith, known c.before.before.before.before)

pub overflow_sub-result-else-square-over-3 : goal.overflow_sub-result-else-square-over-3
overflow_sub-result-else-square-over-3 c = omega (arith, known c.before.before.before.before)

pub returns-then-square-over : goal.returns-then-square-over
returns-then-square-over c = let b = c.before.before.before.before in lower_right _ _ _ _ _ b.requires.1 (known b) c.if-square-over.true

pub returns-else-square-over : goal.returns-else-square-over
returns-else-square-over c = let b = c.before.before.before.before in lower-over _ _ _ _ _ b.requires.1 (known b) c.if-square-over.false
