use mathlib.Core.Path.{◌≡◌, sym, ap, ap₂, ◌∙◌}
use mathlib.Core.List.{◌++◌}
use Prim.Native.Nat.{ℕ, ◌+◌, ◌-◌}
use native.Mathlib.Omega.{arith}
use lib.ListN.{take, drop, length, length-drop, replicate}
use lib.Seq.{length-take-le}
use lib.Ieee.{of_bits}
use borrow.Author.Rules.{rules}
use Rattle.spec.specs.Limits.{max_dimension}
use Rattle.spec.specs.Float.{zero_f}
use Rattle.float.specs.Reading.{padded}
use Rattle.matrix.specs.Reading.{width}
use Rattle.float.proofs.Written.{drop_replicate, drop-take}
use Rattle.matrix.proofs.elimination.right_half.Goals as goal

pub returns : goal.returns
unfolding of_bits zero_f padded
returns c =
    let a = c.args in
    let k : length a.v ≡ width = search rules in
    let h : length (take a.d (drop a.d a.v)) ≡ a.d = length-take-le a.d (drop a.d a.v) (omega (arith, length-drop a.d a.v)) in
    let e : a.d + a.d - a.d ≡ a.d = omega arith in
    ap₂
    ◌++◌
    (c.copy_from_slice.ensures.after ∙ ap (λ (n : ℕ). take n (drop a.d a.v)) e ∙ sym (drop-take a.d a.d a.v))
    (drop_replicate a.d max_dimension zero_f ∙ ap (λ (n : ℕ). replicate (max_dimension - n) zero_f) (sym (ap length (drop-take a.d a.d a.v) ∙ h)))
