use mathlib.Core.Path.{◌≡◌, ap, ap₂, ◌∙◌}
use mathlib.Core.List.{List, ◌++◌}
use Prim.Native.Nat.{◌+◌, ◌-◌}
use native.Mathlib.Omega.{arith}
use lib.ListN.{take, set, length}
use lib.Seq.{length-take-le}
use lib.Ieee.{Float, of_bits}
use borrow.Author.Rules.{rules}
use Rattle.spec.specs.Limits.{max_dimension}
use Rattle.spec.specs.Float.{zero_f, one_f}
use Rattle.matrix.specs.Reading.{width}
use Rattle.float.proofs.Written.{drop_replicate}
use Rattle.matrix.proofs.Beside.{beside-row}
use Rattle.matrix.proofs.elimination.beside.Goals as goal

pub returns : goal.returns
unfolding of_bits zero_f one_f
returns c =
    let a = c.args in
    let k : length a.v ≡ max_dimension = search rules in
    ap
    (λ (r : List Float). take (a.d + a.d) (set r (a.d + a.i) one_f))
    (ap₂ ◌++◌ c.copy_from_slice.ensures.after (drop_replicate a.d width zero_f))
    ∙ beside-row a.d (width - a.d) a.i (take a.d a.v) (length-take-le a.d a.v (omega arith)) (omega arith) (omega arith)
