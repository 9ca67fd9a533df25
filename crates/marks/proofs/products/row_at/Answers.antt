-- The part is v long.
-- Assumes nothing.
use mathlib.Core.Path.{◌≡◌}
use Prim.Native.Nat.{◌+◌, ◌-◌, ◌*◌}
use native.Mathlib.Omega.{arith}
use Rattle.spec.specs.Demand3Calls.{row_at}
use Rattle.marks.proofs.products.row_at.Goals as goal

pub returns-clause-value : goal.returns-clause-value
unfolding row_at
returns-clause-value c =
    let a = c.args in
    let e : a.k * a.v + a.v - a.k * a.v ≡ a.v = omega arith in
    rw e
