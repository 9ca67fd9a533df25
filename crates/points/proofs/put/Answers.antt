-- The front of q is as long as what it is copied to.
-- Assumes nothing.
use mathlib.Core.Path.{◌≡◌, sym, ap}
use mathlib.Core.List.{◌++◌}
use Prim.Native.Nat.{ℕ}
use native.Mathlib.Omega.{arith}
use lib.ListN.{length, take, drop}
use lib.Seq.{length-take-le}
use borrow.Author.Rules.{rules}
use Rattle.spec.specs.Limits.{max_dimension}
use Rattle.spec.specs.Lists.{written}
use Rattle.points.proofs.put.Goals as goal

pub returns : goal.returns
unfolding written
returns c =
    let a = c.args in
    let long : length a.q ≡ max_dimension = search rules in
    rw c.copy_from_slice.ensures.after (ap (λ (k : ℕ). take a.d a.q ++ drop k a.out.now) (sym (length-take-le a.d a.q (omega arith))))
