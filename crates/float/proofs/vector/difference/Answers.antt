use mathlib.Core.Path.{◌≡◌, refl, ◌∙◌}
use native.Mathlib.Omega.{arith}
use lib.ListN.{length}
use lib.Seq.{take-length}
use lib.Ieee.{nan}
use borrow.Author.Rules.{rules}
use Rattle.spec.specs.Limits.{max_dimension}
use Rattle.spec.specs.Float.{minus}
use Rattle.float.proofs.Written.{none, next, end_plain, table_zip}
use Rattle.float.proofs.vector.difference.Goals.{Start}
use Rattle.float.proofs.vector.difference.Goals as goal

long : (c : Start) → length c.args.b ≡ max_dimension
long c = search rules

pub loop-i-init : goal.loop-i-init
loop-i-init c = none

pub loop-i-preserved : goal.loop-i-preserved
loop-i-preserved c =
    let k = long (goal.at.loop-i-preserved c).Start in
    next _ (omega arith) refl c.loop-i.invariant

pub returns : goal.returns
returns c =
    let a = c.args in
    let k = long (goal.at.returns c).Start in
    end_plain (length a.a.now) c.loop-i.auto.i-end c.loop-i-test.false c.loop-i.invariant
    ∙ table_zip minus nan nan a.a.now a.b (length a.a.now) (omega arith) (omega arith)
    ∙ rw take-length
