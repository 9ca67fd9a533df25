use mathlib.Core.Path.{◌≡◌, refl, ◌∙◌}
use native.Mathlib.Omega.{arith}
use lib.ListN.{length}
use lib.Ieee.{nan}
use borrow.Author.Rules.{rules}
use Rattle.spec.specs.Limits.{max_dimension}
use Rattle.spec.specs.Float.{over}
use Rattle.float.proofs.Written.{none, next, all, table_map}
use Rattle.geometry.proofs.hull.fill_divided.Goals.{Start}
use Rattle.geometry.proofs.hull.fill_divided.Goals as goal

long : (c : Start) → length c.args.v ≡ max_dimension
long c = search rules

pub loop-j-init : goal.loop-j-init
loop-j-init c = none

pub loop-j-preserved : goal.loop-j-preserved
loop-j-preserved c = next _ c.loop-j-test.true refl c.loop-j.invariant

pub returns : goal.returns
returns c =
    let n = length c.args.cells.now in
    let m = long (goal.at.returns c).Start in
    all n refl c.loop-j.auto.j-end c.loop-j-test.false c.loop-j.invariant ∙ table_map (λ x. over x c.args.l) nan c.args.v n (omega (arith, c.requires))
