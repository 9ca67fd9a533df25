use native.Mathlib.Omega.{arith}
use Rattle.wire.proofs.Filled.{none, next, all}
use Rattle.wire.proofs.filling.fill.Goals as goal

pub loop-i-init : goal.loop-i-init
loop-i-init g c = none

pub loop-i-preserved : goal.loop-i-preserved
loop-i-preserved g c = next _ (omega arith) c.filler.ensures c.loop-i.invariant

pub shape_of-out : goal.shape_of-out
shape_of-out g c = c.loop-i.invariant.cells.long

pub returns : goal.returns
returns g c = all (omega arith) c.loop-i.invariant
