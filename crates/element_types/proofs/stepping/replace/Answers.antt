use mathlib.Core.Path.{refl, sym}
use native.Mathlib.Omega.{arith}
use Rattle.preflight.proofs.store.Pasting.{first, next, end}
use Rattle.element_types.proofs.stepping.replace.Goals as goal

pub loop-k-init : goal.loop-k-init
loop-k-init c = first (sym c.requires)

pub loop-k-preserved : goal.loop-k-preserved
loop-k-preserved c = next c.loop-k.invariant (omega arith) 0 _ refl

pub returns : goal.returns
returns c = end c.loop-k.invariant (omega (arith, c.loop-k-test.false))
