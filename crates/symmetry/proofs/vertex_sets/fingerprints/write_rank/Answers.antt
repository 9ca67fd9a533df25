use native.Mathlib.Omega.{arith}
use Rattle.float.proofs.Written.{none, next}
use Rattle.symmetry.proofs.vertex_sets.fingerprints.write_rank.Goals as goal

pub loop-e-init : goal.loop-e-init
loop-e-init c = none

pub loop-e-preserved : goal.loop-e-preserved
loop-e-preserved c = next c.element_fingerprint.result (omega (arith, c.loop-e-test.true)) c.element_fingerprint.ensures c.loop-e.invariant
