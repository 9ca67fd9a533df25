-- The first e fingerprints are written.
-- Assumes nothing.
use Rattle.spec.specs.Types.{vertices}
use Rattle.ranked.specs.Lying.{abs_of}
use Rattle.float.proofs.Written.{Written}
use Rattle.symmetry.specs.Fingerprints.{fingerprint_of}
use Rattle.symmetry.proofs.vertex_sets.fingerprints.write_rank.Given as goal

abbrev pub invariant-loop-e : goal.invariant-loop-e
invariant-loop-e l = Written (λ p. p) (λ e. fingerprint_of (vertices (abs_of l.solid) l.r e)) l.initial.prints l.prints l.e
