-- The fingerprints below rank r stand.
-- Assumes nothing.
use Rattle.ranked.specs.Words.{lists_of}
use Rattle.symmetry.proofs.vertex_sets.Rows.{RanksStand}
use Rattle.symmetry.proofs.vertex_sets.fingerprints.write_fingerprints.Given as goal

abbrev pub invariant-loop-r : goal.invariant-loop-r
invariant-loop-r l = RanksStand l.sh (lists_of l.sh l.held) l.prints l.r
