-- What is marked is what was met: an entry that is marked is there twice.
-- Assumes nothing.
use Rattle.marks.proofs.Rows.{Seen}
use Rattle.marks.proofs.is_permutation.Given as goal

abbrev pub invariant-loop-v : goal.invariant-loop-v
invariant-loop-v l = Seen l.row l.seen l.v-index
