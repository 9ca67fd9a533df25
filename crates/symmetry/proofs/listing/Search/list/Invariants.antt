-- The loop's invariant is that what is listed stands in the outputs, and the flags from this one on are to come. The measure is how many they are.
-- Assumes nothing.
use Rattle.ranked.specs.Layout.{abstract_in}
use Rattle.flag.specs.Reading.{flag_in}
use Rattle.symmetry.proofs.Members.{SoFar}
use Rattle.symmetry.proofs.Turning.{to_come}
use Rattle.symmetry.proofs.listing.Search.list.Given as goal

abbrev pub invariant-loop-n : goal.invariant-loop-n
invariant-loop-n l = SoFar l.self l.marks l.v l.initial.matrices l.matrices l.initial.rows l.rows l.n (flag_in l.self.prepared.shape.rank l.flag)

abbrev pub decreases-loop-n : goal.decreases-loop-n
decreases-loop-n l = to_come (abstract_in l.self.prepared.shape l.self.prepared.words.now) (flag_in l.self.prepared.shape.rank l.flag)
