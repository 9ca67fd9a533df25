-- The types of the ranks below r are counted.
-- Assumes nothing.
use Rattle.element_types.proofs.Tallied.{TypesTally}
use Rattle.element_types.proofs.counting.Typed.type_count.Given as goal

abbrev pub invariant-loop-r : goal.invariant-loop-r
invariant-loop-r l = TypesTally l.self.shape l.self.words.now l.n l.r
