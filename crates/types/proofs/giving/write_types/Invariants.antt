-- The types of the first k proper elements stand in their cells.
-- Assumes nothing.
use Rattle.spec.specs.Types.{given}
use Rattle.element_types.specs.Read.{typed_solid, typed_state}
use Rattle.types.proofs.Ranks.{Copied}
use Rattle.types.proofs.giving.write_types.Given as goal

abbrev pub invariant-loop-k : goal.invariant-loop-k
invariant-loop-k l = Copied (given (typed_solid l.typed) (typed_state l.typed)) l.initial.of l.of l.k
