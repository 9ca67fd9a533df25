-- The first k types are the numbers.
-- Assumes nothing.
use Rattle.preflight.proofs.store.Pasting.{FrontWritten}
use Rattle.element_types.proofs.stepping.replace.Given as goal

abbrev pub invariant-loop-k : goal.invariant-loop-k
invariant-loop-k l = FrontWritten l.numbers l.types l.k
