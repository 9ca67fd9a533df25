-- The loop's invariant is that the flag has gone through i - 1 rounds, and that the first i rows hold its vertices so far.
-- Assumes nothing.
use Rattle.flag.specs.Reading.{flag_in}
use Rattle.symmetry.proofs.candidates.Rounds.{Walking}
use Rattle.symmetry.proofs.candidates.Thin.vertex_sequence.Given as goal

abbrev pub invariant-loop-i : goal.invariant-loop-i
invariant-loop-i l = let x = l.self.realized in Walking x.solid.shape x.solid.lists.now x.floats.now (flag_in x.solid.shape.rank l.initial.f) (flag_in x.solid.shape.rank l.f) l.initial.rows l.rows l.i
