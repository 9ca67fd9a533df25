-- The loop's invariant is that ranks 1 to r - 1 are changed.
-- Assumes nothing.
use Rattle.ranked.specs.Lying.{abs_of}
use Rattle.flag.specs.Reading.{flag_in}
use Rattle.symmetry.proofs.candidates.Rounds.{Turning}
use Rattle.symmetry.proofs.candidates.Thin.turned.Given as goal

abbrev pub invariant-loop-r : goal.invariant-loop-r
invariant-loop-r l = let s = l.self.realized.solid in Turning (abs_of s) (flag_in s.shape.rank l.initial.f) (flag_in s.shape.rank l.f) l.r
