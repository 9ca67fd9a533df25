-- The loop is the definition's own recursion: after k turns v is the field of k bits.
-- Assumes nothing.
use mathlib.Core.Path.{◌≡◌}
use Rattle.spec.specs.Bits.{field}
use Rattle.sheet.proofs.field.Given as goal

abbrev pub invariant-loop-k : goal.invariant-loop-k
invariant-loop-k l = l.v ≡ field l.sheet l.start l.k
