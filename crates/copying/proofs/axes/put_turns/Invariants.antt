-- The loop's invariant is that the matrices before k are laid out.
-- Assumes nothing.
use mathlib.Core.List.{map}
use Rattle.spec.specs.Lists.{join}
use Rattle.matrix.specs.Reading.{corner}
use Rattle.points.proofs.Laid.{PiecesLaid}
use Rattle.copying.proofs.axes.put_turns.Given as goal

abbrev pub invariant-loop-k : goal.invariant-loop-k
invariant-loop-k l = PiecesLaid 9 (map join (map (corner 3) l.table)) l.initial.out l.out l.k
