-- The loop's invariant is that the rows before i are in place.
-- Assumes nothing.
use mathlib.Core.List.{map}
use lib.ListN.{take}
use Rattle.points.proofs.Laid.{PiecesLaid}
use Rattle.points.proofs.put_matrix.Given as goal

abbrev pub invariant-loop-i : goal.invariant-loop-i
invariant-loop-i l = PiecesLaid l.d (map (take l.d) l.row-items) l.initial.out l.out l.i
