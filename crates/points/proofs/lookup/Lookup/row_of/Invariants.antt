-- The loop's invariant is that the cells before k hold the numbers of their images, and none of them is n.
-- Assumes nothing.
use Rattle.spec.specs.Points.{row_of}
use Rattle.matrix.specs.Reading.{corner}
use Rattle.points.specs.Listed.{listed}
use Rattle.points.proofs.Filled.{CellsFilled}
use Rattle.points.proofs.lookup.Lookup.row_of.Given as goal

abbrev pub invariant-loop-k : goal.invariant-loop-k
invariant-loop-k l = let p = l.self.points in CellsFilled p.count (row_of (listed p) (corner p.dimension l.m)) l.initial.cell-items l.cell-items l.k
