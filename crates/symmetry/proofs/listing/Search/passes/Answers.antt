-- The row is found first, and then the examples go under it.
-- Assumes nothing.
use native.Mathlib.Omega.{arith}
use Rattle.symmetry.proofs.Bounds.{vertices_are}
use Rattle.symmetry.proofs.Passing.{row_is, passes_not, passes_is}
use Rattle.symmetry.proofs.listing.Search.passes.Goals as goal

pub examples_go-requires-clause-words_in_bounds : goal.examples_go-requires-clause-words_in_bounds
examples_go-requires-clause-words_in_bounds c = omega (arith, c.row_of.auto.row, vertices_are c.args.self.now.prepared.searching, c.requires)

pub returns-then-row_of-clause-value : goal.returns-then-row_of-clause-value
returns-then-row_of-clause-value c = passes_is c.args.self.now c.args.m c.args.row.now c.row_of.new.row c.row_of.result c.row_of.ensures c.if-row_of.true c.examples_go.result c.examples_go.ensures

pub returns-then-row_of-clause-row_after : goal.returns-then-row_of-clause-row_after
returns-then-row_of-clause-row_after c e = row_is c.args.self.now c.args.m c.args.row.now c.row_of.new.row c.row_of.result c.row_of.ensures c.if-row_of.true

pub returns-else-row_of-clause-value : goal.returns-else-row_of-clause-value
returns-else-row_of-clause-value c = passes_not c.args.self.now c.args.m c.args.row.now c.row_of.new.row c.row_of.result c.row_of.ensures c.if-row_of.false
