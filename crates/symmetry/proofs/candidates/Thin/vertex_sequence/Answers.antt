use native.Mathlib.Omega.{arith}
use lib.ListN.{replicate}
use lib.Ieee.{binary64, of_bits}
use Rattle.spec.specs.Limits.{max_dimension}
use Rattle.matrix.specs.Reading.{corner}
use Rattle.matrix.proofs.Corner.{length-corner}
use Rattle.matrix.proofs.Padded.{corner-columns}
use Rattle.symmetry.proofs.candidates.Rounds.{vertex, walk_first, walk-next, columns_are}
use Rattle.symmetry.proofs.candidates.Thin.vertex_sequence.Goals as goal

pub loaded-requires : goal.loaded-requires
loaded-requires c =
    let x = c.args.self.now.realized in
    omega (arith, c.vertices.ensures, vertex x.solid.shape x.solid.lists.now x.floats.now x.solid.held c.args.self.now.tall c.args.flag.elements c.requires)

pub loop-i-init : goal.loop-i-init
loop-i-init c =
    let x = c.args.self.now.realized in
    walk_first x.solid.shape x.solid.lists.now x.floats.now x.solid.held c.args.self.now.tall c.args.flag.elements c.requires
    (replicate max_dimension (replicate max_dimension (of_bits binary64 0))) (omega arith) c.loaded.result c.loaded.ensures

pub loaded-requires-in-loop-i : goal.loaded-requires-in-loop-i
loaded-requires-in-loop-i c =
    let u = c.turned-f in let x = c.args.self.now.realized in
    omega (arith, c.vertices.ensures, vertex x.solid.shape x.solid.lists.now x.floats.now x.solid.held c.args.self.now.tall u.result.elements u.ensures.flag)

pub loop-i-preserved : goal.loop-i-preserved
loop-i-preserved c =
    let u = c.turned-f in let l = c.loop-i in let x = c.args.self.now.realized in
    walk-next x.solid.shape x.solid.lists.now x.floats.now x.solid.held c.args.self.now.tall u.result.elements u.ensures.flag _ _ _ l.rows l.i l.invariant
    c.loop-i-test.true (omega (arith, c.loop-i-test.true, x.solid.held.wide)) u.ensures c.loaded-in-loop-i.result c.loaded-in-loop-i.ensures

pub returns : goal.returns
returns c =
    let l = c.loop-i in let x = c.args.self.now.realized in let d = x.solid.shape.dimension in
    columns_are x.solid.shape x.solid.lists.now x.floats.now x.solid.held c.args.self.now.tall _ _ _ l.rows c.from_columns.result l.i l.invariant c.loop-i-test.false
    (corner-columns d (corner d l.rows) (length-corner d l.rows (omega (arith, l.invariant.written.long, x.solid.held.wide))) _ c.from_columns.ensures)
