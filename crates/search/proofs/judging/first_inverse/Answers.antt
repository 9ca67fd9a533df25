-- The first flag is found, then its columns, and then their inverse.
-- Assumes nothing.
use mathlib.Core.Path.{ap, ◌∙◌}
use Rattle.spec.specs.Matrix.{inverse}
use Rattle.spec.specs.Search.{flag_columns}
use Rattle.laws.proofs.FlagList.{every_first}
use Rattle.ranked.specs.Lying.{concrete_of}
use Rattle.search.proofs.judging.first_inverse.Goals as goal

pub vertex_sequence-requires : goal.vertex_sequence-requires
vertex_sequence-requires c = let held = c.args.thin.now.realized.solid.held in rw c.first-first.ensures (every_first _ held.sound held.filled).0

pub returns : goal.returns
returns c =
    let C = concrete_of c.args.thin.now.realized in
    c.inverse.ensures.entries ∙ ap inverse (c.vertex_sequence.ensures ∙ ap (flag_columns C) c.first-first.ensures)
