-- The flag goes as its candidate does, where the types agree.
-- Assumes nothing.
use mathlib.Core.Path.{sym, ◌∙◌}
use Rattle.flag.specs.Reading.{flag_in}
use Rattle.symmetry.proofs.Trying.{first_is, flag_not, flag_is}
use Rattle.symmetry.proofs.listing.Search.try_flag.Goals as goal

pub same_types-requires-clause-first_flag : goal.same_types-requires-clause-first_flag
same_types-requires-clause-first_flag c = first_is c.args.self.now

pub returns-then-not-same_types : goal.returns-then-not-same_types
returns-then-not-same_types c x =
    let a = c.args in
    flag_not a.self.now (flag_in a.self.now.prepared.shape.rank a.flag) a.marks_left a.matrices.now a.rows.now x (sym c.if-not-same_types.true ∙ c.same_types.ensures)

pub returns : goal.returns
returns c x =
    let a = c.args in
    flag_is a.self.now (flag_in a.self.now.prepared.shape.rank a.flag) a.marks_left a.matrices.now a.rows.now x (sym c.if-not-same_types.false ∙ c.same_types.ensures)
    c.candidate-m.result (rw (c.solid.ensures.shape, c.solid.ensures.lists) at c.candidate-m.ensures)
    c.try_candidate.result c.try_candidate.new.matrices c.try_candidate.new.rows c.try_candidate.ensures
