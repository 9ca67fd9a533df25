-- Assumes nothing.
use Rattle.marks.proofs.Cells.{cells_share}
use Rattle.marks.proofs.Markable.classes.Goals as goal

pub returns-clause-value : goal.returns-clause-value
returns-clause-value c = cells_share c.args.self.now c.args.r c.requires.0 c.requires.1 _ c.class-from.ensures
