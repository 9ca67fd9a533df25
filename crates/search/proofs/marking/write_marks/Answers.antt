-- Whether the vertex sets are apart is told first, and then the marks are written.
-- Assumes nothing.
use Rattle.search.proofs.marking.write_marks.Goals as goal

pub returns : goal.returns
returns c = rw (c.solid.ensures.shape, c.solid.ensures.lists) at c.mark_rows.ensures
