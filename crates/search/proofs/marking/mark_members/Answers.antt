-- No member has no mark; else the solid as read is there again, and the marks are written.
-- Assumes nothing.
use mathlib.Core.Path.{refl}
use Rattle.spec.specs.Lists.{parts, written}
use Rattle.search.proofs.Marked.{marks_before}
use Rattle.search.proofs.marking.mark_members.Goals as goal

pub returns-then-n-eq0 : goal.returns-then-n-eq0
unfolding parts written
returns-then-n-eq0 c = rw c.if-n-eq0.true refl

pub returns : goal.returns
unfolding parts written
returns c = marks_before _ _ _ _ _ _ _ c.restore.ensures.floats_after c.requires.sh_in_bounds.1 c.write_marks.ensures
