-- The answer of the scan says whether the point is there already.
-- Assumes nothing.
use mathlib.Core.Path.{sym, ◌∙◌}
use lib.ListN.{take}
use Rattle.spec.specs.Copying.{matrices}
use Rattle.copying.specs.Growing.{copies_in}
use Rattle.copying.proofs.Growth.{point_old, point_new}
use Rattle.copying.proofs.Extending.{extended_none}
use Rattle.copying.proofs.joining.CopyList.copy.Goals as goal

pub returns-then-has : goal.returns-then-has
returns-then-has c =
    let s = c.args.self.now in
    rw (point_old (matrices s.dimension c.args.turns.now) (copies_in s) (take s.dimension c.args.p) (sym c.has.ensures ∙ c.if-has.true)) (extended_none s)

pub returns : goal.returns
returns c =
    let s = c.args.self.now in
    rw (point_new (matrices s.dimension c.args.turns.now) (copies_in s) (take s.dimension c.args.p) (sym c.has.ensures ∙ c.if-has.false)) c.spread.ensures
