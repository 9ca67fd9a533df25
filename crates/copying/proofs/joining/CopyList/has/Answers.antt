-- The scan answers a number exactly where the point is found.
-- Assumes nothing.
use mathlib.Core.Path.{sym}
use Rattle.points.proofs.Parts.{length-parts}
use Rattle.copying.specs.Growing.{copies_in}
use Rattle.copying.proofs.Scan.{found_by}
use Rattle.copying.proofs.joining.CopyList.has.Goals as goal

pub returns : goal.returns
returns c =
    let s = c.args.self.now in
    sym (found_by (copies_in s) _ (length-parts s.count s.dimension s.out.now) c.find.ensures c.is_some.ensures)
