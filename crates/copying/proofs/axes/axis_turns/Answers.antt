-- The matrices fill the whole array.
-- Assumes nothing.
use mathlib.Core.Path.{◌≡◌, ◌∙◌}
use native.Mathlib.Omega.{arith}
use borrow.Author.Rules.{rules}
use lib.ListN.{length}
use Rattle.copying.proofs.Flat.{whole}
use Rattle.copying.proofs.axes.axis_turns.Goals as goal

pub returns : goal.returns
returns c =
    let k : length c.args.table.now ≡ 48 = search rules in
    c.put_turns.ensures.1 ∙ whole _ _ (omega (arith, c.put_turns.ensures.0))
