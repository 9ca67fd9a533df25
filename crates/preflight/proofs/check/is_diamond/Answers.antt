-- The ranks at the top are judged first, as a part of all, and then all are.
-- Assumes nothing.
use native.Mathlib.Omega.{arith}
use mathlib.Core.Path.{sym, ◌∙◌}
use Rattle.ranked.specs.Lying.{abs_of}
use Rattle.ranked.proofs.Solids.{top_is}
use Rattle.preflight.proofs.check.Refusals.{diamond-whole, diamond_not}
use Rattle.preflight.proofs.check.is_diamond.Goals as goal

pub returns-then-not-diamond_from : goal.returns-then-not-diamond_from
returns-then-not-diamond_from c =
    let s = c.args.solid.now in
    sym (diamond_not (abs_of s) _ (omega (arith, top_is s.shape s.lists.now, c.rank-rank.ensures, c.if-rank-ge2.true)) (sym c.diamond_from.ensures ∙ c.if-not-diamond_from.true))

pub returns : goal.returns
returns c = c.diamond_from-2.ensures ∙ diamond-whole (abs_of c.args.solid.now)
