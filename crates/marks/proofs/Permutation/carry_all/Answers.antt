use mathlib.Core.Path.{sym, ◌∙◌}
use Rattle.marks.proofs.Carried.{ranks_stop, ranks-next, ranks-end}
use Rattle.marks.proofs.Permutation.carry_all.Goals as goal

pub returns-then-not-carry_rank : goal.returns-then-not-carry_rank
returns-then-not-carry_rank c = ranks_stop _ c.loop-r.invariant (rw c.rank-rank.ensures at c.loop-r-test.true) (sym c.if-not-carry_rank.true ∙ c.carry_rank.ensures.value)

pub loop-r-preserved : goal.loop-r-preserved
loop-r-preserved c = let e = c.if-not-carry_rank.false in ranks-next _ c.loop-r.invariant (sym c.carry_rank.ensures.value ∙ e) _ (c.carry_rank.ensures.images e)

pub returns : goal.returns
returns c = ranks-end _ c.loop-r.invariant (rw c.rank-rank.ensures at c.loop-r-test.false)
