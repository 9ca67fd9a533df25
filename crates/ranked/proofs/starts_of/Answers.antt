use mathlib.Core.Path.{refl}
use native.Mathlib.Omega.{arith}
use Rattle.spec.specs.Limits.{max_starts}
use Rattle.ranked.proofs.Shaping.{zeros, firsts_none, sum_small, firsts_more}
use Rattle.ranked.proofs.starts_of.Goals as goal

pub loop-r-init : goal.loop-r-init
loop-r-init c = firsts_none _ _ c.requires.rank_le_max_rank c.requires.counts_fit _ refl (zeros (max_starts))

pub overflow_add-first : goal.overflow_add-first
overflow_add-first c = omega (arith, sum_small _ _ _ _ c.loop-r.invariant (omega (arith, c.loop-r-test.true)) _ c.rank_size.ensures)

pub loop-r-preserved : goal.loop-r-preserved
loop-r-preserved c = firsts_more _ _ _ _ c.loop-r.invariant (omega (arith, c.loop-r-test.true)) _ c.rank_size.ensures
