use native.Mathlib.Omega.{arith}
use Rattle.types.proofs.Ranks.{cells_in_lem, copied_small, copied_next, copied-end}
use Rattle.types.proofs.giving.write_types.Goals as goal

pub overflow_cast-of : goal.overflow_cast-of
overflow_cast-of c = rw c.given-t-items.ensures (omega (arith, copied_small _ _ c.args.typed.now.countable _ c.requires _ _ c.loop-k.invariant (rw c.given-t-items.ensures at c.loop-k-test.true)))

pub bounds-of-k : goal.bounds-of-k
bounds-of-k c = omega (arith, rw c.given-t-items.ensures at c.loop-k-test.true, c.loop-k.auto.of, cells_in_lem _ _ c.args.typed.now.countable _ c.requires)

pub loop-k-preserved : goal.loop-k-preserved
loop-k-preserved c = rw c.given-t-items.ensures (copied_next _ _ c.args.typed.now.countable _ c.requires _ _ c.loop-k.invariant (rw c.given-t-items.ensures at c.loop-k-test.true))

pub returns : goal.returns
returns c = copied-end _ _ c.args.typed.now.countable _ c.requires _ _ c.loop-k.invariant (rw c.given-t-items.ensures at c.loop-k-test.false)
