use native.Mathlib.Omega.{arith}
use Rattle.element_types.proofs.Tallied.{run_numbered, sum_fits, tally_next, tally_end}
use Rattle.element_types.proofs.counting.Typed.type_count.Goals as goal

pub count_types-n-requires : goal.count_types-n-requires
count_types-n-requires c = rw c.of.ensures (run_numbered _ _ c.args.self.now.countable _ _ c.loop-r.invariant c.loop-r-test.true)

pub overflow_add-n : goal.overflow_add-n
overflow_add-n c = omega (arith, sum_fits _ _ c.args.self.now.countable _ _ c.loop-r.invariant c.loop-r-test.true _ (rw c.of.ensures at c.count_types-n.ensures))

pub loop-r-preserved : goal.loop-r-preserved
loop-r-preserved c = tally_next _ _ c.args.self.now.countable _ _ c.loop-r.invariant c.loop-r-test.true _ (rw c.of.ensures at c.count_types-n.ensures)

pub returns : goal.returns
returns c = tally_end _ _ c.args.self.now.countable _ _ c.loop-r.invariant c.loop-r-test.false
