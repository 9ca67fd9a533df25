use native.Mathlib.Omega.{arith}
use Rattle.types.proofs.Ranks.{tabled_first, list_ready, types_fit, tabled_next, tabled_end}
use Rattle.types.proofs.giving.write_table.Goals as goal

pub loop-r-init : goal.loop-r-init
loop-r-init c = tabled_first _ _ _

pub write_rank-m-requires : goal.write_rank-m-requires
write_rank-m-requires c = list_ready _ _ c.args.typed.now.countable _ c.requires _ _ _ c.loop-r.invariant c.loop-r-test.true _ c.of.ensures

pub overflow_add-m : goal.overflow_add-m
overflow_add-m c = omega (arith, types_fit _ _ c.args.typed.now.countable _ c.requires _ _ _ c.loop-r.invariant c.loop-r-test.true _ (rw c.of.ensures at c.write_rank-m.ensures.value))

pub loop-r-preserved : goal.loop-r-preserved
loop-r-preserved c =
    rw (c.write_rank-m.ensures.table_after, c.of.ensures)
    (tabled_next _ _ c.args.typed.now.countable _ c.requires _ _ _ c.loop-r.invariant c.loop-r-test.true _ (rw c.of.ensures at c.write_rank-m.ensures.value))

pub returns : goal.returns
returns c = tabled_end _ _ c.args.typed.now.countable _ c.requires _ _ _ c.loop-r.invariant c.loop-r-test.false
