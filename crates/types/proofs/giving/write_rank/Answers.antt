-- A type that is met for the first time opens its record, and any other adds 1 to its type's count.
-- Assumes nothing.
use native.Mathlib.Omega.{arith}
use Rattle.types.proofs.Rows.{rows-first, rows_end, type_small, record_fits, rows_new, cell_in, count_small, rows_old}
use Rattle.types.proofs.giving.write_rank.Goals.{then-t-k, else-t-k}
use Rattle.types.proofs.giving.write_rank.Goals as goal

pub loop-e-init : goal.loop-e-init
loop-e-init c = rows-first _ _ _ _

pub overflow_cast-t-then-t-k : goal.overflow_cast-t-then-t-k
overflow_cast-t-then-t-k c = omega (arith, type_small _ _ _ _ c.requires _ _ _ c.loop-e.invariant c.loop-e-test.true)

pub open_type-requires : goal.open_type-requires
open_type-requires c = record_fits _ _ _ _ c.requires _ _ _ c.loop-e.invariant c.loop-e-test.true c.if-t-k.true

pub bounds-table-m : goal.bounds-table-m
bounds-table-m c = cell_in _ _ _ _ c.requires _ _ _ c.loop-e.invariant c.loop-e-test.true c.if-t-k.false

pub overflow_add-table-else-t-k-2 : goal.overflow_add-table-else-t-k-2
overflow_add-table-else-t-k-2 c = omega (arith, count_small _ _ _ _ c.requires _ _ _ c.loop-e.invariant c.loop-e-test.true c.if-t-k.false)

pub bounds-table-m-else-t-k : goal.bounds-table-m-else-t-k
bounds-table-m-else-t-k c = cell_in _ _ _ _ c.requires _ _ _ c.loop-e.invariant c.loop-e-test.true c.if-t-k.false

pub loop-e-preserved : goal.loop-e-preserved
loop-e-preserved c = elim c.if-t-k.branch [
  | then-t-k w ↦ rw (w.table-is, w.k-is, w.open_type.ensures) (rows_new _ _ _ _ c.requires _ _ _ c.loop-e.invariant c.loop-e-test.true w.if-t-k.true)
  | else-t-k w ↦ rw (w.table-is, w.k-is) (rows_old _ _ _ _ c.requires _ _ _ c.loop-e.invariant c.loop-e-test.true w.if-t-k.false)
]

pub returns-clause-table_after : goal.returns-clause-table_after
returns-clause-table_after c = (rows_end _ _ _ _ c.requires _ _ _ c.loop-e.invariant c.loop-e-test.false).1
