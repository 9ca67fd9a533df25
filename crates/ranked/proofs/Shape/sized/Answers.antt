-- `ranked::Shape::sized` meets its contract. Assumes nothing.
use native.Mathlib.Omega.{arith}
use Rattle.ranked.specs.Layout.{low_of, sized}
use Rattle.ranked.proofs.Low.{entries_small}
use Rattle.ranked.proofs.Shape.sized.Goals as goal

pub overflow_mul-low : goal.overflow_mul-low
unfolding sized low_of
overflow_mul-low c = omega (arith, c.sub_entries.ensures, entries_small c.args.self c.args.entries c.requires.rank_le_max_rank c.requires.by_index)

pub overflow_add-low : goal.overflow_add-low
unfolding sized low_of
overflow_add-low c = omega (arith, c.sub_entries.ensures, entries_small c.args.self c.args.entries c.requires.rank_le_max_rank c.requires.by_index)

pub returns : goal.returns
unfolding sized low_of
returns c = rw (c.sub_entries.ensures, c.sub_entries_at.ensures)
