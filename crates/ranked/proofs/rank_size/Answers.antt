-- `ranked::rank_size` meets its contract. Assumes nothing.
use Rattle.ranked.proofs.Shaping.{proper-at, other_at}
use Rattle.ranked.proofs.rank_size.Goals as goal

pub returns-then-r-rank : goal.returns-then-r-rank
returns-then-r-rank c = proper-at _ _ _ c.if-r-gt0.true c.if-r-rank.true

pub returns-else-r-gt0 : goal.returns-else-r-gt0
returns-else-r-gt0 c = other_at _ _ _ c.else-r-gt0.either
