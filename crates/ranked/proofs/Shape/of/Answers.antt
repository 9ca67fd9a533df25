-- `ranked::Shape::of` meets its contract: the starts are those of the counts, and the number of words goes by them. Assumes nothing.
use Rattle.ranked.proofs.Shaping.{starts_fit, counted}
use Rattle.ranked.proofs.Shape.of.Goals as goal

pub sized-requires : goal.sized-requires
sized-requires c =
    let a = c.args in
    let both = starts_fit a.rank a.dimension a.counts c.starts_of.result a.entries c.requires.rank_le_max_rank.0 c.requires.rank_le_max_rank.1 c.requires.counts_fit c.starts_of.ensures in
    record {
      rank_le_max_rank = both.0;
      by_index = both.1;
    }

pub returns : goal.returns
returns c =
    let a = c.args in
    counted a.rank a.dimension a.counts c.starts_of.result a.entries c.requires.rank_le_max_rank.0 c.requires.rank_le_max_rank.1 c.requires.counts_fit c.starts_of.ensures c.sized.result c.sized.ensures
