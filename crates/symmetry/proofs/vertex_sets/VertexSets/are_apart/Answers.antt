-- Assumes nothing.
use Rattle.std.proofs.Common.{rules, tests, arith, ◌-◌}
use Rattle.spec.specs.Lists.{eq_list, no_repeats}
use Rattle.spec.specs.Types.{top, proper_ranks, vertex_sets}
use Rattle.ranked.specs.Lying.{abs_of}
use Rattle.ranked.proofs.Chains.{all_numbers}
use Rattle.ranked.proofs.Solids.{top_is}
use Rattle.symmetry.proofs.vertex_sets.VertexSets.are_apart.Goals as goal

pub returns : goal.returns
unfolding proper_ranks
returns c =
    let s = c.args.self.now.solid in
    all_numbers (λ r. no_repeats eq_list (vertex_sets (abs_of s) r)) 1 s.shape.rank (top (abs_of s) - 1) (cc) (omega (arith, top_is s.shape s.lists.now)) c.all.ensures.ran (λ r t q k. search (rules, tests))
