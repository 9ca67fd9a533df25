-- No set is held by those after it.
-- Assumes nothing.
use Rattle.std.proofs.Common.{rules, tests, arith, ◌∙◌, not, suc, drop}
use Rattle.spec.specs.Lists.{holds, eq_list}
use Rattle.spec.specs.Types.{size, vertices, vertex_sets}
use Rattle.ranked.specs.Lying.{abs_of}
use Rattle.ranked.proofs.Chains.{all_numbers}
use Rattle.ranked.proofs.Solids.{size_is}
use Rattle.symmetry.proofs.vertex_sets.Sets.{sets_alone}
use Rattle.symmetry.proofs.vertex_sets.VertexSets.rank_apart.Goals as goal

pub returns : goal.returns
returns c =
    let a = c.args in let s = a.self.now.solid in
    all_numbers (λ e. not (holds eq_list (vertices (abs_of s) a.r e) (drop (suc e) (vertex_sets (abs_of s) a.r)))) 0 c.size.result (size (abs_of s) a.r) (cc)
    (omega (arith, c.size.ensures, size_is s.shape s.lists.now a.r (omega (arith, c.requires.1)))) c.all.ensures.ran (λ e t q k. search (rules, tests))
    ∙ sets_alone (abs_of s) a.r
