-- Assumes nothing.
use Rattle.std.proofs.Common.{rules, tests, arith, length, ltb}
use Rattle.spec.specs.Types.{size, sups}
use Rattle.ranked.specs.Lying.{abs_of}
use Rattle.ranked.proofs.Chains.{all_numbers}
use Rattle.ranked.proofs.Solids.{size_is}
use Rattle.preflight.specs.Check.{bound_rank}
use Rattle.preflight.proofs.check.bound_rank.Goals as goal

pub returns : goal.returns
unfolding bound_rank
returns c =
    let a = c.args in let s = a.solid.now in
    all_numbers (λ e. ltb 0 (length (sups (abs_of s) a.r e))) 0 c.size.result (size (abs_of s) a.r) (cc) (omega (arith, c.size.ensures, size_is s.shape s.lists.now a.r c.requires)) c.all.ensures.ran (λ e t q k. search (rules, tests))
