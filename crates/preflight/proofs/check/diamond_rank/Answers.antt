-- Assumes nothing.
use Rattle.std.proofs.Common.{rules, tests, arith, suc, add-one}
use Rattle.spec.specs.Types.{size}
use Rattle.ranked.specs.Lying.{abs_of}
use Rattle.ranked.proofs.Chains.{all_numbers}
use Rattle.ranked.proofs.Solids.{size_is}
use Rattle.preflight.specs.Check.{two_at, two_rank}
use Rattle.preflight.proofs.check.diamond_rank.Goals as goal

pub returns : goal.returns
unfolding two_rank
returns c =
    let a = c.args in let s = a.solid.now in
    let up = rw (add-one a.r) at c.size.ensures in
    all_numbers (two_at (abs_of s) a.r) 0 c.size.result (size (abs_of s) (suc a.r)) (cc) (omega (arith, up, size_is s.shape s.lists.now (suc a.r) c.requires.1)) c.all.ensures.ran (λ g t q k. search (rules, tests))
