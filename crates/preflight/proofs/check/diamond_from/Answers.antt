-- Assumes nothing.
use Rattle.std.proofs.Common.{rules, tests, arith, ◌∙◌, ap, ◌+◌, ◌-◌, add-one}
use Rattle.spec.specs.Lists.{range, every}
use Rattle.spec.specs.Types.{top}
use Rattle.ranked.specs.Lying.{abs_of}
use Rattle.ranked.proofs.Chains.{all_numbers}
use Rattle.ranked.proofs.Solids.{top_is}
use Rattle.preflight.specs.Check.{two_rank, two_from}
use Rattle.preflight.proofs.check.diamond_from.Goals as goal

pub returns : goal.returns
unfolding two_from
returns c =
    let a = c.args in let s = a.solid.now in
    let n = top (abs_of s) - 1 - a.from in
    all_numbers (two_rank (abs_of s)) (a.from + 1) s.shape.rank n (cc) (omega (arith, top_is s.shape s.lists.now)) c.all.ensures.ran (λ r t q k. search (rules, tests))
    ∙ ap (λ k. every (two_rank (abs_of s)) (range k n)) (add-one a.from)
