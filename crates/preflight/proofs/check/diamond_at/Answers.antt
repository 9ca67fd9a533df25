-- Assumes nothing.
use Rattle.std.proofs.Common.{rules, tests, suc, add-one}
use Rattle.spec.specs.Types.{subs}
use Rattle.ranked.specs.Lying.{abs_of}
use Rattle.ranked.proofs.Chains.{all_members, serves_members}
use Rattle.ranked.proofs.Forks.{sub_above}
use Rattle.preflight.specs.Check.{two_under, two_at}
use Rattle.preflight.proofs.check.diamond_at.Goals as goal

pub all-requires-clause-callable : goal.all-requires-clause-callable
all-requires-clause-callable c =
    let a = c.args in let s = a.solid.now in
    serves_members c.subs.result.now (cc) (λ f q k. search (rules, tests)) (λ f m.
    let in_r = sub_above s.shape s.lists.now s.held a.r c.requires.0 c.requires.1 a.g _ c.subs.ensures f.now m in search (rules, tests))

pub returns : goal.returns
unfolding two_at
returns c =
    let a = c.args in let s = a.solid.now in
    let up = rw (add-one a.r) at c.subs.ensures in
    all_members (two_under (abs_of s) a.r a.g) (subs (abs_of s) (suc a.r) a.g) (cc) c.all.ensures.ran (λ f t q k. search (rules, tests))
