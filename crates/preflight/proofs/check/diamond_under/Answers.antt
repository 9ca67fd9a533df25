-- Assumes nothing.
use Rattle.std.proofs.Common.{rules, tests, length, eqb}
use Rattle.spec.specs.Types.{subs}
use Rattle.spec.specs.Solid.{between}
use Rattle.ranked.specs.Lying.{abs_of}
use Rattle.ranked.proofs.Chains.{all_members, serves_members}
use Rattle.ranked.proofs.Forks.{sub_under}
use Rattle.preflight.specs.Check.{two_under}
use Rattle.preflight.proofs.check.diamond_under.Goals as goal

pub all-requires-clause-callable : goal.all-requires-clause-callable
all-requires-clause-callable c =
    let a = c.args in let s = a.solid.now in
    serves_members c.subs.result.now (cc) (λ h q k. search (rules, tests)) (λ h m.
    let in_r = sub_under s.shape s.lists.now s.held a.r c.requires.0 c.requires.1 a.f _ c.subs.ensures h.now m in search (rules, tests))

pub returns : goal.returns
unfolding two_under
returns c =
    let a = c.args in let s = a.solid.now in
    all_members (λ h. eqb (length (between (abs_of s) a.r a.g h)) 2) (subs (abs_of s) a.r a.f) (cc) c.all.ensures.ran (λ h t q k. search (rules, tests))
