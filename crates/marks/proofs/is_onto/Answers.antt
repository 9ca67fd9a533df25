-- There are as many, and all of them land.
-- Assumes nothing.
use Rattle.std.proofs.Common.{rules, tests, ◌∙◌, get_or, eqb}
use borrow.Author.Tests.{ne_eqb}
use Rattle.spec.specs.Lists.{holds}
use Rattle.ranked.proofs.Chains.{all_members, serves_members}
use Rattle.marks.proofs.Found.{onto_not, onto_is}
use Rattle.marks.proofs.is_onto.Goals as goal

pub all-requires-clause-callable : goal.all-requires-clause-callable
all-requires-clause-callable c =
    serves_members c.args.from.now (cc) (λ f q k. search (rules, tests)) (λ f m.
    let in_cells = c.requires f.now m in search (rules, tests))

pub returns-then-from-to : goal.returns-then-from-to
returns-then-from-to c =
    let a = c.args in
    onto_is _ _ _ c.if-from-to.true _
    (all_members (λ f. holds eqb (get_or a.goes.now f 0) a.to.now) a.from.now (cc) c.all.ensures.ran (λ f t q k. search (rules, tests)))

pub returns-else-from-to : goal.returns-else-from-to
returns-else-from-to c = ne_eqb _ _ c.if-from-to.false ∙ onto_not _ _ _ c.if-from-to.false
