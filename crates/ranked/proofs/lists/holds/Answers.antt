-- The library's search over the entries, one after another, is that of the definition.
-- Assumes nothing.
use borrow.Author.Rules.{rules}
use borrow.Author.Tests.{tests}
use lib.Dec.{eqb}
use Rattle.std.proofs.Common.{◌∙◌}
use Rattle.std.proofs.lemmas.Iterator.{YieldsList-from_slice}
use Rattle.std.proofs.lemmas.Iterator.Search.{any_from_yields_List}
use Rattle.ranked.proofs.Chains.{any_holds}
use Rattle.ranked.proofs.lists.holds.Goals as goal

pub returns-then-entries-lt-SHORT : goal.returns-then-entries-lt-SHORT
returns-then-entries-lt-SHORT c =
    let a = c.args in
    any_from_yields_List (λ y. eqb y a.x) _ _ c.any.result c.any.ensures.ran (YieldsList-from_slice a.entries.now cc) (λ x b q k. search (rules, tests))
    ∙ any_holds a.x a.entries.now
