-- The axes are compared pair by pair, as the definition compares them.
-- Assumes nothing.
use mathlib.Core.Path.{◌∙◌}
use borrow.Author.Rules.{rules}
use borrow.Author.Tests.{tests}
use Rattle.std.proofs.lemmas.Iterator.{YieldsList-from_slice, YieldsList-from_zip}
use Rattle.std.proofs.lemmas.Iterator.Search.{all_from_yields_List}
use Rattle.points.proofs.Nearness.{axis_within, within_pairs}
use Rattle.points.proofs.near.Goals as goal

pub returns : goal.returns
returns c =
    let a = c.args in
    all_from_yields_List (axis_within a.limit) c.all.new.self _ c.all.result c.all.ensures.ran (YieldsList-from_zip (YieldsList-from_slice a.p.now cc) (YieldsList-from_slice a.q cc)) (λ x b q k. search (rules, tests))
    ∙ within_pairs a.limit a.p.now a.q
