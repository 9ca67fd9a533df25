-- Each of the first d rows is tested.
-- Assumes nothing.
use Rattle.std.proofs.Common.{rules, tests, ◌∙◌, take, List}
use Rattle.std.specs.Prelude.{Float}
use Rattle.std.proofs.lemmas.Iterator.{YieldsList-from_slice}
use Rattle.std.proofs.lemmas.Iterator.Search.{all_from_yields_List}
use Rattle.spec.specs.Float.{finite}
use Rattle.spec.specs.Lists.{every}
use Rattle.ranked.proofs.Chains.{all_every}
use Rattle.symmetry.proofs.candidates.Finite.{rows_finite}
use Rattle.symmetry.proofs.candidates.all_finite.Goals as goal

pub returns : goal.returns
returns c =
    let a = c.args in
    let test = λ (row : List Float). every finite (take a.d row) in
    let all = all_from_yields_List test c.all.new.self _ c.all.result c.all.ensures.ran (YieldsList-from_slice (take a.d a.m) cc) (λ x b q k. search (rules, tests)) in
    all ∙ all_every test (take a.d a.m) ∙ rows_finite a.d a.m
