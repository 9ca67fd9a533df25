-- The library's test is made at each of the first d entries.
-- Assumes nothing.
use Rattle.std.specs.Float.{float_is_finite}
use Rattle.std.proofs.Common.{rules, tests, ◌≡◌, ◌∙◌, take}
use Rattle.std.proofs.lemmas.Iterator.{YieldsList-from_slice}
use Rattle.std.proofs.lemmas.Iterator.Search.{all_from_yields_List}
use Rattle.spec.specs.Float.{finite}
use Rattle.ranked.proofs.Chains.{all_every}
use Rattle.symmetry.proofs.candidates.Finite.{finite_is}
use Rattle.symmetry.proofs.candidates.row_finite.Goals as goal

pub returns : goal.returns
returns c =
    let all = all_from_yields_List finite c.all.new.self _ c.all.result c.all.ensures.ran (YieldsList-from_slice (take c.args.d c.args.v) cc) (λ x b q k. let r : (q ≡ record {}) × (b ≡ float_is_finite x.now) = search (rules, tests) in (r.0, r.1 ∙ finite_is x.now)) in
    all ∙ all_every finite (take c.args.d c.args.v)
