-- The chain's answer is that of the definition. Assumes nothing.
use mathlib.Core.Path.{◌∙◌}
use borrow.Author.Rules.{rules}
use Rattle.std.proofs.Common.{tests}
use Rattle.std.proofs.lemmas.Iterator.{YieldsList-from_slice}
use Rattle.std.proofs.lemmas.Iterator.Search.{all_from_yields_List}
use Rattle.spec.specs.Float.{in_range}
use Rattle.copying.proofs.Scan.{every_all}
use Rattle.copying.proofs.judging.all_in_range.Goals as goal

pub returns : goal.returns
returns c =
    all_from_yields_List in_range _ _ _ c.all.ensures.ran (YieldsList-from_slice c.args.s.now cc) (λ x b q k. search (rules, tests))
    ∙ every_all in_range c.args.s.now
