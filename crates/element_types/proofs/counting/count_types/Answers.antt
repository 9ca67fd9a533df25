-- The greatest type tells how many there are.
-- Assumes nothing.
use Rattle.std.proofs.Common.{◌≡◌, max, ap, sym, ◌∙◌}
use Rattle.std.specs.Option.{option_map}
use Rattle.std.specs.List.{reduce}
use Rattle.std.proofs.lemmas.Iterator.{YieldsList-from_slice}
use Rattle.std.proofs.lemmas.Iterator.Consumers.{max_from_yields_List}
use Rattle.element_types.proofs.Tallied.{types_some, types_none}
use Rattle.element_types.proofs.counting.count_types.Goals.{After-max}
use Rattle.element_types.proofs.counting.count_types.Goals as goal

greatest : (c : After-max) → option_map (λ x. x.now) c.max.result ≡ reduce max c.args.types.now
greatest c = max_from_yields_List _ _ c.max.ensures.ran (YieldsList-from_slice c.args.types.now cc)

pub returns-in-Some : goal.returns-in-Some
returns-in-Some c = types_some _ c.requires _ (sym (greatest (goal.at.returns-in-Some c).After-max) ∙ ap (option_map (λ x. x.now)) c.in-Some.is)

pub returns-in-None : goal.returns-in-None
returns-in-None c = types_none _ (sym (greatest (goal.at.returns-in-None c).After-max) ∙ ap (option_map (λ x. x.now)) c.in-None.is)
