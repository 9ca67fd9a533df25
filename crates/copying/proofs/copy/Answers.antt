-- The judgement comes first, and the copying where it passes.
-- Assumes nothing.
use mathlib.Core.Path.{sym, ap, ◌∙◌}
use Rattle.spec.specs.Refusal.{Answer}
use Rattle.laws.proofs.Stopped.{stopped}
use Rattle.copying.proofs.Outcome.{call-refused, call_passed}
use Rattle.copying.proofs.copy.Goals as goal

pub returns-in_err-judged : goal.returns-in_err-judged
returns-in_err-judged c =
    let a = c.args in
    ap (λ (r : Answer). (r, a.copies.now, a.table.now)) (stopped _ _ c.from_residual.ensures.1)
    ∙ call-refused a.dimension a.points.now a.turns.now a.copies.now a.table.now _ (sym c.judged.ensures ∙ c.in_err-judged.was)

pub returns : goal.returns
returns c =
    let a = c.args in
    c.copied.ensures
    ∙ call_passed a.dimension a.points.now a.turns.now a.copies.now a.table.now (sym c.judged.ensures ∙ c.in_ok-judged.was)
