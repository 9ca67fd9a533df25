-- What a `?` hands on: where a judgement refuses, the answer is its refusal, and nothing was kept.
-- Assumes nothing.
use Rattle.std.specs.Prelude.{◌≡◌, Err, IsErrAnd}
use Rattle.std.proofs.Common.{ap, ◌∙◌}
use Rattle.std.proofs.lemmas.Result.{err_from_is_err_and}
use Rattle.spec.specs.declared.Refusal.{Refusal}
use Rattle.spec.specs.declared.Refused.{Refused}
use Rattle.spec.specs.Refusal.{Answer, refused_with}

pub stopped : (why : Refusal) (r : Answer) → IsErrAnd r (λ (y : Refused). y ≡ record { why = why; kept = 0 }) → r ≡ refused_with why 0
stopped why r h = let p = err_from_is_err_and r h in p.1 ∙ ap Err p.2
