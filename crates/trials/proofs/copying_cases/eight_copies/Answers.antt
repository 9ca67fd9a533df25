-- The answer and the outputs are the call's, and the answer is that of the trial with outputs of zeros.
-- Assumes nothing.
use mathlib.Core.Path.{ap, ◌∙◌}
use lib.Ieee.{of_bits}
use Rattle.spec.specs.Float.{zero_f, one_f}
use Rattle.trials.specs.Trials.{trials}
use Rattle.trials.proofs.CopyAnswers.{call_zeros}
use Rattle.trials.proofs.copying_cases.eight_copies.Goals as goal

pub returns : goal.returns
unfolding zero_f one_f of_bits
returns c =
    let e = c.copies_of.ensures in
    record {
      as_defined = e;
      value = ap (λ x. x.0) e ∙ call_zeros 3 8 _ _ _ _ c.requires.0 c.requires.1 ∙ trials.eight_copies;
    }
