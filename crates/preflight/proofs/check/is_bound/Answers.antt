-- Assumes nothing.
use Rattle.std.proofs.Common.{rules, tests, arith, ◌∙◌, ◌-◌}
use Rattle.spec.specs.Types.{top}
use Rattle.ranked.specs.Lying.{abs_of}
use Rattle.ranked.proofs.Chains.{all_numbers}
use Rattle.ranked.proofs.Solids.{top_is}
use Rattle.preflight.specs.Check.{bound_rank}
use Rattle.preflight.proofs.check.Refusals.{bound_is}
use Rattle.preflight.proofs.check.is_bound.Goals as goal

pub returns : goal.returns
returns c =
    let s = c.args.solid.now in
    all_numbers (bound_rank (abs_of s)) 1 (s.shape.rank - 1) (top (abs_of s) - 2) (cc) (omega (arith, top_is s.shape s.lists.now)) c.all.ensures.ran (λ r t q k. search (rules, tests))
    ∙ bound_is (abs_of s)
