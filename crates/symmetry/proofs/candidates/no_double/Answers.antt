-- Each point is tested against those after it.
-- Assumes nothing.
use Rattle.std.proofs.Common.{rules, tests, arith, ◌∙◌, not, suc, drop}
use Rattle.spec.specs.Lists.{holds}
use Rattle.spec.specs.Points.{near}
use Rattle.points.specs.Listed.{listed, listed_at}
use Rattle.ranked.proofs.Chains.{all_numbers}
use Rattle.symmetry.proofs.candidates.Doubles.{singles_are}
use Rattle.symmetry.proofs.candidates.no_double.Goals as goal

pub returns : goal.returns
returns c =
    let p = c.args.points.now in
    all_numbers (λ i. not (holds near (listed_at p i) (drop (suc i) (listed p)))) 0 p.count p.count (cc) (omega arith) c.all.ensures.ran (λ i t q k. search (rules, tests))
    ∙ singles_are p.count p.dimension p.floats.now
