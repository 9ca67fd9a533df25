-- What is folded stays below the limit for numbers that are mixed.
-- Assumes nothing.
use Rattle.std.proofs.Common.{rules, tests, arith, ◌<◌}
use Rattle.std.proofs.lemmas.Fn.{serves_by}
use Rattle.points.specs.Guesses.{mixed_limit}
use Rattle.marks.proofs.products.place.Goals as goal

pub fold-h-requires-clause-callable : goal.fold-h-requires-clause-callable
fold-h-requires-clause-callable c =
    serves_by _ (λ xs q. q.1 < mixed_limit) (λ xs q x w j r. search (rules, tests)) _ _ _ _ (omega arith) (λ xs t q x u y e j. search (rules, tests))
