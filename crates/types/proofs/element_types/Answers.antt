-- The call goes by preflight's answer.
-- Assumes nothing.
use borrow.Author.Rules.{rules}
use Rattle.spec.specs.Calls.{TypesOut}
use Rattle.laws.proofs.Stopped.{stopped}
use Rattle.types.proofs.Placed.{refused-call, benched, passed_call}
use Rattle.types.proofs.Demand3.{told}
use Rattle.types.proofs.element_types.Goals.{After-preflight}
use Rattle.types.proofs.element_types.Goals as goal

-- These are the outputs as they were.
abbrev old : After-preflight → TypesOut
old p = let a = p.args in record { elements = a.of.now; types = a.table.now }

pub returns-in_err-sh-clause-as_defined : goal.returns-in_err-sh-clause-as_defined
returns-in_err-sh-clause-as_defined c =
    rw (stopped _ _ c.from_residual.ensures.1) (refused-call c.preflight.ensures c.in_err-sh.was (old (goal.at.returns-in_err-sh-clause-as_defined c).After-preflight))

pub types_given-requires : goal.types_given-requires
types_given-requires c = benched c.preflight.ensures c.in_ok-sh.was

pub returns : goal.returns
returns c =
    let d = told _ _ _ (old (goal.at.returns c).After-preflight) _ _ (passed_call c.preflight.ensures c.in_ok-sh.was (old (goal.at.returns c).After-preflight) _ c.types_given.ensures) in
    record {
      as_defined = d.0;
      types_kept = d.1;
      free = record { words = search rules; floats = search rules };
    }
