-- The run's own equation holds, demand 3 follows from it, and the workspace keeps its lengths.
-- Assumes nothing.
use borrow.Author.Rules.{rules}
use mathlib.Core.Bool.{false}
use Rattle.search.proofs.Demand3.{told}
use Rattle.search.proofs.search.Goals as goal

pub returns : goal.returns
returns c =
    let t = told false _ _ _ _ _ _ c.run.ensures in
    record {
      as_defined = t.0;
      types_kept = t.1;
      free = record { words = search rules; floats = search rules };
    }
