-- The judgement behind refusal 15 and what follows it give the rest of the call.
-- Assumes nothing.
use Rattle.laws.proofs.Stopped.{stopped}
use Rattle.search.proofs.Steps.{typed_bench, typed_classes, typed_parted, unsettled, settled}
use Rattle.search.proofs.driver.from15.Goals as goal

pub from11-requires : goal.from11-requires
from11-requires c =
    let e = c.types_of.ensures in
    record {
      bench = typed_bench _ _ _ _ _ _ e c.requires.bench;
      le_rank = c.requires.le_rank;
      countable = (e.numbered, typed_classes _ _ _ _ _ _ e c.requires.bench);
      parted = typed_parted _ _ _ _ _ _ e c.requires.parted;
    }

pub returns-in_err-types_of : goal.returns-in_err-types_of
returns-in_err-types_of c = rw (stopped _ _ c.from_residual.ensures.1) (unsettled _ _ _ _ _ _ c.types_of.ensures _ _ c.in_err-types_of.was _)

pub returns : goal.returns
returns c = settled _ _ _ _ _ _ c.types_of.ensures _ _ c.in_ok-types_of.was _ _ c.from11.ensures
