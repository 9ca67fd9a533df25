-- The judgement behind refusal 9 and what follows it give the rest of the call.
-- Assumes nothing.
use Rattle.search.proofs.Benched.{coordinates_in}
use Rattle.search.proofs.Steps.{parted, doubled, not_doubled}
use Rattle.search.proofs.driver.from9.Goals as goal

pub invariant_of-points : goal.invariant_of-points
invariant_of-points c = record { fits = (c.requires.bench.held.wide, rw c.vertices.ensures (coordinates_in c.requires.bench)) }

pub from10-requires : goal.from10-requires
from10-requires c =
    record {
      bench = c.requires.bench;
      le_rank = c.requires.le_rank;
      parted = parted c.args.sh c.args.words.now c.args.floats.now _ c.vertices.ensures _ c.no_double.ensures c.if-not-no_double.false c.requires.le_dimension;
    }

pub returns-then-not-no_double : goal.returns-then-not-no_double
returns-then-not-no_double c =
    let a = c.args in
    rw c.into.ensures (doubled a.sh a.words.now a.floats.now _ c.vertices.ensures _ c.no_double.ensures _ _ c.if-not-no_double.true)

pub returns : goal.returns
returns c =
    let a = c.args in
    not_doubled a.sh a.words.now a.floats.now _ c.vertices.ensures _ c.no_double.ensures _ _ c.if-not-no_double.false _ c.from10.ensures
