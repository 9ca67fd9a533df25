-- The promises of both calls hold together.
-- Assumes nothing.
use borrow.Author.Rules.{rules}
use Rattle.search.proofs.Demand3.{told}
use Rattle.search.proofs.both_calls.Both.{both}
use Rattle.search.proofs.both_calls.types_and_members.Goals as goal

pub returns : goal.returns
returns g c =
    let t = c.element_types-types.ensures in
    let m = told _ _ _ _ _ _ _ c.run-members.ensures in
    record {
      both_calls = both _ _ _ _ _ _ _ _ _ _ _ _ t.as_defined t.types_kept t.free m.0 m.1;
      free = record { words = search rules; floats = search rules };
    }
