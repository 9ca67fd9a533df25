-- The answer is that of `search::rotations`, as its code, and the outputs and the promises about them are its own.
-- Assumes nothing.
use borrow.Author.Rules.{rules}
use Rattle.jidwaleb.proofs.Coded.{fits, handed, told, counted}
use Rattle.jidwaleb.proofs.Members.{rotations-count}
use Rattle.jidwaleb.proofs.jidwaleb_rotations.Goals as goal

pub code-requires : goal.code-requires
code-requires c = fits _ _ _ c.rotations.ensures.as_defined (rotations-count _ _ _ _)

pub returns : goal.returns
returns c =
    let s = c.rotations.ensures in
    let k = rotations-count _ _ _ _ in
    let p = c.code.ensures in
    record {
      as_defined = handed _ _ _ s.as_defined k _ p;
      decoded = told _ _ _ s.as_defined k _ p;
      types_kept = rw (counted _ _ _ s.as_defined k _ p) at s.types_kept;
      free = record { words = search rules; floats = search rules };
    }
