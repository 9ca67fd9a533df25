-- The answer is that of `types::element_types`, as its code, and the outputs and the promises about them are its own.
-- Assumes nothing.
use borrow.Author.Rules.{rules}
use Rattle.jidwaleb.proofs.Coded.{fits, handed, told, done}
use Rattle.jidwaleb.proofs.Counted.{types-count}
use Rattle.jidwaleb.proofs.jidwaleb_types.Goals as goal

pub code-requires : goal.code-requires
code-requires c = fits _ _ _ c.element_types.ensures.as_defined (types-count _ _ _ _)

pub returns : goal.returns
returns c =
    let t = c.element_types.ensures in
    let k = types-count _ _ _ _ in
    let p = c.code.ensures in record {
      as_defined = handed _ _ _ t.as_defined k _ p;
      decoded = told _ _ _ t.as_defined k _ p;
      types_kept = λ z. let d = done _ _ _ t.as_defined k _ p z in t.types_kept d.0 d.1;
      free = record { words = search rules; floats = search rules };
    }
