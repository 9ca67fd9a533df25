-- The three bits behind R are whole, because the sheet is accepted.
-- Assumes nothing.
use native.Mathlib.Omega.{arith}
use Rattle.sheet.proofs.Laws.{dimension-field}
use Rattle.sheet.proofs.dimension.Goals as goal

pub field-requires : goal.field-requires
field-requires c = let h = dimension-field _ c.requires in omega (arith, h.0)

pub returns : goal.returns
returns c = rw c.field.ensures (dimension-field _ c.requires).1
