-- The field is whole, or the reading is refused.
-- Assumes nothing.
use Rattle.std.specs.Prelude.{Ok, ◌+◌}
use mathlib.Core.Path.{refl, sym, ap, ◌∙◌}
use Rattle.sheet.proofs.Readers.{bits_cut, bits-whole}
use Rattle.sheet.proofs.Cursor.bits.Goals as goal

pub returns-then-self-width : goal.returns-then-self-width
returns-then-self-width c = record { value = sym (bits_cut _ _ _ c.if-self-width.true); sheet = refl }

pub returns : goal.returns
returns c = record {
  value = ap (λ n. Ok (n, c.args.self.now.at + c.args.width)) c.field-n.ensures ∙ sym (bits-whole _ _ _ c.if-self-width.false);
  sheet = refl;
}
