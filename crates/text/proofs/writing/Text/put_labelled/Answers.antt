-- The label and the number are put one after the other, and there is room for both.
-- Assumes nothing.
use Rattle.text.proofs.Growing.{less, then-room, grown_then}
use Rattle.text.proofs.writing.Text.put_labelled.Goals as goal

pub put_bytes-requires : goal.put_bytes-requires
put_bytes-requires c = less c.args.self.now c.args.label.now _ c.requires

pub put_decimal-requires : goal.put_decimal-requires
put_decimal-requires c = then-room c.put_bytes.ensures _ c.requires

pub returns : goal.returns
returns c = grown_then c.put_bytes.ensures c.put_decimal.ensures
