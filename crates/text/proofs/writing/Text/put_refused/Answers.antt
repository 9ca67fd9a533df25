-- The line is put in two pieces, the label with the number and then the rest, and there is room for both.
-- Assumes nothing.
use mathlib.Core.Path.{sym}
use Rattle.spec.specs.Ascii.{ascii}
use Rattle.text.proofs.Growing.{then-room, grown_is, grown_then}
use Rattle.text.proofs.Pieces.{refused_rooms, refused_pieces}
use Rattle.text.proofs.writing.Text.put_refused.Goals as goal

pub put_labelled-requires : goal.put_labelled-requires
unfolding ascii
put_labelled-requires c = (refused_rooms c.args.why c.number.result c.number.ensures c.args.self.now c.requires).0

pub put_bytes-requires : goal.put_bytes-requires
unfolding ascii
put_bytes-requires c = then-room c.put_labelled.ensures _ (refused_rooms c.args.why c.number.result c.number.ensures c.args.self.now c.requires).1

pub returns : goal.returns
unfolding ascii
returns c = grown_is (grown_then c.put_labelled.ensures c.put_bytes.ensures) (sym (refused_pieces c.args.why c.number.result c.number.ensures))
