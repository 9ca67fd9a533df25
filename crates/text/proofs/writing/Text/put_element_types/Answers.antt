-- The line of their number comes first, and then the types' own.
-- Assumes nothing.
use mathlib.Core.Path.{sym}
use Rattle.spec.specs.Ascii.{ascii}
use Rattle.text.proofs.Growing.{then-room, grown_is, grown_then}
use Rattle.text.proofs.Tables.{types_pieces, types-rooms}
use Rattle.text.proofs.writing.Text.put_element_types.Goals as goal

pub put_labelled-requires : goal.put_labelled-requires
unfolding ascii
put_labelled-requires c = (types-rooms c.args.table.now c.args.n c.requires.0 c.args.self.now c.requires.1).0

pub put_bytes-requires : goal.put_bytes-requires
unfolding ascii
put_bytes-requires c =
    then-room c.put_labelled.ensures _ (types-rooms c.args.table.now c.args.n c.requires.0 c.args.self.now c.requires.1).1

pub put_type_lines-requires : goal.put_type_lines-requires
unfolding ascii
put_type_lines-requires c =
    (c.requires.0, then-room (grown_then c.put_labelled.ensures c.put_bytes.ensures) _ (types-rooms c.args.table.now c.args.n c.requires.0 c.args.self.now c.requires.1).2)

pub returns : goal.returns
unfolding ascii
returns c =
    grown_is (grown_then (grown_then c.put_labelled.ensures c.put_bytes.ensures) c.put_type_lines.ensures)
    (sym (types_pieces c.args.table.now c.args.n c.requires.0))
