-- The pieces are put one after another.
-- Assumes nothing.
use mathlib.Core.Path.{sym}
use Rattle.spec.specs.Ascii.{ascii}
use Rattle.text.proofs.Growing.{then-room, grown_is, grown_then}
use Rattle.text.proofs.Pieces.{type-rooms, type_pieces}
use Rattle.text.proofs.writing.Text.put_element_type.Goals as goal

pub put_decimal-requires : goal.put_decimal-requires
put_decimal-requires c = let t = c.args.of in (type-rooms t.rank t.number t.example t.count c.args.self.now c.requires).0

pub put_labelled-requires : goal.put_labelled-requires
unfolding ascii
put_labelled-requires c =
    let t = c.args.of in
    then-room c.put_decimal.ensures _ (type-rooms t.rank t.number t.example t.count c.args.self.now c.requires).1

pub put_labelled-requires-2 : goal.put_labelled-requires-2
unfolding ascii
put_labelled-requires-2 c =
    let t = c.args.of in
    then-room (grown_then c.put_decimal.ensures c.put_labelled.ensures) _ (type-rooms t.rank t.number t.example t.count c.args.self.now c.requires).2

pub put_labelled-requires-3 : goal.put_labelled-requires-3
unfolding ascii
put_labelled-requires-3 c =
    let t = c.args.of in
    then-room (grown_then (grown_then c.put_decimal.ensures c.put_labelled.ensures) c.put_labelled-2.ensures) _
    (type-rooms t.rank t.number t.example t.count c.args.self.now c.requires).3

pub put_bytes-requires : goal.put_bytes-requires
unfolding ascii
put_bytes-requires c =
    let t = c.args.of in
    then-room (grown_then (grown_then (grown_then c.put_decimal.ensures c.put_labelled.ensures) c.put_labelled-2.ensures) c.put_labelled-3.ensures) _
    (type-rooms t.rank t.number t.example t.count c.args.self.now c.requires).4

pub returns : goal.returns
unfolding ascii
returns c =
    let t = c.args.of in
    grown_is (grown_then (grown_then (grown_then (grown_then c.put_decimal.ensures c.put_labelled.ensures) c.put_labelled-2.ensures) c.put_labelled-3.ensures) c.put_bytes.ensures)
    (sym (type_pieces t.rank t.number t.example t.count))
