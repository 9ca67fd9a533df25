-- The pieces are put one after another.
-- Assumes nothing.
use mathlib.Core.Path.{sym}
use Rattle.spec.specs.Ascii.{ascii}
use Rattle.text.proofs.Growing.{then-room, grown_is, grown_then}
use Rattle.text.proofs.Pieces.{member-rooms, member_pieces}
use Rattle.text.proofs.writing.Text.put_members.Goals as goal

pub put_labelled-requires : goal.put_labelled-requires
unfolding ascii
put_labelled-requires c = (member-rooms c.args.n c.args.confirmed c.args.rotations c.args.self.now c.requires).0

pub put_labelled-requires-2 : goal.put_labelled-requires-2
unfolding ascii
put_labelled-requires-2 c =
    then-room c.put_labelled.ensures _ (member-rooms c.args.n c.args.confirmed c.args.rotations c.args.self.now c.requires).1

pub put_labelled-requires-3 : goal.put_labelled-requires-3
unfolding ascii
put_labelled-requires-3 c =
    then-room (grown_then c.put_labelled.ensures c.put_labelled-2.ensures) _ (member-rooms c.args.n c.args.confirmed c.args.rotations c.args.self.now c.requires).2

pub put_bytes-requires : goal.put_bytes-requires
unfolding ascii
put_bytes-requires c =
    then-room (grown_then (grown_then c.put_labelled.ensures c.put_labelled-2.ensures) c.put_labelled-3.ensures) _
    (member-rooms c.args.n c.args.confirmed c.args.rotations c.args.self.now c.requires).3

pub returns : goal.returns
unfolding ascii
returns c =
    grown_is (grown_then (grown_then (grown_then c.put_labelled.ensures c.put_labelled-2.ensures) c.put_labelled-3.ensures) c.put_bytes.ensures)
    (sym (member_pieces c.args.n c.args.confirmed c.args.rotations))
