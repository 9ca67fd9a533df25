-- Section 6's search is a chain of judgements: `spec`'s `setting` is cut into the tails that the program goes through, and what a call gives from
-- each.
-- Assumes nothing.
use Rattle.std.specs.Prelude.{ℕ, ◌-◌, Bool, true, false, List, Float, Ok}
use Rattle.spec.specs.declared.Refusal.TheVariants.{DoubleCorner, Centred, Flat, Unsettled}
use Rattle.spec.specs.Refusal.{Answer}
use Rattle.spec.specs.Lists.{range, no_repeats}
use Rattle.spec.specs.Types.{top, size, State}
use Rattle.spec.specs.Matrix.{Matrix, inverse}
use Rattle.spec.specs.Points.{near}
use Rattle.spec.specs.Judged.{Judged, ◌>>=◌, ◌>>◌, judge, wanted}
use Rattle.spec.specs.Solid.{Concrete}
use Rattle.spec.specs.Flags.{first_flag, flags}
use Rattle.spec.specs.Classes.{class_table, types_of}
use Rattle.spec.specs.Search.{Member, Setting, first_far, exchanged, flag_columns, members_of, rotations_of, all_finite}
use Rattle.spec.specs.Calls.{SearchOut, outcome, room_of, search_written}

-- Lists the members that a call lists: all of them, or the rotations only.
unfoldable pub wanted_of : Bool → List Member → List Member
wanted_of false ms = ms
wanted_of true ms = rotations_of ms

-- Gives what stands once every refusal is past: the solid c as read, the solid d that is searched, its types z and the inverse i.
unfoldable pub setting_of : Concrete → Concrete → State → Matrix → Setting
setting_of c d z i = record { read = c; classes = class_table c; searched = d; types = z; inv = i }

-- These are the judgements from 11 on, for a solid c as read that is searched as d with the types z.
unfoldable pub from11 : Concrete → Concrete → State → Judged Setting
from11 c d z = do
  i ← wanted Flat (inverse (flag_columns d (first_flag d.abs)))
  judge Flat (all_finite i)
  Ok (setting_of c d z i)

-- These are the judgements from 15 on.
unfoldable pub from15 : Concrete → Concrete → Judged Setting
from15 c d = do
  z ← wanted Unsettled (types_of d)
  from11 c d z

-- These are the judgements from 10 on, which include the exchange of facets.
unfoldable pub from10 : Concrete → Judged Setting
from10 c = do
  f ← wanted Centred (first_far c (range 0 (size c.abs (top c.abs - 1))))
  from15 c (exchanged c f)

-- These are the judgements from 9 on.
unfoldable pub from9 : Concrete → Judged Setting
from9 c = do
  judge DoubleCorner (no_repeats near c.points)
  from10 c

-- Gives the members of a setting, together with the solid as read.
unfoldable pub listed : Bool → Concrete → Judged Setting → Judged (Concrete × List Member)
listed rot c j = do
  w ← j
  Ok (c, wanted_of rot (members_of w (flags w.searched.abs)))

-- Gives the answer and outputs of a call, from one of these tails of the judgements on.
unfoldable pub call_from : Bool → Concrete → Judged Setting → SearchOut → Answer × SearchOut
call_from rot c j old = search_written (outcome (listed rot c j) (room_of old)) old

-- These are the outputs of a call, as they stand in the three lent buffers.
abbrev pub out_of : List Float → List ℕ → List ℕ → SearchOut
out_of ms rs ks = record { matrices = ms; rows = rs; marks = ks }
