-- One name opens every definition that the types and search calls, `kit_text` and `clean` compute through, so that an example is evaluated under
-- `unfolding evaluate`. The copying call is opened by `all` of NumberExamples.
-- Assumes nothing.
use Rattle.std.specs.Prelude.{ℕ}
use Rattle.std.specs.Float.Ieee
use Rattle.std.specs.Int.Count
use Rattle.spec.specs.Lists
use Rattle.spec.specs.Limits
use Rattle.spec.specs.Float
use Rattle.spec.specs.Matrix
use Rattle.spec.specs.Hull
use Rattle.spec.specs.Types
use Rattle.spec.specs.Mark
use Rattle.spec.specs.Bits
use Rattle.spec.specs.Judged
use Rattle.spec.specs.Sheet
use Rattle.spec.specs.Solid
use Rattle.spec.specs.Flags
use Rattle.spec.specs.Classes
use Rattle.spec.specs.Search
use Rattle.spec.specs.Calls
use Rattle.spec.specs.Ascii
use Rattle.spec.specs.KitText
use Rattle.spec.specs.Copying
use Rattle.spec.specs.Points
use Rattle.spec.specs.Clean

unfoldable pub evaluate : ℕ
unfolding Lists.without Lists.distinct Lists.place Lists.renumber Lists.count Lists.holds Lists.eq_list Lists.range Lists.keep Lists.sum Lists.join Lists.every Float.eps Float.zero_f Float.one_f Limits.max_magnitude Float.abs_f Float.finite Float.in_range Float.zip Float.add_on Float.total Float.dot Float.root_down Float.root_units Float.root Float.norm Matrix.columns Matrix.mul_vec Matrix.mul_mat Matrix.unit Matrix.identity Matrix.scan Matrix.pivot_row Matrix.swap_rows Matrix.divided Matrix.cleared Matrix.clear Matrix.column Matrix.eliminate Matrix.gauss_jordan Matrix.inverse Matrix.times_on Matrix.product Matrix.determinant Hull.along Hull.project Hull.rest Hull.joins Hull.add Hull.add_all Hull.hull_of Hull.origin Hull.distance Hull.nearer Hull.smaller Hull.listed_for Hull.listing Hull.classes_from Hull.classes Hull.class_numbers Types.subs Types.sups Types.proper_ranks Types.elements Types.type_count Types.start_at Types.start Types.key Types.keys Types.step Types.play Types.sweep_steps Types.sweep Types.settle Types.result Types.given Types.element_types_at Types.element_types Lists.no_repeats Lists.in_order Types.reach Types.vertices Types.vertex_sets Mark.image Mark.goes Mark.carries_element Mark.marked Bits.bit Bits.field Judged.◌>>=◌ Judged.◌>>◌ Judged.judge Judged.wanted Sheet.◌>>=◌ Sheet.◌>>◌ Sheet.done Sheet.judge Sheet.times Sheet.vertex_count Sheet.bits Sheet.rank Sheet.dimension Sheet.count Sheet.coordinate Sheet.sub_list Sheet.list Sheet.lists_at Sheet.lists Sheet.end Sheet.sheet Sheet.read_sheet Solid.proper_lists Solid.with_top Solid.solid_of Solid.entries Solid.roomy Solid.bound Solid.between Solid.diamond Solid.preflight Flags.first_to Flags.first_flag Flags.flags_to Flags.flags Flags.other Flags.change Classes.point_of Classes.distance_of Classes.distances Classes.by_rank Classes.class_table Classes.types_of Search.first_far Search.swap_with_first Search.exchanged_in Search.exchanged Search.changes Search.walk Search.flag_columns Search.candidate Search.same_types Search.insert Search.sorted Search.examples_go Search.mark_of Search.tested Search.members_of Search.is_rotation Search.rotations_of Search.full Search.all_finite Search.setting Search.search Calls.type_cells Calls.types_given Calls.types_written Calls.types_call Calls.have_room Calls.fitting Calls.kept_of Calls.outcome Calls.members_in Calls.rotations_in Calls.room_of Calls.search_written Calls.search_call Calls.rotations_call Ascii.ascii KitText.digits KitText.decimal KitText.refused_line KitText.type_line KitText.types_lines KitText.members_line KitText.last_line KitText.after_types KitText.kit_text Points.near Points.found Points.find Points.row_of Copying.spread Copying.copies_from Copying.copies Lists.written Clean.within_eps Clean.transitive Clean.same_integer Clean.same_float Clean.clean_points Clean.images Clean.listed_by Clean.clean_distances Clean.candidates Clean.clean Clean.multiplied Clean.clean_copying Ieee.span Ieee.climb Ieee.size Ieee.odd Ieee.units Ieee.round Ieee.neg Ieee.sum Ieee.add Ieee.sub Ieee.mul Ieee.div Ieee.lt Ieee.eq Ieee.le Ieee.of_fields Ieee.of_bits Ieee.to_bits Count.count_trailing_zeros
evaluate = 0
