use mathlib.Core.Path.{◌≡◌}
use native.Mathlib.Omega.{arith}
use lib.ListN.{length}
use Rattle.geometry.proofs.elements.Ranks.{first_turn, turn_few, next_turn, last_turn}
use Rattle.geometry.proofs.elements.classes_of_rank.Goals as goal

pub loop-e-init : goal.loop-e-init
loop-e-init c = first_turn

pub list_distance-taken-requires : goal.list_distance-taken-requires
list_distance-taken-requires c = omega (arith, turn_few c.loop-e.invariant, c.loop-e-test.true, c.requires.room, c.loop-e.auto.listed)

pub loop-e-preserved : goal.loop-e-preserved
loop-e-preserved c =
    next_turn c.loop-e.invariant (omega (arith, c.loop-e-test.true, c.loop-e.auto.cells)) c.element_distance-x.ensures c.list_distance-taken.ensures

pub returns : goal.returns
returns c =
    let long : length c.loop-e.cells ≡ length c.args.cells.now = c.loop-e.auto.cells in
    last_turn c.loop-e.invariant c.requires.proper_rank.1 (omega (arith, c.requires.room)) (omega (arith, c.loop-e.auto.e-end)) (omega (arith, c.loop-e-test.false))
