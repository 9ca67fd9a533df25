-- The classes come first, and then the start.
-- Assumes nothing.
use native.Mathlib.Omega.{arith}
use Prim.Native.Nat.{◌≤◌}
use lib.ListN.{length}
use Rattle.ranked.specs.Words.{lists_of}
use Rattle.geometry.specs.Listed.{Classed}
use Rattle.geometry.proofs.elements.Room.{roomy-floats}
use Rattle.element_types.proofs.settling.Benched.{cells_in_lem, rest_is, startable, at-start}
use Rattle.element_types.proofs.settling.begin.Goals.{After-all_classes, After-classes-cell}
use Rattle.element_types.proofs.settling.begin.Goals as goal

-- The solid of the words is classed.
classed : (c : After-all_classes)
    → let a = c.args in
    Classed a.sh (lists_of a.sh a.words.now) a.floats.now c.all_classes.new.floats c.all_classes.result
classed c = rw (c.solid.ensures.shape, c.solid.ensures.lists) at c.all_classes.ensures

-- The classes lie within the floats.
inside : (c : After-classes-cell) → c.classes-cell.result ≤ length c.all_classes.new.floats
inside c = omega (arith, c.classes-cell.ensures, cells_in_lem _ _ _ c.requires _ _ (rw (c.solid.ensures.shape, c.solid.ensures.lists) at c.all_classes.ensures))

pub all_classes-requires : goal.all_classes-requires
all_classes-requires c = rw c.solid.ensures.shape (roomy-floats _ _ c.requires.held _ c.requires.floats)

pub slice_bounds-start-count : goal.slice_bounds-start-count
slice_bounds-start-count c = inside (goal.at.slice_bounds-start-count c).After-classes-cell

pub slice_bounds-start-start : goal.slice_bounds-start-start
slice_bounds-start-start c = inside (goal.at.slice_bounds-start-start c).After-classes-cell

pub start-requires : goal.start-requires
start-requires c = startable _ _ _ c.requires _ _ (classed (goal.at.start-requires c).After-all_classes) _ (rest_is _ _ _ c.classes-cell.ensures)

pub returns : goal.returns
returns c = at-start _ _ _ c.requires _ _ (classed (goal.at.returns c).After-all_classes) _ (rest_is _ _ _ c.classes-cell.ensures) _ c.start.auto.words c.start.ensures
