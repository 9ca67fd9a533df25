use native.Mathlib.Omega.{arith}
use mathlib.Core.Path.{◌≡◌, ◌∙◌}
use Prim.Native.Nat.{◌<◌}
use Rattle.spec.specs.Mark.{carries_element}
use Rattle.ranked.specs.Words.{size_at}
use Rattle.ranked.specs.Lying.{abs_of}
use Rattle.ranked.proofs.Solids.{sizes_are}
use Rattle.marks.specs.Carrying.{classes_of}
use Rattle.marks.proofs.Carried.{carried_by, elements_stop, elements-next, elements-end}
use Rattle.marks.proofs.Permutation.carry_rank.Goals.{In-loop-e, In-Some, After-same_class}
use Rattle.marks.proofs.Permutation.carry_rank.Goals as goal

more : (c : In-loop-e) → c.loop-e.e < size_at c.args.self.now.markable.solid.shape c.args.r
more c = rw c.size-n.ensures at c.loop-e-test.true

-- What the element goes to is an element of the rank.
inside : (c : In-Some) → c.in-Some.x < size_at c.args.self.now.markable.solid.shape c.args.r
inside c = let s = c.args.self.now.markable.solid in rw (sizes_are s.shape s.lists.now s.held c.args.r) at c.in-Some.ensures.1

-- Whether it is carried is what the comparison of the classes says.
told : (c : After-same_class) → let p = c.args.self.now in carries_element (abs_of p.markable.solid) (classes_of p.markable) p.row.now c.args.r c.loop-e.e ≡ c.same_class.result
told c =
    carried_by c.args.self.now c.args.r c.loop-e.e c.in-Some.x (rw c.size-n.ensures at c.loop-e-test.true) c.in-Some.ensures _ c.classes-cells.ensures.value _ c.same_class.ensures

pub returns-in_default-clause-value : goal.returns-in_default-clause-value
returns-in_default-clause-value c = elements_stop _ c.loop-e.invariant (more (goal.at.returns-in_default-clause-value c).In-loop-e) c.in_default.ensures

pub offset_bounds-cells-x : goal.offset_bounds-cells-x
offset_bounds-cells-x c = omega (arith, inside (goal.at.offset_bounds-cells-x c).In-Some, c.classes-cells.ensures.len)

pub bounds-cells-x : goal.bounds-cells-x
bounds-cells-x c = omega (arith, inside (goal.at.bounds-cells-x c).In-Some, c.classes-cells.ensures.len)

pub returns-then-not-same_class-clause-value : goal.returns-then-not-same_class-clause-value
returns-then-not-same_class-clause-value c =
    elements_stop _ c.loop-e.invariant (more (goal.at.returns-then-not-same_class-clause-value c).In-loop-e)
    (told (goal.at.returns-then-not-same_class-clause-value c).After-same_class ∙ c.if-not-same_class.true)

pub overflow_cast-goes : goal.overflow_cast-goes
overflow_cast-goes c =
    omega (arith, inside (goal.at.overflow_cast-goes c).In-Some, c.args.self.now.markable.solid.held.few c.args.r (omega (arith, c.requires.high)))

pub loop-e-preserved : goal.loop-e-preserved
loop-e-preserved c =
    elements-next _ c.loop-e.invariant (more (goal.at.loop-e-preserved c).In-loop-e) _ c.in-Some.ensures
    (told (goal.at.loop-e-preserved c).After-same_class ∙ c.if-not-same_class.false) _ (omega (arith, c.start-base.ensures))

pub returns-clause-value : goal.returns-clause-value
returns-clause-value c = elements-end _ c.loop-e.invariant (rw c.size-n.ensures at c.loop-e-test.false)
