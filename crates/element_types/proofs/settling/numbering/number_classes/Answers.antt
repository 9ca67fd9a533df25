-- An element gets the number of its class, and a new class the next.
-- Assumes nothing.
use mathlib.Core.Path.{refl, ◌∙◌}
use native.Mathlib.Omega.{arith}
use Rattle.element_types.specs.Start.{ClassesFit}
use Rattle.element_types.proofs.settling.Scanned.{scan-first, firsts_in, class_old, class_new, scan_old, scan_new}
use Rattle.element_types.proofs.settling.numbering.number_classes.Goals.{In-loop-e, in-Some, in-None}
use Rattle.element_types.proofs.settling.numbering.number_classes.Goals as goal

-- There is still room.
fit : (c : In-loop-e) → ClassesFit c.args.classes.now c.loop-e.numbers c.loop-e.firsts
fit c = record { numbered = c.loop-e.auto.numbers ∙ c.requires.numbered; room = omega (arith, c.loop-e.auto.firsts, c.requires.room); small = c.requires.small }

pub loop-e-init : goal.loop-e-init
loop-e-init c = scan-first _ _ _

pub find_class-requires : goal.find_class-requires
find_class-requires c = firsts_in _ _ _ _ _ c.loop-e.invariant c.loop-e-test.true (fit (goal.at.find_class-requires c).In-loop-e)

pub loop-e-preserved : goal.loop-e-preserved
loop-e-preserved c =
    let f = fit (goal.at.loop-e-preserved c).In-loop-e in
    elim c.match-find_class.branch [
      | in-Some w ↦ let both = class_old _ _ _ _ _ c.loop-e.invariant c.loop-e-test.true f _ c.find_class.ensures _ w.in-Some.is in
          rw (w.numbers-is, w.firsts-is, w.m-is) (scan_old _ _ _ _ _ c.loop-e.invariant c.loop-e-test.true f _ both.0 (λ e. omega (arith, both.1)))
      | in-None w ↦ let e = class_new _ _ _ _ _ c.loop-e.invariant c.loop-e-test.true f _ c.find_class.ensures w.in-None.is in
          rw (w.numbers-is, w.firsts-is, w.m-is) (scan_new _ _ _ _ _ c.loop-e.invariant c.loop-e-test.true f _ e refl)
    ]
