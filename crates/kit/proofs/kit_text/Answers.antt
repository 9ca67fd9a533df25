-- The text goes by the sheet's length and the types call's answer.
-- Assumes nothing.
use mathlib.Core.Path.{refl}
use native.Mathlib.Omega.{arith}
use Rattle.spec.specs.declared.Refusal.TheVariants.{CutSheet}
use Rattle.text.proofs.Growing.{grown_is, grown_then}
use Rattle.text.proofs.Pieces.{refused_long}
use Rattle.kit.proofs.Parts.{cut_text, done_text, refused_text}
use Rattle.kit.proofs.kit_text.Goals as goal

pub put_refused-requires : goal.put_refused-requires
put_refused-requires c = omega (arith, c.requires, refused_long CutSheet)

pub returns-then-sheet-gt-LONGEST : goal.returns-then-sheet-gt-LONGEST
returns-then-sheet-gt-LONGEST c = grown_is c.put_refused.ensures (cut_text _ c.if-sheet-gt-LONGEST.true)

pub put_types-requires : goal.put_types-requires
put_types-requires c =
    let d = done_text _ _ _ _ _ _ c.element_types-answer.ensures.as_defined c.if-sheet-gt-LONGEST.false refl refl refl refl _ c.in-Ok.is in
    (omega arith, d.0, c.requires)

pub put_refused-requires-in-Err : goal.put_refused-requires-in-Err
put_refused-requires-in-Err c = omega (arith, c.requires, refused_long c.in-Err.refused.why)

pub returns-in-Ok : goal.returns-in-Ok
returns-in-Ok c =
    let d = done_text _ _ _ _ _ _ c.element_types-answer.ensures.as_defined c.if-sheet-gt-LONGEST.false refl refl refl refl _ c.in-Ok.is in
    grown_is (grown_then c.put_types.ensures.0 c.last_line.ensures) d.1

pub returns-in-Err : goal.returns-in-Err
returns-in-Err c =
    let e = c.element_types-answer.ensures.as_defined in
    let l = refused_text _ _ _ _ _ _ e c.if-sheet-gt-LONGEST.false refl refl refl refl _ c.in-Err.is in
    grown_is c.put_refused-in-Err.ensures l
