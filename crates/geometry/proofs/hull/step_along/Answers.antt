use mathlib.Core.Path.{◌≡◌, ap, ◌∙◌}
use native.Mathlib.Nat.{add-zero}
use native.Mathlib.Omega.{arith}
use mathlib.Core.List.{List}
use lib.ListN.{length, get_or}
use lib.Seq.{take-length, get_or-drop}
use lib.Ieee.{Float, nan}
use Rattle.float.proofs.Written.{none, next, end_plain, table_zip}
use Rattle.geometry.proofs.Along.{by}
use Rattle.geometry.proofs.hull.step_along.Goals as goal

pub loop-i-init : goal.loop-i-init
loop-i-init c = none

pub loop-i-preserved : goal.loop-i-preserved
loop-i-preserved c =
    let l = c.loop-i in let a = c.args in
    -- The cell that is written was not written before.
    let same : get_or l.q l.i nan ≡ get_or a.q.now l.i nan = simp (get_or-drop, add-zero) at (ap (λ (m : List Float). get_or m 0 nan) l.invariant.rest) in
    next _ (omega (arith, c.told-q, c.loop-i-test.true, c.requires)) (ap (λ (x : Float). by a.s x (get_or a.b.now l.i nan)) same) l.invariant

pub returns : goal.returns
returns c =
    let a = c.args in
    end_plain (length a.b.now) c.loop-i.auto.i-end c.loop-i-test.false c.loop-i.invariant
    ∙ table_zip (by a.s) nan nan a.q.now a.b.now (length a.b.now) (omega (arith, c.told-q, c.requires)) (omega arith)
    ∙ rw take-length
