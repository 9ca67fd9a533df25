use mathlib.Core.Path.{◌≡◌, sym, ap, ◌∙◌}
use mathlib.Core.List.{List, map}
use Prim.Native.Nat.{ℕ, ◌*◌, ◌≤◌}
use native.Mathlib.Omega.{arith}
use lib.ListN.{length, take, drop}
use lib.Seq.{take_at, take_all, length-take-le}
use lib.Ieee.{Float}
use Rattle.matrix.specs.Reading.{leading, corner}
use Rattle.float.proofs.Written.{none, next, end}
use Rattle.points.proofs.Parts.{parts_table, parts-take}
use Rattle.points.proofs.Tails.{tail_is}
use Rattle.points.proofs.matrix_at.Goals as goal

at_most : {i k n : ℕ} → k ≡ n → i ≤ k → i ≤ n
at_most e h = rw e at h

at_least : {i k n : ℕ} → k ≡ n → k ≤ i → n ≤ i
at_least e h = rw e at h

pub loop-i-init : goal.loop-i-init
loop-i-init c = none

pub loop-i-preserved : goal.loop-i-preserved
loop-i-preserved c =
    let a = c.args in
    let l = c.loop-i in
    let rest = tail_is {A = Float} a.matrices.now a.matrices.now (a.j * (a.d * a.d)) (omega arith) in
    next _ (omega arith) (c.loaded.ensures ∙ ap (λ (x : List Float). take a.d (drop (l.i * a.d) x)) rest) l.invariant

pub returns : goal.returns
unfolding corner leading
returns c =
    let a = c.args in
    let l = c.loop-i in
    let long : length l.row-items ≡ a.d = l.auto.row-items ∙ length-take-le a.d _ (omega arith) in
    ap (map (take a.d)) (take_at l.row-items _ a.d long ∙ sym (take_all a.d l.row-items (omega (arith, long))))
    ∙ end a.d (at_most (sym l.auto.row-items ∙ long) l.auto.i-end) (at_least (sym l.auto.row-items ∙ long) c.loop-i-test.false) l.invariant
    ∙ parts_table a.d a.d (drop (a.j * (a.d * a.d)) a.matrices.now)
    ∙ sym (parts-take a.d a.d (drop (a.j * (a.d * a.d)) a.matrices.now))
