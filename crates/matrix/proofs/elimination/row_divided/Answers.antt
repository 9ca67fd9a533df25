use mathlib.Core.Path.{◌≡◌, refl, ap, ◌∙◌}
use mathlib.Core.List.{List, [], ◌∷◌, ◌++◌, map, append-nil}
use Prim.Native.Nat.{ℕ, zero, suc, ◌<◌}
use native.Mathlib.Numerals.{add-one}
use native.Mathlib.Omega.{arith}
use lib.ListN.{get_or, length, set, take, drop}
use lib.Seq.{take-length, drop-length}
use lib.Ieee.{Float, nan}
use borrow.Author.Rules.{rules}
use Rattle.spec.specs.Float.{over}
use Rattle.spec.specs.Matrix.{divided}
use Rattle.matrix.specs.Reading.{width}
use Rattle.matrix.proofs.elimination.row_divided.Goals as goal

-- One entry more is changed in its place.
one_more : {A : Type 0} (f : A → A) (x : A) (l : List A) (i : ℕ) → i < length l → let m = map f (take i l) ++ drop i l in
    set m i (f (get_or m i x)) ≡ map f (take (suc i) l) ++ drop (suc i) l
one_more f x [] i h = absurd (omega arith)
one_more f x (y ∷ l) zero h = refl
one_more {A} f x (y ∷ l) (suc i) h = ap (λ (m : List A). f y ∷ m) (one_more f x l i (omega arith))

pub loop-y-preserved : goal.loop-y-preserved
loop-y-preserved c =
    let i = c.loop-y.y-index in
    let x = c.args.x in
    let k : length c.args.v ≡ width = search rules in
    ap (λ (m : List Float). set m i (over (get_or m i nan) x)) c.loop-y.invariant
    ∙ rw add-one (one_more (λ y. over y x) nan c.args.v i (omega arith))

pub returns : goal.returns
unfolding divided
returns c =
    let v = c.args.v in
    let k : length v ≡ width = search rules in
    let e : c.loop-y.y-index ≡ length v = omega arith in
    c.loop-y.invariant ∙ rw (e, take-length v, drop-length, append-nil)
