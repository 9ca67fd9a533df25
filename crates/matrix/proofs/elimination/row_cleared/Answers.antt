use mathlib.Core.Path.{◌≡◌, ap, ◌∙◌}
use native.Mathlib.Omega.{arith}
use mathlib.Core.List.{map}
use lib.ListN.{get_or, length}
use lib.Seq.{take_all}
use lib.Ieee.{Float, nan}
use borrow.Author.Rules.{rules}
use Rattle.spec.specs.Float.{zero_f, minus, times}
use Rattle.spec.specs.Lists.{range}
use Rattle.spec.specs.Matrix.{cleared}
use Rattle.matrix.specs.Reading.{width}
use Rattle.float.proofs.Written.{table_zip}
use Rattle.matrix.proofs.Made.{made}
use Rattle.matrix.proofs.Sized.{get_d_any}
use Rattle.matrix.proofs.elimination.row_cleared.Goals as goal

pub returns : goal.returns
unfolding cleared
returns c =
    let a = c.args in
    let v = a.v in
    let k : length v ≡ width = search rules in
    let m : length a.pivot ≡ width = search rules in
    made _ _ (λ j. minus (get_or v j nan) (times (get_or v a.c nan) (get_or a.pivot j nan))) (λ i y q h. search rules) c.from_fn.result width nan c.from_fn.ensures.items
    ∙ ap (λ (x : Float). map (λ j. minus (get_or v j nan) (times x (get_or a.pivot j nan))) (range 0 width)) (get_d_any v a.c nan zero_f (omega arith))
    ∙ table_zip (λ y z. minus y (times (get_or v a.c zero_f) z)) nan nan v a.pivot width (omega arith) (omega arith)
    ∙ rw (take_all width v (omega arith), take_all width a.pivot (omega arith))
