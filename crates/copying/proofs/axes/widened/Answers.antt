use mathlib.Core.Path.{◌≡◌, ap, ◌∙◌}
use mathlib.Core.List.{[], map-id}
use native.Mathlib.Omega.{arith}
use lib.ListN.{get_or, length}
use lib.Seq.{take_all}
use lib.Ieee.{of_bits}
use borrow.Author.Rules.{rules}
use Rattle.spec.specs.Float.{zero_f}
use Rattle.float.proofs.Written.{none, next, table_map}
use Rattle.matrix.specs.Reading.{padded_rows}
use Rattle.matrix.proofs.Padded.{padded-rows_table}
use Rattle.copying.proofs.axes.widened.Goals as goal

pub loop-i-init : goal.loop-i-init
loop-i-init c = (search rules, none)

pub loop-i-preserved : goal.loop-i-preserved
loop-i-preserved c = (search rules, next _ (omega arith) c.load.ensures c.loop-i.invariant.1)

pub returns : goal.returns
unfolding of_bits zero_f
returns c =
    let m = c.args.m in
    let k : length m ≡ 3 = search rules in
    padded-rows_table (λ i. get_or m i []) _ _ 3 c.loop-i.invariant.0 c.loop-i-test.false c.loop-i.invariant.1
    ∙ ap padded_rows (table_map (λ x. x) [] m 3 (omega arith) ∙ map-id _ ∙ take_all 3 m (omega arith))
