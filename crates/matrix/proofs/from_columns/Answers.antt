use mathlib.Core.Path.{◌≡◌, ap, ◌∙◌}
use native.Mathlib.Omega.{arith}
use lib.ListN.{length}
use lib.Ieee.{of_bits}
use borrow.Author.Rules.{rules}
use Rattle.spec.specs.Limits.{max_dimension}
use Rattle.spec.specs.Float.{zero_f}
use Rattle.matrix.specs.Reading.{padded_rows}
use Rattle.float.proofs.Written.{none, next}
use Rattle.matrix.proofs.Corner.{columns-corner}
use Rattle.matrix.proofs.Padded.{padded-rows_table}
use Rattle.matrix.proofs.from_columns.Goals as goal

pub loop-i-init : goal.loop-i-init
loop-i-init c = none

pub loop-i-preserved : goal.loop-i-preserved
loop-i-preserved c = next _ (omega arith) c.column_of.ensures c.loop-i.invariant

pub returns : goal.returns
unfolding of_bits zero_f
returns c =
    let h : length c.args.c ≡ max_dimension = search rules in
    padded-rows_table _ _ _ c.args.d c.loop-i.auto.i-end c.loop-i-test.false c.loop-i.invariant
    ∙ ap padded_rows (columns-corner c.args.d c.args.c (omega arith))
