-- Swapping, dividing and clearing are the three steps of the definition, on the entries that are read.
-- Assumes nothing.
use mathlib.Core.Path.{◌≡◌, sym, ◌∙◌}
use mathlib.Core.List.{[]}
use Prim.Native.Nat.{◌+◌}
use native.Mathlib.Omega.{arith}
use lib.ListN.{length}
use borrow.Author.Rules.{rules}
use Rattle.std.proofs.lemmas.List.Edits.{swap_is}
use Rattle.spec.specs.Limits.{max_dimension}
use Rattle.spec.specs.Matrix.{swap_rows}
use Rattle.matrix.proofs.Leading.{column-leading}
use Rattle.matrix.proofs.elimination.column.Goals.{Start}
use Rattle.matrix.proofs.elimination.column.Goals as goal

swapped : (c : goal.After-rows_cleared) → c.swap.new.self ≡ swap_rows c.args.rows c.args.p c.args.c
unfolding swap_rows
swapped c =
    let a = c.args in
    let k : length a.rows ≡ max_dimension = search rules in
    c.swap.ensures.after ∙ sym (swap_is a.rows a.p a.c [] (omega arith) (omega arith))

pub returns : goal.returns
returns c =
    let a = c.args in
    c.rows_cleared.ensures
    ∙ rw (c.row_divided-pivot.ensures, swapped c)
    (column-leading a.d (a.d + a.d) a.rows a.p a.c a.x (omega arith) (omega arith))
