use mathlib.Core.Path.{◌≡◌, sym, ap, ◌∙◌}
use mathlib.Core.List.{List, ◌++◌}
use Prim.Native.Nat.{ℕ, ◌*◌}
use native.Mathlib.Omega.{arith}
use lib.ListN.{drop}
use borrow.Author.Rules.{rules}
use Rattle.spec.specs.KitText.{type_line}
use Rattle.text.specs.Cells.{lines_to}
use Rattle.text.proofs.Growing.{grown_none, then-room, grown_is, grown_then}
use Rattle.text.proofs.Tables.{type_of, lines_none, lines_next, lines_room, type_read}
use Rattle.text.proofs.writing.Text.put_type_lines.Goals.{After-from-count}
use Rattle.text.proofs.writing.Text.put_type_lines.Goals as goal

-- The line of type i is made from the cells that were read.
read : (c : After-from-count)
    → type_line (type_of (drop (4 * c.loop-i.i) c.args.table.now))
    ≡ type_line (record { rank = c.from-rank.result; number = c.from-number.result; example = c.from-example.result; count = c.from-count.result })
read c =
    type_read c.args.table.now (4 * c.loop-i.i) _ _ _ _ c.from-rank.ensures c.from-number.ensures c.from-example.ensures c.from-count.ensures

pub loop-i-init : goal.loop-i-init
loop-i-init c = (search rules, grown_is (grown_none c.args.self.now) (sym (lines_none c.args.table.now)))

pub put_element_type-requires : goal.put_element_type-requires
put_element_type-requires c =
    then-room c.loop-i.invariant.1 _
    (rw (read (goal.at.put_element_type-requires c).After-from-count) at (lines_room c.args.self.now c.args.table.now c.loop-i.i c.args.n c.loop-i-test.true c.requires.0 c.requires.1))

pub loop-i-preserved : goal.loop-i-preserved
loop-i-preserved c =
    let t = c.args.table.now in (
      search rules,
      grown_is (grown_then c.loop-i.invariant.1 c.put_element_type.ensures)
          (ap (λ (y : List ℕ). lines_to t c.loop-i.i ++ y) (sym (read (goal.at.loop-i-preserved c).After-from-count)) ∙ sym (lines_next t c.loop-i.i (omega arith))),
    )
