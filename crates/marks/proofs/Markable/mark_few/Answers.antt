use Rattle.std.proofs.Common.{rules, arith, length}
use Rattle.marks.proofs.products.Marked.{marks_are, elements_few}
use Rattle.marks.proofs.Markable.mark_few.Goals as goal

pub loop-k-init : goal.loop-k-init
loop-k-init c = let few = elements_few c.args.self.now.solid in record { marked = λ j k. absurd (omega arith); room = search rules }

pub returns : goal.returns
returns c =
    rw c.vertices-vertices.ensures at
    (marks_are c.args.self.now _ (length c.args.marks.now) c.args.rows.now _ c.loop-k.auto.marks (λ j k. c.loop-k.invariant.marked j (omega (arith, c.loop-k-test.false))))
