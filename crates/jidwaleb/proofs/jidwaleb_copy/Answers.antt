-- The answer is that of `copying::copy`, as its code, and the outputs are its own.
-- Assumes nothing.
use mathlib.Core.Path.{ap, ◌∙◌}
use mathlib.Core.List.{List}
use Prim.Native.Nat.{ℕ, ◌^◌, ◌<◌}
use lib.Ieee.{Float}
use Rattle.spec.specs.Refusal.{answer_count, Answer}
use Rattle.spec.specs.Copying.{copy_call}
use Rattle.jidwaleb.specs.Code.{code_of, coded}
use Rattle.jidwaleb.proofs.Coded.{decoded}
use Rattle.jidwaleb.proofs.Counted.{copy-count}
use Rattle.jidwaleb.proofs.jidwaleb_copy.Goals.{After-copy}
use Rattle.jidwaleb.proofs.jidwaleb_copy.Goals as goal

abbrev answer : Answer × List Float × List ℕ → Answer
answer x = x.0

-- The call's count fits.
counted : (w : After-copy) →
    let a = w.args in
    answer_count (copy_call a.dimension a.points.now a.turns.now a.copies.now a.table.now).0 < 2 ^ 32
counted w =
    let a = w.args in
    copy-count a.dimension a.points.now a.turns.now a.copies.now a.table.now

pub code-requires : goal.code-requires
code-requires c =
    rw (ap answer c.copy.ensures) (counted (goal.at.code-requires c).After-copy)

pub returns : goal.returns
returns c =
    let p = c.code.ensures in record {
      as_defined = ap (λ (n : ℕ). (n, c.copy.new.copies, c.copy.new.table)) p ∙ ap coded c.copy.ensures;
      decoded = decoded _ (counted (goal.at.returns c).After-copy) _ (p ∙ ap (λ (x : Answer × List Float × List ℕ). code_of x.0) c.copy.ensures);
    }
