-- The words say where the list starts and how long it is.
-- Assumes nothing.
use Rattle.std.proofs.Common.{arith, add-one, take, drop, ap, refl, ◌∙◌, ℕ}
use Rattle.ranked.specs.Words.{list_at}
use Rattle.ranked.proofs.lists.entries_at.Goals as goal

pub returns : goal.returns
unfolding list_at
returns c =
    ap (λ (n : ℕ). take n (drop c.get-start.result c.args.lists.now)) {y = c.get-n.result} (omega arith)
    ∙ rw (c.get-n.ensures, c.get-start.ensures, add-one) refl
