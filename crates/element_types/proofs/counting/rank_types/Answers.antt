use Rattle.std.proofs.Common.{take, drop, ap, refl, ◌∙◌, ℕ, arith}
use Rattle.element_types.specs.State.{types_in}
use Rattle.element_types.proofs.counting.rank_types.Goals as goal

pub returns : goal.returns
unfolding types_in
returns c =
    ap (λ (n : ℕ). take n (drop c.types-from.result c.args.words.now)) {y = c.size-n.result} (omega arith)
    ∙ rw (c.types-from.ensures, c.size-n.ensures) refl
