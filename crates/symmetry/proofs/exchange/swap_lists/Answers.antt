-- The library's swap of two words is that of the definition.
-- Assumes nothing.
use Rattle.std.proofs.lemmas.List.Edits.{swap_is}
use mathlib.Core.Path.{sym, ◌∙◌}
use Prim.Native.Nat.{◌+◌}
use native.Mathlib.Omega.{arith}
use Rattle.symmetry.specs.Swapping.{swapped}
use Rattle.symmetry.proofs.exchange.Swaps.{lists_are}
use Rattle.symmetry.proofs.exchange.swap_lists.Goals as goal

pub returns : goal.returns
unfolding swapped
returns c =
    let a = c.args in
    lists_are _ _ _ _ _ (c.swap.ensures.after ∙ sym (swap_is a.words.now a.i a.j 0 (omega arith) (omega arith)))
    (c.swap-2.ensures.after ∙ sym (swap_is c.swap.new.self (a.i + 1) (a.j + 1) 0 (omega (arith, c.swap.ensures.len)) (omega (arith, c.swap.ensures.len))))
