-- The library counts the numbers of the rotations.
-- Assumes nothing.
use Rattle.std.proofs.Common.{rules, tests, ◌∙◌, refl}
use native.Mathlib.Nat.{sub-zero}
use Rattle.std.proofs.lemmas.Iterator.{YieldsList-from_range}
use Rattle.std.proofs.lemmas.Iterator.Consumers.{YieldsList-at, count_from_yields_List, YieldsList-from_filter}
use lib.Ieee.{of_bits}
use Rattle.spec.specs.Float.{zero_f}
use Rattle.text.proofs.Counted.{turns, turns-counted}
use Rattle.text.proofs.counting.rotations.Goals as goal

pub returns : goal.returns
unfolding zero_f of_bits
returns c =
    let a = c.args in
    let n = a.n in
    count_from_yields_List c.filter.result c.count.result c.count.ensures.ran
    (YieldsList-from_filter _ (turns a.matrices.now a.d) (YieldsList-at c.filter.ensures.source (YieldsList-from_range 0 n n refl (sub-zero n))) c.filter.ensures.closure (λ y t q k. (search rules, search (rules, tests))))
    ∙ turns-counted a.matrices.now a.d n
