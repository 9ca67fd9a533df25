-- The types are compared at each rank.
-- Assumes nothing.
use Rattle.std.proofs.Common.{rules, tests, arith, ◌∙◌, ◌+◌, suc}
use Rattle.std.proofs.lemmas.Iterator.{serves_from_Range}
use Rattle.ranked.proofs.Chains.{all_numbers}
use Rattle.symmetry.proofs.candidates.Types.{agree, type_in, agree_is}
use Rattle.symmetry.proofs.candidates.same_types.Goals as goal

pub all-requires-clause-callable : goal.all-requires-clause-callable
all-requires-clause-callable c =
    let a = c.args in
    serves_from_Range (λ r q k. search (rules, tests)) (λ r low high.
    let one = type_in a.sh a.words.now c.requires.held c.requires.sh_in_bounds a.flag.elements c.requires.flag r (omega (arith, high)) in
    let other = type_in a.sh a.words.now c.requires.held c.requires.sh_in_bounds a.first.elements c.requires.first_flag r (omega (arith, high)) in
    grind (arith))

pub returns : goal.returns
returns c =
    let a = c.args in
    all_numbers (agree a.words.now a.sh a.flag.elements a.first.elements) 0 (a.sh.rank + 1) (suc a.sh.rank) (cc) (omega arith) c.all.ensures.ran (λ r t q k. search (rules, tests))
    ∙ agree_is a.sh a.words.now c.requires.held c.requires.sh_in_bounds a.flag.elements a.first.elements c.requires.flag c.requires.first_flag
