-- The library finds the first facet that passes the test.
-- Assumes nothing.
use mathlib.Core.Path.{◌≡◌, ap, ◌∙◌}
use Prim.Native.Nat.{◌-◌}
use mathlib.Core.Bool.{true, false}
use lib.Ieee.{of_bits}
use borrow.Author.Rules.{rules}
use borrow.Author.Tests.{tests}
use Rattle.std.proofs.lemmas.Iterator.{first_from_Range}
use Rattle.spec.specs.Float.{eps}
use Rattle.spec.specs.Lists.{range}
use Rattle.spec.specs.Search.{first_far}
use Rattle.ranked.specs.Words.{size_at}
use Rattle.ranked.specs.Lying.{concrete_of}
use Rattle.search.proofs.Tested.{far, far-first, test_is}
use Rattle.search.proofs.judging.first_far.Goals as goal

pub returns : goal.returns
unfolding of_bits eps
returns c =
    let s = c.args.realized.now in
    let C = concrete_of s in
    let e : c.size.result ≡ size_at s.solid.shape (s.solid.shape.rank - 1) = search rules in
    far-first C c.size.result c.find.result
    (first_from_Range _ _ _ c.find.result (λ f. far C f ≡ true) (λ f. far C f ≡ false) c.find.ensures.ran
    (λ x q k. search (rules, tests, test_is))
    (λ x q k. search (rules, tests, test_is)))
    ∙ ap (λ n. first_far C (range 0 n)) e
