-- Where every point passes the test, each is clear of those before it.
-- Assumes nothing.
use mathlib.Core.Path.{refl}
use Prim.Native.Nat.{ℕ}
use native.Mathlib.Nat.{sub-zero}
use borrow.Author.Rules.{rules}
use borrow.Author.Tests.{tests}
use Rattle.std.proofs.lemmas.Iterator.{cases_from_all, YieldsList-from_range}
use Rattle.points.specs.Guesses.{Clear}
use Rattle.points.proofs.Lone.{all_below, each_lone}
use Rattle.points.proofs.lookup.is_lone.Goals as goal

pub returns : goal.returns
returns c e =
    let p = c.args.points.now in
    let n = p.count in
    let clear = λ (k : ℕ). Clear p.dimension p.floats.now k k in
    each_lone n
    (all_below clear _ n
    (cases_from_all _ _ c.all.result clear (λ (k : ℕ). Unit {0}) c.all.ensures.ran (YieldsList-from_range 0 n n refl (sub-zero n))
    (λ x q k. search (rules, tests))
    (λ x q k. tt))
    e)
