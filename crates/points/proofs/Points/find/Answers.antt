-- The first that passes the test is the lowest that is near; points without axes are near everything.
-- Assumes nothing.
use mathlib.Core.Path.{◌≡◌}
use mathlib.Core.Bool.{true, false}
use Prim.Native.Nat.{ℕ}
use lib.ListN.{take}
use borrow.Author.Rules.{rules}
use borrow.Author.Tests.{tests}
use Rattle.std.proofs.lemmas.Iterator.{first_from_Range}
use Rattle.spec.specs.Points.{near}
use Rattle.points.specs.Listed.{listed_at}
use Rattle.points.proofs.Nearness.{near_flat}
use Rattle.points.proofs.Finding.{found_first}
use Rattle.points.proofs.Points.find.Goals as goal

pub returns : goal.returns
returns c =
    let p = c.args.self.now in
    let q = take p.dimension c.args.q in
    let test = λ (v : ℕ). near (listed_at p v) q in
    found_first p.count p.dimension p.floats.now q c.find.result
    (first_from_Range _ _ _ c.find.result (λ v. test v ≡ true) (λ v. test v ≡ false) c.find.ensures.ran (λ x q k. search (rules, tests, near_flat))
    (λ x q k. search (rules, tests)))
