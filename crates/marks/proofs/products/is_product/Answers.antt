-- Each entry of the row is what a has at the entry of g.
-- Assumes nothing.
use Rattle.std.proofs.Common.{rules, tests, ◌≡◌, ℕ, get_or}
use Rattle.std.proofs.lemmas.Iterator.{cases_from_all, YieldsList-from_slice, YieldsList-from_zip}
use Rattle.marks.proofs.products.Factored.{product_is}
use Rattle.marks.proofs.products.is_product.Goals as goal

pub returns : goal.returns
returns c e =
    let a = c.args in
    let same = cases_from_all c.all.new.self _ _ (λ (p : ℕ × ℕ). p.0 ≡ get_or a.a.now p.1 0) (λ _. Unit {0}) c.all.ensures.ran
    (YieldsList-from_zip (YieldsList-from_slice a.row.now cc) (YieldsList-from_slice a.g.now cc)) (λ x q k. search (rules, tests)) (λ x q k. tt) in
    product_is a.row.now a.a.now a.g.now c.requires.0 (rw e at same)
