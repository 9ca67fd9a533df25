-- A row found to be a product of two confirmed rows is confirmed.
-- Assumes nothing.
use mathlib.Core.Path.{◌≡◌, sym, ◌∙◌}
use Prim.Native.Nat.{ℕ}
use mathlib.Core.List.{List}
use native.Mathlib.Omega.{arith}
use lib.ListN.{length, get_or, length-map}
use lib.Seq.{ext_get_or}
use Rattle.std.specs.List.{AllWithin, zip}
use Rattle.std.proofs.lemmas.Slice.Zip.{length-zip, get_or-zip}
use Rattle.spec.specs.Search.{mark_of}
use Rattle.spec.specs.Demand3Calls.{row_at}
use Rattle.laws.proofs.Lists.{get_or-map}
use Rattle.laws.proofs.Listed.{one_means}
use Rattle.marks.specs.Products.{composed}
use Rattle.ranked.specs.Lying.{abs_of}
use Rattle.marks.specs.declared.Markable.{Markable}
use Rattle.marks.specs.Carrying.{classes_of}
use Rattle.marks.specs.Marking.{MarkedTo, Factored}
use Rattle.marks.proofs.products.Composed.{marked-composed}

-- Each pair of an entry of the row and one of g holds what a takes the latter to, so the row is the product.
pub product_is : (row a g : List ℕ) → length row ≡ length g → AllWithin (λ (p : ℕ × ℕ). p.0 ≡ get_or a p.1 0) (zip row g) 0 (length (zip row g)) → row ≡ composed a g
unfolding composed
product_is row a g l h =
    let n : length (zip row g) ≡ length row = omega (arith, length-zip row g) in
    ext_get_or 0 row (composed a g) (l ∙ sym (length-map g _)) (λ j k.
    rw (get_or-zip row g j (0, 0) k (omega arith)) at (h j (0, 0) (omega arith) (omega arith)) ∙ sym (get_or-map (λ v. get_or a v 0) 0 0 g j (omega arith)))

-- ---- the mark

-- Where `done` has the marks of the rows before, a product of two of them that are confirmed is confirmed.
pub factored_one : (m : Markable) (v : ℕ) (rows done : List ℕ) → MarkedTo m v rows done (length done) → Factored v rows done
    → 1 ≡ mark_of (abs_of m.solid) (classes_of m) (row_at v (length done) rows)
unfolding mark_of
factored_one m v rows done all f =
    let s = abs_of m.solid in
    let ma = one_means s (classes_of m) (row_at v f.a rows) (sym (all f.a f.a-before) ∙ f.a-marked) in
    let mg = one_means s (classes_of m) (row_at v f.g rows) (sym (all f.g f.g-before) ∙ f.g-marked) in
    rw (f.product, mark_of, marked-composed s m.solid.held.sound (classes_of m) (row_at v f.a rows) (row_at v f.g rows) ma mg)
