use mathlib.Core.Path.{◌≡◌, refl, sym, ap, ◌∙◌}
use mathlib.Core.List.{List, [], ◌∷◌, ◌++◌}
use Prim.Native.Nat.{ℕ, ◌+◌, ◌<◌}
use native.Mathlib.Omega.{arith}
use lib.ListN.{length, get_or, drop}
use lib.Seq.{length-take-le, set-get_or}
use borrow.Author.Rules.{rules}
use Rattle.spec.specs.Limits.{max_dimension}
use Rattle.spec.specs.Matrix.{Vector, mul_vec}
use Rattle.spec.specs.Points.{find, row_of}
use Rattle.laws.proofs.CopyLaws.{not_found}
use Rattle.matrix.specs.Reading.{corner}
use Rattle.points.specs.Finding.{found_at}
use Rattle.matrix.proofs.Corner.{length-corner}
use Rattle.matrix.proofs.Padded.{take-image}
use Rattle.points.specs.Listed.{listed}
use Rattle.points.proofs.Parts.{length-parts, part_at}
use Rattle.points.proofs.Finding.{at-number, is_missing}
use Rattle.points.proofs.Filled.{Piece, filled_none, filled_next, filled_open, filled_end, filled_wide, cell, cell_set, cell_is, length-row, one_held, one-other}
use Rattle.points.proofs.lookup.Lookup.row_of.Goals.{After-found, In-Some, Start}
use Rattle.points.proofs.lookup.Lookup.row_of.Goals as goal

-- This is the row over the points.
abbrev whole : (c : After-found) → List ℕ
whole c =
    let p = c.args.self.now.points in
    row_of (listed p) (corner p.dimension c.args.m)

-- This is the number of point k's image.
abbrev image_of : (c : After-found) → ℕ
image_of c =
    let p = c.args.self.now.points in
    find (listed p) (mul_vec (corner p.dimension c.args.m) (get_or (listed p) c.loop-k.k []))

-- The cells are as many as the points.
below : (c : After-found) → c.loop-k.k < c.args.self.now.points.count
below c = omega (arith, c.loop-k-test.true, length-take-le c.args.self.now.points.count c.args.row.now c.requires)

-- The image of copy k is what the code looked for.
image-is : (c : After-found) → found_at c.args.self.now.points.count (image_of c) ≡ c.found.result
image-is c =
    let p = c.args.self.now.points in
    let m = corner p.dimension c.args.m in
    let long : length c.args.m ≡ max_dimension = search rules in
    sym
    (c.found.ensures
    ∙ ap
    (λ (q : Vector). found_at p.count (find (listed p) q))
    (take-image p.dimension m (length-corner p.dimension c.args.m (omega arith)) _ _ c.image-q.ensures
    ∙ ap (mul_vec m) (c.loaded.ensures ∙ sym (part_at p.count p.dimension p.floats.now c.loop-k.k (below c)))))

-- The number of copy k's image is the row's cell k.
piece : (c : After-found) → (x : ℕ) → x ≡ image_of c → Piece (whole c) c.loop-k.k 1 (x ∷ [])
piece c x e =
    let p = c.args.self.now.points in
    let l = c.loop-k in
    let h = below c in
    let cs = listed p in
    let m = corner p.dimension c.args.m in
    let n = length-parts p.count p.dimension p.floats.now in
    cell (whole c) l.k x (omega (arith, h, n, length-row cs m)) (e ∙ sym (cell_is cs m l.k (omega (arith, h, n))))

-- The number that is found is that of the image.
number : (c : In-Some) →
    (let w = (goal.at.overflow_cast-cell c).After-found in (image_of w ≡ c.in-Some.at) × (c.in-Some.at < w.args.self.now.points.count))
number c = let w = (goal.at.overflow_cast-cell c).After-found in at-number (image-is w ∙ c.in-Some.is)

pub loop-k-init : goal.loop-k-init
loop-k-init c = filled_none

pub returns-in_default : goal.returns-in_default
returns-in_default c =
    let w = (goal.at.returns-in_default c).After-found in
    let p = w.args.self.now.points in
    let l = w.loop-k in
    let cs = listed p in
    let n = length-parts p.count p.dimension p.floats.now in
    let q = mul_vec (corner p.dimension w.args.m) (get_or cs l.k []) in
    let e : image_of w ≡ p.count = not_found cs q (is_missing cs q n (image-is w ∙ c.in_default.is)) ∙ n in
    filled_open (filled_wide p.count (omega (arith, below w)) c.requires l.invariant) (piece w (image_of w) refl) (one_held _ (image_of w) e) (ap (λ (x : List ℕ). drop (l.k + 1) (x ++ drop p.count w.args.row.now)) (set-get_or l.cell-items l.k 0))

pub overflow_cast-cell : goal.overflow_cast-cell
overflow_cast-cell c =
    omega (arith, number c, (goal.at.overflow_cast-cell c).Start.args.self.now.within_limits.1)

pub loop-k-preserved : goal.loop-k-preserved
loop-k-preserved c =
    let w = (goal.at.loop-k-preserved c).After-found in
    let l = w.loop-k in
    let at = c.in-Some.at in
    let i = number c in
    filled_next l.invariant (piece w at (sym i.0)) (one-other _ at (λ z. omega (arith, i.1))) (cell_set l.cell-items l.k at (omega (arith, w.loop-k-test.true, l.auto.cell-items)))

pub returns : goal.returns
returns c =
    let p = c.args.self.now.points in
    let l = c.loop-k in
    let long = length-take-le p.count c.args.row.now c.requires in
    filled_end
    (omega (arith, c.loop-k-test.false, long, length-row (listed p) (corner p.dimension c.args.m), length-parts p.count p.dimension p.floats.now))
    (filled_wide p.count (omega (arith, l.auto.k-end, long)) c.requires l.invariant)
