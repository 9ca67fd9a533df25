-- What is left of the point is longer than EPS and joins the basis, or it is not and the hull stays as it is.
-- Assumes nothing.
use mathlib.Core.Path.{◌≡◌, ap, ◌∙◌}
use mathlib.Core.List.{List, [], ◌∷◌, ◌++◌, map}
use Prim.Native.Nat.{◌+◌, ◌-◌, ◌*◌}
use lib.ListN.{take, drop, length}
use native.Mathlib.Omega.{arith}
use lib.Ieee.{of_bits}
use borrow.Author.Rules.{rules}
use Rattle.spec.specs.Limits.{max_dimension}
use Rattle.spec.specs.Lists.{range}
use Rattle.spec.specs.Float.{eps, norm, over}
use Rattle.spec.specs.Matrix.{Vector}
use Rattle.spec.specs.Hull.{Hull, rest}
use Rattle.geometry.specs.Reading.{vector_at, hull_in}
use Rattle.geometry.proofs.Along.{part_is, vector_long}
use Rattle.geometry.proofs.Hulls.{one_more, joins-far, joins-near, add-far, add-near}
use Rattle.geometry.proofs.hull.Hull.add.Goals.{After-norm-length, Start}
use Rattle.geometry.proofs.hull.Hull.add.Goals as goal

-- The test is about the length of what is left of p.
length-is : (c : After-norm-length) →
    let a = c.args in
    c.norm-length.result ≡ norm (rest (hull_in (length a.p.now) a.self) a.p.now)
length-is c = c.norm-length.ensures ∙ ap norm c.rest-v.ensures

long : (c : Start) → length c.args.self.basis ≡ max_dimension * max_dimension
long c = search rules

pub returns-then-length : goal.returns-then-length
unfolding hull_in of_bits eps
returns-then-length c =
    let a = c.args in
    let d = length a.p.now in
    let n = a.self.count in
    let l = c.norm-length.result in
    let t = c.if-length.true in
    let h = hull_in d a.self in
    let p = a.p.now in
    let whole = long (goal.at.returns-then-length c).Start in
    let room : length (take (n * max_dimension + d - n * max_dimension) (drop (n * max_dimension) a.self.basis)) ≡ d =
    ap length (part_is d (n * max_dimension) a.self.basis) ∙ vector_long d n (n + 1) a.self.basis c.requires.0 (omega arith) (omega (arith, c.requires.1)) whole in
    let v = c.fill_divided.auto.cells ∙ room in
    let is = rw room at c.fill_divided.ensures ∙ ap (map (λ x. over x l)) c.rest-v.ensures in
    let basis = one_more d n a.self.basis c.fill_divided.new.cells c.requires.0 c.requires.1 whole v ∙ ap (λ (x : Vector). map (vector_at d a.self.basis) (range 0 n) ++ x ∷ []) is in
    let e = length-is (goal.at.returns-then-length c).After-norm-length in record {
      hull = ap {B = Hull} (λ (b : List Vector). record { offset = take d a.self.offset; basis = b }) basis ∙ add-far h p l e t;
      joined = joins-far h p l e t;
      counted = search rules;
    }

pub returns : goal.returns
unfolding of_bits eps
returns c =
    let e = length-is (goal.at.returns c).After-norm-length in
    record { hull = add-near _ _ _ e c.if-length.false; joined = joins-near _ _ _ e c.if-length.false; counted = search rules }
