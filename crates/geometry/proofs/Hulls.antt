-- This file says what the struct holds after a point is added to a hull, and what the definitions say in the two cases.
-- Assumes nothing.
use Rattle.std.specs.Prelude.{Some, None}
use mathlib.Core.Path.{◌≡◌, sym, ap, ap₂, ◌∙◌}
use mathlib.Core.Bool.{true, false}
use mathlib.Core.List.{List, [], ◌∷◌, ◌++◌, map}
use Prim.Native.Nat.{ℕ, ◌+◌, ◌-◌, ◌*◌, ◌≤◌, ◌<◌}
use native.Mathlib.Numerals.{add-one}
use native.Mathlib.Omega.{arith}
use lib.ListN.{take, drop, length, length-append}
use lib.Seq.{take-take, take_at, drop_at, length-take-le}
use borrow.Rule.Slice.PartMut.{post_of, put_mid}
use lib.Ieee.{Float, lt}
use Rattle.spec.specs.Limits.{max_dimension}
use Rattle.spec.specs.Lists.{range}
use Rattle.spec.specs.Float.{eps, over, norm}
use Rattle.spec.specs.Matrix.{Vector}
use Rattle.spec.specs.Hull.{Hull, rest, joins, add}
use Rattle.laws.proofs.Lists.{map_same, of_range}
use Rattle.float.proofs.Written.{range_snoc, drop-take}
use Rattle.geometry.specs.Reading.{vector_at}

-- Lists that agree up to n agree in each part up to n.
agree : {A : Type 0} (n a d : ℕ) (r l : List A) → a + d ≤ n → n ≤ length r → n ≤ length l → take n r ≡ take n l → take d (drop a r) ≡ take d (drop a l)
agree n a d r l h hr hl e =
    sym (drop-take a d r)
    ∙ ap (drop a) (sym (take-take (a + d) n r h) ∙ ap (take (a + d)) e ∙ take-take (a + d) n l h)
    ∙ drop-take a d l

-- One vector more joins the basis, where it is put behind the others.
module _ (d n : ℕ) (b v : List Float) (hd : d ≤ max_dimension) (hn : n < max_dimension) (lb : length b ≡ max_dimension * max_dimension) (lv : length v ≡ d) where
  abbrev at : ℕ
  at = n * max_dimension

  abbrev after : List Float
  after = put_mid at (at + d - at) b v

  front-long : length (take at b) ≡ at
  front-long = length-take-le at b (omega arith)

  after-long : at ≤ length after
  after-long = simp length-append (omega (arith, front-long))

  pub one_more : map (vector_at d after) (range 0 (n + 1)) ≡ map (vector_at d b) (range 0 n) ++ v ∷ []
  one_more =
      let front : take at after ≡ take at b = take_at (take at b) (v ++ post_of at (at + d - at) b) at front-long in
      let last : vector_at d after n ≡ v = ap (take d) (drop_at (take at b) (v ++ post_of at (at + d - at) b) at front-long) ∙ take_at v (post_of at (at + d - at) b) d lv in
      ap (λ (k : ℕ). map (vector_at d after) (range 0 k)) (add-one n)
      ∙ sym (range_snoc (vector_at d after) 0 n n (omega arith))
      ∙ ap₂
      (λ (y : List Vector) (z : Vector). y ++ z ∷ [])
      (map_same (vector_at d after) (vector_at d b) (range 0 n) (λ k m. let o = of_range 0 n k m in agree at (k * max_dimension) d after b (omega arith) after-long (omega arith) front))
      last

-- The length of what is left of p decides between the two cases.
module _ (h : Hull) (p : Vector) (l : Float) (e : l ≡ norm (rest h p)) where
  pub joins-far : lt eps l ≡ true → Some l ≡ joins h p
  unfolding joins
  joins-far t = rw (joins, ← e, t) (ap Some e)

  pub joins-near : lt eps l ≡ false → None ≡ joins h p
  unfolding joins
  joins-near t = rw (joins, ← e, t)

  pub add-far : lt eps l ≡ true → record { offset = h.offset; basis = h.basis ++ map (λ x. over x l) (rest h p) ∷ [] } ≡ add h p
  unfolding add
  add-far t = rw (add, ← joins-far t)

  pub add-near : lt eps l ≡ false → h ≡ add h p
  unfolding add
  add-near t = rw (add, ← joins-near t)
