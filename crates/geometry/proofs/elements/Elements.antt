-- An element has a vertex, each of its vertices is a vertex of the solid, and its coordinates are those that stand in the floats.
-- Assumes nothing.
use mathlib.Core.Path.{◌≡◌, refl, sym, ap, ◌∙◌}
use mathlib.Core.Logic.{inl, inr}
use mathlib.Core.List.{List, [], ◌∷◌, ◌++◌, map}
use Prim.Native.Nat.{ℕ, zero, suc, ◌-◌, ◌*◌, ◌≤◌, ◌<◌}
use native.Mathlib.Omega.{arith}
use lib.ListN.{length, get_or, take, drop}
use lib.Seq.{take_at}
use lib.Dec.{eqb}
use Rattle.spec.specs.Lists.{In, range, holds, join, in_order}
use Rattle.spec.specs.Types.{Solid, size, subs, reach, vertices}
use Rattle.spec.specs.Demand.{Sound}
use Rattle.spec.specs.Matrix.{Vector}
use Rattle.spec.specs.Hull.{hull_of, distance}
use Rattle.spec.specs.Classes.{point_of, distance_of}
use Rattle.laws.proofs.Lists.{in_get_d, in_range_lem, of_range, map_same}
use Rattle.laws.proofs.Counts.{keep_in, in_keep, holds_in}
use Rattle.points.proofs.Parts.{part_at, parts-take}
use Rattle.ranked.specs.declared.solid.Realized.{Realized}
use Rattle.ranked.specs.Words.{size_at}
use Rattle.ranked.specs.Lying.{abs_of, concrete_of}
use Rattle.ranked.specs.Marks.{Front}
use Rattle.ranked.proofs.Solids.{sizes_are}

-- ---- vertices

join_in : (g : ℕ → List ℕ) (t x : ℕ) (l : List ℕ) → In x l → In t (g x) → In t (join (map g l))
unfolding join
join_in g t x [] x3 h = elim x3 [ ]
join_in g t x (y ∷ l) (inl e) h = left (g y) (rw (← e) h)
  where
    left : (a : List ℕ) → In t a → In t (a ++ join (map g l))
    left [] x5 = elim x5 [ ]
    left (u ∷ a) (inl q) = inl q
    left (u ∷ a) (inr q) = inr (left a q)
join_in g t x (y ∷ l) (inr m) h = right (g y) (join_in g t x l m h)
  where
    right : (a : List ℕ) → In t (join (map g l)) → In t (a ++ join (map g l))
    right [] q = q
    right (u ∷ a) q = inr (right a q)

-- Going down from an element, a vertex is met.
module _ (s : Solid) (sound : Sound s) (filled : (r e : ℕ) → e < size s (suc r) → 0 < length (subs s (suc r) e)) where
  some_reach : (r e : ℕ) → e < size s (suc r) → (v : ℕ) × In v (reach s (suc r) e) × (v < size s 1)
  unfolding reach
  some_reach zero e h = (e, inl refl, h)
  some_reach (suc r) e h =
      let l = subs s (suc (suc r)) e in
      let x = get_or l 0 0 in
      let m = in_get_d 0 l 0 (filled (suc r) e h) in
      let q = some_reach r x (sound.below (suc r) e x m) in
      (q.0, join_in (λ f. reach s (suc r) f) q.0 x l m q.1, q.2)

  some_vertex : (r e : ℕ) → e < size s (suc r) → 0 < length (vertices s (suc r) e)
  unfolding vertices in_order
  some_vertex r e h =
      let q = some_reach r e h in
      let l = reach s (suc r) e in
      filled_by q.0 (vertices s (suc r) e) (keep_in (λ v. holds eqb v l) q.0 (range 0 (size s 1)) (in_range_lem 0 (size s 1) q.0 (omega arith) (omega (arith, q.2))) (holds_in q.0 l q.1))
    where
      filled_by : (t : ℕ) (l : List ℕ) → In t l → 0 < length l
      filled_by t [] m = elim m [ ]
      filled_by t (x ∷ l) m = omega arith

vertex_below : (s : Solid) (r e v : ℕ) → In v (vertices s r e) → v < size s 1
unfolding vertices in_order
vertex_below s r e v m = omega (arith, of_range 0 (size s 1) v (in_keep (λ u. holds eqb u (reach s r e)) v (range 0 (size s 1)) m).0)

-- ---- what the buffer's numbers give

module _ (z : Realized) (r e n : ℕ) (old list : List ℕ) (f : Front (vertices (abs_of z.solid) r e) old list n) where
  abbrev s : Solid
  s = abs_of z.solid

  abbrev d : ℕ
  d = z.solid.shape.dimension

  abbrev many : ℕ
  many = size_at z.solid.shape 1

  abbrev point : ℕ → Vector
  point v = take d (drop (v * d) z.floats.now)

  listed : take n list ≡ vertices s r e
  listed = ap (take n) f.cells ∙ take_at (vertices s r e) (drop n old) n (sym f.many)

  sizes : (q : ℕ) → size s q ≡ size_at z.solid.shape q
  sizes = sizes_are z.solid.shape z.solid.lists.now z.solid.held

  vertex_in : (v : ℕ) → In v (vertices s r e) → v < many
  vertex_in v m = rw (sizes 1) at (vertex_below s r e v m)

  point_is : (v : ℕ) → v < many → point v ≡ point_of (concrete_of z) v
  unfolding point_of
  point_is v k = sym (ap (λ (ps : List Vector). get_or ps v []) (parts-take many d z.floats.now) ∙ part_at many d z.floats.now v k)

  pub distance_is : distance d (hull_of d (map point (take n list))) ≡ distance_of (concrete_of z) r e
  unfolding distance_of
  distance_is =
      ap (λ (l : List Vector). distance d (hull_of d l))
      (ap (map point) listed ∙ map_same _ _ (vertices s r e) (λ v m. point_is v (vertex_in v m)))

  pub some_listed : 1 ≤ r → e < size_at z.solid.shape r → 0 < length (take n list)
  some_listed low i =
      let q : suc (r - 1) ≡ r = omega arith in
      let k : e < size s (suc (r - 1)) = rw (q, sizes r) i in
      let some : 0 < length (vertices s (suc (r - 1)) e) = some_vertex s z.solid.held.sound z.solid.held.filled (r - 1) e k in
      rw (listed, ← q) some

  pub listed_in : (j : ℕ) → j < length (take n list) → get_or (take n list) j 0 < many
  listed_in j k = vertex_in _ (rw listed (in_get_d 0 (vertices s r e) j (rw listed at k)))
