-- The product of two confirmed rows is confirmed, because it takes an element where a takes what b takes it to.
-- Assumes nothing.
use mathlib.Core.Path.{◌≡◌, sym, ◌∙◌, ap}
use Prim.Native.Nat.{ℕ, zero, suc, pred, ◌<◌}
use mathlib.Core.Bool.{true, ◌&&◌}
use mathlib.Core.List.{List, map}
use native.Mathlib.Omega.{arith}
use native.Mathlib.Nat.{not-suc-le-zero}
use lib.ListN.{get_or, length-map}
use borrow.Author.Tests.{lt-ltb, eq-eqb}
use Rattle.spec.specs.Lists.{In, place, eq_list, range, in_order}
use Rattle.spec.specs.Types.{Solid, size, subs, proper_ranks, Classes, reach, vertices, vertex_sets}
use Rattle.spec.specs.Demand.{Sound, Proper}
use Rattle.spec.specs.Mark.{sets_apart, image, goes, carries_element, marked}
use Rattle.laws.proofs.Lists.{map_in, in_map, in_range_lem, of_range, get_or-map, once_map}
use Rattle.laws.proofs.Counts.{lists}
use Rattle.laws.proofs.Steps.{proper?}
use Rattle.laws.proofs.Result.{proper-rank}
use Rattle.laws.proofs.Marked.{both, every_in, in_order_lem, of_order, order_same, goes-proper, goes_improper, goes-vertices, Permutes, row_low, ElementFit, fit_of}
use Rattle.marks.proofs.Sets.{every_of}
use Rattle.marks.proofs.Rows.{same_place, permutes-of, permutes-vertices}
use Rattle.marks.proofs.Confirmed.{carries_at, carries_all, marked-full, marked_is}
use Rattle.marks.specs.Rows.{permutes}
use Rattle.marks.specs.Products.{composed}

-- ---- what a confirmed row is

module _ (s : Solid) (cls : Classes) (row : List ℕ) where
  fit_is : (r e : ℕ) → ElementFit s cls row r e → carries_element s cls row r e ≡ true
  unfolding carries_element
  fit_is r e f = rw (lt-ltb (goes s row r e) (size s r) f.inside, eq-eqb (cls r (goes s row r e)) (cls r e) f.class, f.onto) (lists.pass _)

  record Confirmed : Type 0 where
    sets : sets_apart s ≡ true
    permutes : Permutes s row
    fit : (r e : ℕ) → Proper s r → e < size s r → ElementFit s cls row r e

  confirmed : marked s cls row ≡ true → Confirmed
  confirmed ok =
      let full = marked-full s cls row ok in
      let h₂ = both (sets_apart s && permutes row) (carries_all s cls row) (sym (marked_is s cls row full) ∙ ok) in
      let h₁ = both (sets_apart s) (permutes row) h₂.0 in
      record {
        sets = h₁.0;
        permutes = permutes-vertices s row full h₁.1;
        fit = λ r i p h. fit_of s cls row r i (every_in (carries_element s cls row r) (range 0 (size s r))
            (every_in (carries_at s cls row) (proper_ranks s) h₂.1 r (proper-rank s r p)) i (in_range_lem 0 (size s r) i (omega arith) (omega arith)));
      }

  is_marked : Confirmed → marked s cls row ≡ true
  unfolding proper_ranks
  is_marked c =
      let p = c.permutes in
      rw (marked_is s cls row p.full, c.sets, permutes-of row (record { low = λ v m. rw p.full (p.low v m); once = p.once }))
      (every_of (carries_at s cls row) (proper_ranks s)
      (λ r m. every_of (carries_element s cls row r) (range 0 (size s r))
      (λ e k. let i = of_range 1 _ r m in let j = of_range 0 (size s r) e k in fit_is r e (c.fit r e (omega arith, omega arith) (omega arith)))))

-- ---- images of images

-- Where h is g and then f, the set of h's values is that of f's on the set of g's.
order_then : (n : ℕ) (f g h : ℕ → ℕ) (l : List ℕ) → ((x : ℕ) → In x l → (g x < n) × (h x ≡ f (g x))) → in_order n (map h l) ≡ in_order n (map f (in_order n (map g l)))
order_then n f g h l k = order_same n (map h l) (map f (in_order n (map g l))) there back
  where
    there : (v : ℕ) → v < n → In v (map h l) → In v (map f (in_order n (map g l)))
    there v b m =
        let u = in_map h v l m in
        let x = k u.0 u.1 in
        rw (u.2 ∙ x.1) (map_in f (g u.0) (in_order n (map g l)) (in_order_lem n (map g l) (g u.0) x.0 (map_in g u.0 l u.1)))

    back : (v : ℕ) → v < n → In v (map f (in_order n (map g l))) → In v (map h l)
    back v b m =
        let u = in_map f v (in_order n (map g l)) m in
        let t = in_map g u.0 l (of_order n (map g l) u.0 u.1).1 in
        rw (u.2 ∙ ap f t.2 ∙ sym (k t.0 t.1).1) (map_in h t.0 l t.1)

module _ (s : Solid) (a b : List ℕ) (q : Permutes s b) where
  image-composed : (r e : ℕ) → Proper s r → goes s b r e < size s r → image s (composed a b) r e ≡ image s a r (goes s b r e)
  unfolding image vertices composed
  image-composed r e p h =
      order_then (size s 1) (λ v. get_or a v 0) (λ v. get_or b v 0) (λ v. get_or (composed a b) v 0) (vertices s r e)
      (λ v m. let k = (of_order (size s 1) (reach s r e) v m).0 in (row_low s b q v k, get_or-map (λ u. get_or a u 0) 0 0 b v (rw q.full k)))
      ∙ ap (λ (l : List ℕ). in_order (size s 1) (map (λ v. get_or a v 0) l)) (sym (goes-vertices s b r e p h))

  -- The product takes an element where a takes what b takes it to.
  goes-composed : (r e : ℕ) → goes s b r e < size s r → goes s (composed a b) r e ≡ goes s a r (goes s b r e)
  goes-composed r e h = go (proper? s r)
    where
      go : Dec (Proper s r) → goes s (composed a b) r e ≡ goes s a r (goes s b r e)
      go (yes p) =
          goes-proper s (composed a b) r e p ∙ ap (λ (l : List ℕ). place eq_list l (vertex_sets s r)) (image-composed r e p h)
          ∙ sym (goes-proper s a r (goes s b r e) p)
      go (no n) = goes_improper s (composed a b) r e n ∙ sym (goes_improper s b r e n) ∙ sym (goes_improper s a r (goes s b r e) n)

-- ---- the product

permutes-composed : (s : Solid) (a b : List ℕ) → Permutes s a → Permutes s b → Permutes s (composed a b)
unfolding composed
permutes-composed s a b p q = record {
  full = length-map b to ∙ q.full;
  low = λ v m. let u = in_map to v b m in rw u.2 (row_low s a p u.0 (q.low u.0 u.1));
  once = once_map to b (λ u v mu mv e. same_place a p.once u v (rw p.full (q.low u mu)) (rw p.full (q.low v mv)) e) q.once;
}
  where
    to : ℕ → ℕ
    to v = get_or a v 0

module _ (s : Solid) (w : Sound s) (cls : Classes) (a b : List ℕ) (ca : Confirmed s cls a) (cb : Confirmed s cls b) where
  inside : (r e : ℕ) → e < size s r → goes s b r e < size s r
  inside r e h = go (proper? s r)
    where
      go : Dec (Proper s r) → goes s b r e < size s r
      go (yes p) = (cb.fit r e p h).inside
      go (no n) = rw (goes_improper s b r e n) h

  below : (r e x : ℕ) → Proper s r → In x (subs s r e) → x < size s (pred r)
  below zero e x p m = absurd (not-suc-le-zero p.0)
  below (suc r) e x p m = w.below r e x m

  -- The set of where e's subs go is a's of b's.
  subs-composed : (r e : ℕ) → Proper s r
      → in_order (size s (pred r)) (map (goes s (composed a b) (pred r)) (subs s r e))
      ≡ in_order (size s (pred r)) (map (goes s a (pred r)) (in_order (size s (pred r)) (map (goes s b (pred r)) (subs s r e))))
  subs-composed r e p =
      order_then (size s (pred r)) (goes s a (pred r)) (goes s b (pred r)) (goes s (composed a b) (pred r)) (subs s r e)
      (λ x m. let i = inside (pred r) x (below r e x p m) in (i, goes-composed s a b cb.permutes (pred r) x i))

  fit_composed : (r e : ℕ) → Proper s r → e < size s r → ElementFit s cls (composed a b) r e
  fit_composed r e p h =
      let fb = cb.fit r e p h in
      let fa = ca.fit r (goes s b r e) p fb.inside in
      let z = goes-composed s a b cb.permutes r e fb.inside in
      record { inside = rw z fa.inside; class = rw z (fa.class ∙ fb.class); onto = rw (z, subs-composed r e p, ← fb.onto) fa.onto }

pub marked-composed : (s : Solid) → Sound s → (cls : Classes) → (a b : List ℕ) → marked s cls a ≡ true → marked s cls b ≡ true → marked s cls (composed a b) ≡ true
marked-composed s w cls a b ma mb =
    let ca = confirmed s cls a ma in
    let cb = confirmed s cls b mb in
    is_marked s cls (composed a b) record { sets = ca.sets; permutes = permutes-composed s a b ca.permutes cb.permutes; fit = fit_composed s w cls a b ca cb }
