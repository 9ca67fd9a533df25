-- This file says what a list of an element's vertices is, and follows the scans of a rank's vertex sets.
-- Assumes nothing.
use mathlib.Core.Path.{◌≡◌, refl, sym, ap, ◌∙◌}
use mathlib.Core.Bool.{Bool, true, false, not, ◌&&◌, ◌||◌, false≢true}
use mathlib.Core.List.{List, [], ◌∷◌, map}
use Prim.Native.Nat.{ℕ, zero, suc, ◌+◌, ◌-◌, ◌≤◌, ◌<◌}
use native.Mathlib.Numerals.{add-one}
use native.Mathlib.Omega.{arith}
use lib.ListN.{length, get_or, take, drop, length-append, length-drop}
use lib.Seq.{take_at, get_or-drop}
use borrow.Author.Tests.{eq-eqb}
use Rattle.std.specs.List.{list_any, enumerate_from}
use Rattle.std.proofs.lemmas.List.FromFn.{fill_by_all}
use Rattle.ranked.proofs.Chains.{range_is}
use lib.Dec.{eqb}
use Rattle.spec.specs.Lists.{In, range, keep, every, holds, eq_list, no_repeats, in_order}
use Rattle.spec.specs.Types.{Solid, size, reach, vertices, vertex_sets}
use Rattle.laws.proofs.Lists.{of_range, length-range, get_d_table, length_table}
use Rattle.laws.proofs.Counts.{lists, in_keep}
use Rattle.ranked.specs.Marks.{Front}
use Rattle.ranked.proofs.Agree.{every_same}
use Rattle.symmetry.proofs.Apart.{alone_all}
use Rattle.symmetry.specs.Fingerprints.{fingerprint_of}

-- ---- an element's vertices

pub vertex_below : (s : Solid) (r e v : ℕ) → In v (vertices s r e) → v < size s 1
unfolding vertices in_order
vertex_below s r e v m = omega (arith, of_range 0 (size s 1) v (in_keep (λ u. holds eqb u (reach s r e)) v (range 0 (size s 1)) m).0)

length-keep : (p : ℕ → Bool) (l : List ℕ) → length (keep p l) ≤ length l
unfolding keep
length-keep p [] = omega arith
length-keep p (x ∷ l) = go (p x) refl (length-keep p l)
  where
    go : (b : Bool) → p x ≡ b → length (keep p l) ≤ length l → length (keep p (x ∷ l)) ≤ length (x ∷ l)
    go true e ih = rw (e, keep) (omega arith)
    go false e ih = rw (e, keep) (omega arith)

vertices_few : (s : Solid) (r e : ℕ) → length (vertices s r e) ≤ size s 1
unfolding vertices in_order
vertices_few s r e = omega (arith, length-keep (λ u. holds eqb u (reach s r e)) (range 0 (size s 1)), length-range 0 (size s 1))

-- The vertices are as a buffer holds them.
module _ (s : Solid) (r e n : ℕ) (old list : List ℕ) (f : Front (vertices s r e) old list n) where
  pub listed : take n list ≡ vertices s r e
  listed = ap (take n) f.cells ∙ take_at (vertices s r e) (drop n old) n (sym f.many)

  pub list_long : n ≤ length list
  list_long = omega (arith, f.many, ap length f.cells, length-append (vertices s r e) (drop n old))

  pub list_few : n ≤ size s 1
  list_few = omega (arith, f.many, vertices_few s r e)

-- ---- a rank's sets

module _ (s : Solid) (r : ℕ) where
  length-sets : length (vertex_sets s r) ≡ size s r
  unfolding vertex_sets
  length-sets = length_table (vertices s r) (size s r)

  set_at : (e : ℕ) → e < size s r → get_or (vertex_sets s r) e [] ≡ vertices s r e
  unfolding vertex_sets
  set_at e h = get_d_table (vertices s r) [] (size s r) e h

  -- These are the sets from number `from` on.
  pub sets_from : (from : ℕ) → from ≤ size s r → drop from (vertex_sets s r) ≡ map (λ e. vertices s r (from + e)) (range 0 (size s r - from))
  sets_from from h =
      fill_by_all (λ e. vertices s r (from + e)) (drop from (vertex_sets s r)) (size s r - from) [] (length-drop from (vertex_sets s r) ∙ ap (λ n. n - from) length-sets)
      (λ e k. get_or-drop from (vertex_sets s r) e [] ∙ set_at (from + e) (omega (arith, h)))
      ∙ ap (map (λ e. vertices s r (from + e))) (range_is 0 (size s r - from))

-- ---- a look by fingerprints

-- Each set of f k, f (k + 1), .. is looked at with its fingerprint beside it, which is that of x wherever the set is x.
module _ (x : List ℕ) (f : ℕ → List ℕ) where
  abbrev pub looked : ℕ × ℕ → Bool
  looked q = eqb q.1 (fingerprint_of x) && eq_list (f q.0) x

  pub looked_at : (k n : ℕ) → list_any looked (enumerate_from k (map (λ e. fingerprint_of (f e)) (range k n))) ≡ holds eq_list x (map f (range k n))
  unfolding holds range
  looked_at k zero = refl
  looked_at k (suc n) = go (eqb (fingerprint_of (f k)) (fingerprint_of x)) (eq_list (f k) x) (λ y. eq-eqb _ _ (ap fingerprint_of (lists.sound (f k) x y))) (rw add-one (looked_at (suc k) n))
    where
      go : (a b : Bool) → (b ≡ true → a ≡ true) → {t u : Bool} → t ≡ u → ((a && b) || t) ≡ elim b as (λ z. Bool) [ true ↦ true | false ↦ u ]
      go true true h e = refl
      go true false h e = e
      go false true h e = absurd (false≢true (h refl))
      go false false h e = e

-- No set of a rank is held by those after it exactly where the rank repeats none.
pub sets_alone : (s : Solid) (r : ℕ) → every (λ e. not (holds eq_list (vertices s r e) (drop (suc e) (vertex_sets s r)))) (range 0 (size s r)) ≡ no_repeats eq_list (vertex_sets s r)
sets_alone s r =
    every_same _ _ (range 0 (size s r)) (λ e m. ap (λ (x : List ℕ). not (holds eq_list x (drop (suc e) (vertex_sets s r)))) (sym (set_at s r e (omega (arith, of_range 0 (size s r) e m)))))
    ∙ alone_all eq_list [] (vertex_sets s r) 0 (size s r) (omega (arith, length-sets s r))
