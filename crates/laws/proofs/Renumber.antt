-- These are the laws of `renumber`: who shares a number, that the numbers hang on nothing else, and how many numbers there are.
-- Assumes nothing.
use mathlib.Core.Path.{◌≡◌, refl, sym, ◌∙◌, ap, subst}
use mathlib.Core.Logic.{inl, inr}
use Prim.Native.Nat.{ℕ, suc, ◌≤◌, ◌<◌}
use mathlib.Core.Bool.{Bool}
use mathlib.Core.List.{List, [], ◌∷◌, map}
use native.Mathlib.Omega.{arith}
use lib.ListN.{length, get_or, length-map}
use lib.Seq.{ext_get_or}
use Rattle.spec.specs.Lists.{In, without, distinct, place, renumber}
use Rattle.laws.proofs.Distinct.{Test, Split, split, without_yes, without_no, in_without, length_without, pigeons, in_distinct, of-distinct, once_distinct, place_yes, place_no, place_at, place_inj}
use Rattle.laws.proofs.Lists.{in_get_d, map_in, in_map, map_same, map-map, get_or-map, Injective}

-- The list ts parts no two places that us does not part, where a and b are what is read past the end.
abbrev pub Coarser : {A B : Type 0} → A → B → List A → List B → Type 0
Coarser a b ts us = (i j : ℕ) → i < length us → j < length us → get_or us i b ≡ get_or us j b → get_or ts i a ≡ get_or ts j a

module _ {A : Type 0} (same : A → A → Bool) (test : Test same) where
  pub length-renumber : (l : List A) → length (renumber same l) ≡ length l
  unfolding renumber
  length-renumber l = length-map l (λ x. place same x (distinct same l))

  pub renumber-at : (d : A) (l : List A) (i : ℕ) → i < length l → get_or (renumber same l) i 0 ≡ place same (get_or l i d) (distinct same l)
  unfolding renumber
  renumber-at d l i h = get_or-map (λ x. place same x (distinct same l)) d 0 l i h

  -- The numbers part what the keys part, and nothing else.
  pub renumber_fine : (d : A) (l : List A) → Coarser d 0 l (renumber same l)
  renumber_fine d l i j hi hj e =
      let hi' : i < length l = rw length-renumber at hi in
      let hj' : j < length l = rw length-renumber at hj in
      place_inj same test (distinct same l)
      (in_distinct same test (get_or l i d) l (in_get_d d l i hi'))
      (in_distinct same test (get_or l j d) l (in_get_d d l j hj'))
      (sym (renumber-at d l i hi') ∙ e ∙ renumber-at d l j hj')

  pub renumber_coarse : (d : A) (l : List A) → Coarser 0 d (renumber same l) l
  renumber_coarse d l i j hi hj e = renumber-at d l i hi ∙ ap (λ (x : A). place same x (distinct same l)) e ∙ sym (renumber-at d l j hj)

-- Gives the entry of us where ts has t first.
pub glue : {A B : Type 0} → (A → A → Bool) → B → List A → List B → A → B
glue same b ts us t = get_or us (place same t ts) b

module _ {A B : Type 0} (same_a : A → A → Bool) (test_a : Test same_a) (same_b : B → B → Bool) (test_b : Test same_b) where
  -- ---- a map that takes no two members to one keeps the numbers

  without-map : (f : A → B) (k : A) (l : List A) → ((x : A) → In x l → f x ≡ f k → x ≡ k) → without same_b (f k) (map f l) ≡ map f (without same_a k l)
  unfolding without
  without-map f k [] i = refl
  without-map f k (x ∷ l) i = go (split same_a test_a x k) (split same_b test_b (f x) (f k)) (without-map f k l (λ y h. i y (inr h)))
    where
      go : Split same_a test_a x k → Split same_b test_b (f x) (f k) → without same_b (f k) (map f l) ≡ map f (without same_a k l)
          → without same_b (f k) (f x ∷ map f l) ≡ map f (without same_a k (x ∷ l))
      go (inl (p, e)) (inl (q, e')) ih = rw (without_yes same_a test_a l e, without_yes same_b test_b (map f l) e') ih
      go (inl (p, e)) (inr (q, e')) ih = absurd (q (ap f p))
      go (inr (p, e)) (inl (q, e')) ih = absurd (p (i x (inl refl) q))
      go (inr (p, e)) (inr (q, e')) ih = rw (without_no same_a test_a l e, without_no same_b test_b (map f l) e') (ap (λ (r : List B). f x ∷ r) ih)

  pub distinct-map : (f : A → B) (l : List A) → Injective f l → distinct same_b (map f l) ≡ map f (distinct same_a l)
  unfolding distinct
  distinct-map f [] i = refl
  distinct-map f (x ∷ l) i =
      ap (λ (r : List B). f x ∷ without same_b (f x) r) (distinct-map f l (λ y z hy hz. i y z (inr hy) (inr hz)))
      ∙ ap (λ (r : List B). f x ∷ r) (without-map f x (distinct same_a l) (λ y h. i y x (inr (of-distinct same_a test_a y l h)) (inl refl)))

  place_map : (f : A → B) (k : A) (l : List A) → ((x : A) → In x l → f x ≡ f k → x ≡ k) → place same_b (f k) (map f l) ≡ place same_a k l
  unfolding place
  place_map f k [] i = refl
  place_map f k (x ∷ l) i = go (split same_a test_a x k) (split same_b test_b (f x) (f k)) (place_map f k l (λ y h. i y (inr h)))
    where
      go : Split same_a test_a x k → Split same_b test_b (f x) (f k) → place same_b (f k) (map f l) ≡ place same_a k l
          → place same_b (f k) (f x ∷ map f l) ≡ place same_a k (x ∷ l)
      go (inl (p, e)) (inl (q, e')) ih = rw (place_yes same_a test_a l e, place_yes same_b test_b (map f l) e')
      go (inl (p, e)) (inr (q, e')) ih = absurd (q (ap f p))
      go (inr (p, e)) (inl (q, e')) ih = absurd (p (i x (inl refl) q))
      go (inr (p, e)) (inr (q, e')) ih = rw (place_no same_a test_a l e, place_no same_b test_b (map f l) e') (ap suc ih)

  renumber-map : (f : A → B) (l : List A) → Injective f l → renumber same_b (map f l) ≡ renumber same_a l
  unfolding renumber
  renumber-map f l i =
      map-map f (λ y. place same_b y (distinct same_b (map f l))) l
      ∙ map_same (λ x. place same_b (f x) (distinct same_b (map f l))) (λ x. place same_a x (distinct same_a l)) l
      (λ x h. ap (λ (d : List B). place same_b (f x) d) (distinct-map f l i)
      ∙ place_map f x (distinct same_a l) (λ y m. i y x (of-distinct same_a test_a y l m) h))

  -- ---- what is coarser is a map of what is finer

  pub factor : (a : A) (b : B) (ts : List A) (us : List B) → length us ≡ length ts → Coarser b a us ts → us ≡ map (glue same_a b ts us) ts
  unfolding glue
  factor a b ts us e c =
      ext_get_or b us (map (glue same_a b ts us) ts) (e ∙ sym (length-map ts (glue same_a b ts us)))
      (λ i h. let h' : i < length ts = rw e at h in
      let p = place_at same_a test_a a ts (in_get_d a ts i h') in
      c i (place same_a (get_or ts i a) ts) h' p.0 (sym p.1) ∙ sym (get_or-map (glue same_a b ts us) a b ts i h'))

  -- So the numbers hang only on who shares.
  pub renumber-pattern : (a : A) (b : B) (ts : List A) (us : List B) → length us ≡ length ts → Coarser b a us ts → Coarser a b ts us
      → renumber same_b us ≡ renumber same_a ts
  unfolding glue
  renumber-pattern a b ts us e c c' = ap (renumber same_b) (factor a b ts us e c) ∙ renumber-map (glue same_a b ts us) ts inj
    where
      inj : Injective (glue same_a b ts us) ts
      inj x y hx hy q =
          let px = place_at same_a test_a a ts hx in
          let py = place_at same_a test_a a ts hy in
          sym px.1 ∙ c' (place same_a x ts) (place same_a y ts) (rw e px.0) (rw e py.0) q ∙ py.1

  -- ---- how many there are

  -- If everything in the coarser one comes from d, then d is as long.
  bounded : (f : A → B) (ts : List A) (d : List A) → ((t : A) → In t ts → (u : A) × In u d × (f t ≡ f u)) → length (distinct same_b (map f ts)) ≤ length d
  bounded f ts d h =
      subst (λ (n : ℕ). length (distinct same_b (map f ts)) ≤ n) (length-map d f)
      (pigeons same_b test_b (distinct same_b (map f ts)) (map f d) (once_distinct same_b test_b (map f ts))
      (λ t m. let r = in_map f t ts (of-distinct same_b test_b t (map f ts) m) in
      let w = h r.0 r.1 in
      subst (λ (z : B). In z (map f d)) (sym (r.2 ∙ w.2)) (map_in f w.0 d w.1)))

  pub fewer : (a : A) (b : B) (ts : List A) (us : List B) → length us ≡ length ts → Coarser b a us ts → length (distinct same_b us) ≤ length (distinct same_a ts)
  fewer a b ts us e c =
      rw (factor a b ts us e c)
      (bounded (glue same_a b ts us) ts (distinct same_a ts) (λ t h. (t, in_distinct same_a test_a t ts h, refl)))

  -- Where there are as many, they part the same.
  pub as_many : (a : A) (b : B) (ts : List A) (us : List B) → length us ≡ length ts → Coarser b a us ts
      → length (distinct same_b us) ≡ length (distinct same_a ts) → Coarser a b ts us
  as_many a b ts us e c n i j hi hj q = go (split same_a test_a (get_or ts i a) (get_or ts j a))
    where
      hi' : i < length ts
      hi' = rw e at hi

      hj' : j < length ts
      hj' = rw e at hj

      f : A → B
      f = glue same_a b ts us

      u : A
      u = get_or ts i a

      v : A
      v = get_or ts j a

      same : f u ≡ f v
      same =
          let fe = factor a b ts us e c in
          sym (get_or-map f a b ts i hi') ∙ ap (λ (z : List B). get_or z i b) (sym fe) ∙ q
          ∙ ap (λ (z : List B). get_or z j b) fe ∙ get_or-map f a b ts j hj'

      go : Split same_a test_a u v → u ≡ v
      go (inl (p, _)) = p
      go (inr (p, _)) = absurd (omega (arith, n, rw (← factor a b ts us e c) at short, length_without same_a test_a v (distinct same_a ts) (in_distinct same_a test_a v ts (in_get_d a ts j hj'))))
        where
          come : (t : A) → In t ts → Split same_a test_a t v → (w : A) × In w (without same_a v (distinct same_a ts)) × (f t ≡ f w)
          come t h (inl (z, _)) = (u, in_without same_a test_a (distinct same_a ts) (in_distinct same_a test_a u ts (in_get_d a ts i hi')) p, ap f z ∙ sym same)
          come t h (inr (z, _)) = (t, in_without same_a test_a (distinct same_a ts) (in_distinct same_a test_a t ts h) z, refl)

          short : length (distinct same_b (map f ts)) ≤ length (without same_a v (distinct same_a ts))
          short = bounded f ts (without same_a v (distinct same_a ts)) (λ t h. come t h (split same_a test_a t v))
