-- These are the laws of `distinct`, `place`, `count` and `without`, for any test that decides equality.
-- Assumes nothing.
use mathlib.Core.Path.{◌≡◌, refl, sym, ◌∙◌, ap, subst}
use mathlib.Core.Logic.{◌≢◌, ◌⊎◌, inl, inr}
use Prim.Native.Nat.{ℕ, zero, suc, ◌≤◌, ◌<◌, zero-le}
use mathlib.Core.Bool.{Bool, true, false, false≢true}
use mathlib.Core.List.{List, [], ◌∷◌}
use native.Mathlib.Omega.{arith}
use lib.ListN.{length, get_or}
use Rattle.spec.specs.Lists.{In, without, distinct, place, count}

-- The test passes exactly at equals.
pub record Test {A : Type 0} (same : A → A → Bool) : Type 0 where
  pub pass : (a : A) → same a a ≡ true
  pub sound : (a b : A) → same a b ≡ true → a ≡ b

module _ {A : Type 0} where
  abbrev pub Once : List A → Type 0
  Once [] = Unit {0}
  Once (x ∷ l) = (¬ In x l) × Once l

module _ {A : Type 0} (same : A → A → Bool) (test : Test same) where
  abbrev pub Split : A → A → Type 0
  Split x k = ((x ≡ k) × (same x k ≡ true)) ⊎ ((x ≢ k) × (same x k ≡ false))

  pub split : (x k : A) → Split x k
  split x k = go (same x k) refl
    where
      go : (b : Bool) → same x k ≡ b → Split x k
      go true e = inl (test.sound x k e, e)
      go false e = inr (λ p. false≢true (sym e ∙ subst (λ (y : A). same x y ≡ true) p (test.pass x)), e)

  -- ---- without

  pub without_yes : {x k : A} (l : List A) → same x k ≡ true → without same k (x ∷ l) ≡ without same k l
  unfolding without
  without_yes l e = rw (e, without)

  pub without_no : {x k : A} (l : List A) → same x k ≡ false → without same k (x ∷ l) ≡ x ∷ without same k l
  unfolding without
  without_no l e = rw (e, without)

  pub in_without : {t k : A} (l : List A) → In t l → t ≢ k → In t (without same k l)
  in_without {t} {k} (x ∷ l) m n = go (split x k) m (λ (h : In t l). in_without l h n)
    where
      go : Split x k → In t (x ∷ l) → (In t l → In t (without same k l)) → In t (without same k (x ∷ l))
      go (inl (p, e)) (inl q) ih = absurd (n (q ∙ p))
      go (inl (p, e)) (inr h) ih = rw (without_yes l e) (ih h)
      go (inr (p, e)) (inl q) ih = rw (without_no l e) (inl q)
      go (inr (p, e)) (inr h) ih = rw (without_no l e) (inr (ih h))
  in_without {t = t} {k = k} [] m n = elim m [ ]

  pub out-without : {t k : A} (l : List A) → In t (without same k l) → In t l × (t ≢ k)
  unfolding without
  out-without {t} {k} (x ∷ l) m = go (split x k) (λ (h : In t (without same k l)). out-without l h) m
    where
      go : Split x k → (In t (without same k l) → In t l × (t ≢ k)) → In t (without same k (x ∷ l)) → In t (x ∷ l) × (t ≢ k)
      go (inl (p, e)) ih h = let r = ih (rw (without_yes l e) at h) in (inr r.0, r.1)
      go (inr (p, e)) ih h = last (rw (without_no l e) at h)
        where
          last : In t (x ∷ without same k l) → In t (x ∷ l) × (t ≢ k)
          last (inl q) = (inl q, λ (z : t ≡ k). p (sym q ∙ z))
          last (inr h') = let r = ih h' in (inr r.0, r.1)
  out-without {t = t} {k = k} [] m = elim m [ ]

  once_without : (k : A) (l : List A) → Once l → Once (without same k l)
  unfolding without
  once_without k [] o = tt
  once_without k (x ∷ l) o = go (split x k) (once_without k l o.1)
    where
      go : Split x k → Once (without same k l) → Once (without same k (x ∷ l))
      go (inl (p, e)) ih = rw (without_yes l e) ih
      go (inr (p, e)) ih = rw (without_no l e) (λ h. o.0 (out-without l h).0, ih)

  length-without-le : (k : A) (l : List A) → length (without same k l) ≤ length l
  unfolding without
  length-without-le k [] = zero-le
  length-without-le k (x ∷ l) = go (split x k) (length-without-le k l)
    where
      go : Split x k → length (without same k l) ≤ length l → length (without same k (x ∷ l)) ≤ suc (length l)
      go (inl (p, e)) ih = rw (without_yes l e) (omega arith)
      go (inr (p, e)) ih = rw (without_no l e) (omega arith)

  pub length_without : (k : A) (l : List A) → In k l → length (without same k l) < length l
  length_without k (x ∷ l) m = go (split x k) m (λ (h : In k l). length_without k l h)
    where
      go : Split x k → In k (x ∷ l) → (In k l → length (without same k l) < length l) → length (without same k (x ∷ l)) < suc (length l)
      go (inl (p, e)) h ih = rw (without_yes l e) (omega (arith, length-without-le k l))
      go (inr (p, e)) (inl q) ih = absurd (p (sym q))
      go (inr (p, e)) (inr h) ih = rw (without_no l e) (omega (arith, ih h))
  length_without k [] m = elim m [ ]

  -- ---- the pigeons: a list that repeats nothing is no longer than one that holds all that it holds

  pub pigeons : (xs ys : List A) → Once xs → ((t : A) → In t xs → In t ys) → length xs ≤ length ys
  pigeons [] ys o f = zero-le
  pigeons (a ∷ xs) ys o f =
      omega (
        arith,
        pigeons xs (without same a ys) o.1 (λ t h. in_without ys (f t (inr h)) (λ (e : t ≡ a). o.0 (subst (λ (z : A). In z xs) e h))),
        length_without a ys (f a (inl refl)),
      )

  -- ---- distinct

  pub in_distinct : (t : A) (l : List A) → In t l → In t (distinct same l)
  unfolding distinct
  in_distinct t (x ∷ l) (inl e) = inl e
  in_distinct t (x ∷ l) (inr h) = go (split t x) (in_distinct t l h)
    where
      go : Split t x → In t (distinct same l) → In t (distinct same (x ∷ l))
      go (inl (p, e)) ih = inl p
      go (inr (p, e)) ih = inr (in_without (distinct same l) ih p)
  in_distinct t [] x' = elim x' [ ]

  pub of-distinct : (t : A) (l : List A) → In t (distinct same l) → In t l
  unfolding distinct
  of-distinct t (x ∷ l) (inl e) = inl e
  of-distinct t (x ∷ l) (inr h) = inr (of-distinct t l (out-without (distinct same l) h).0)
  of-distinct t [] x' = elim x' [ ]

  pub once_distinct : (l : List A) → Once (distinct same l)
  unfolding distinct
  once_distinct [] = tt
  once_distinct (x ∷ l) = (λ h. (out-without (distinct same l) h).1 refl, once_without x (distinct same l) (once_distinct l))

  -- ---- place

  pub place_yes : {x k : A} (l : List A) → same x k ≡ true → place same k (x ∷ l) ≡ zero
  unfolding place
  place_yes l e = rw (e, place)

  pub place_no : {x k : A} (l : List A) → same x k ≡ false → place same k (x ∷ l) ≡ suc (place same k l)
  unfolding place
  place_no l e = rw (e, place)

  -- The place holds what was sought.
  pub place_at : {k : A} (d : A) (l : List A) → In k l → (place same k l < length l) × (get_or l (place same k l) d ≡ k)
  place_at {k} d (x ∷ l) m = go (split x k) m (λ (h : In k l). place_at d l h)
    where
      go : Split x k → In k (x ∷ l) → (In k l → (place same k l < length l) × (get_or l (place same k l) d ≡ k))
          → (place same k (x ∷ l) < suc (length l)) × (get_or (x ∷ l) (place same k (x ∷ l)) d ≡ k)
      go (inl (p, e)) h ih = rw (place_yes l e) (omega arith, p)
      go (inr (p, e)) (inl q) ih = absurd (p (sym q))
      go (inr (p, e)) (inr h) ih = rw (place_no l e) (let r = ih h in (omega (arith, r.0), r.1))
  place_at {k = k} d [] m = elim m [ ]

  -- No lower place holds it.
  pub place-low : {k : A} (d : A) (l : List A) (i : ℕ) → i < place same k l → get_or l i d ≢ k
  unfolding place
  place-low d [] i h = absurd (omega arith)
  place-low {k} d (x ∷ l) zero h = go (split x k)
    where
      go : Split x k → x ≢ k
      go (inl (p, e)) = absurd (omega (arith, rw (place_yes l e) at h))
      go (inr (p, e)) = p
  place-low {k} d (x ∷ l) (suc i) h = go (split x k) (λ m. place-low d l i m)
    where
      go : Split x k → (i < place same k l → get_or l i d ≢ k) → get_or l i d ≢ k
      go (inl (p, e)) ih = absurd (omega (arith, rw (place_yes l e) at h))
      go (inr (p, e)) ih = ih (omega (arith, rw (place_no l e) at h))

  pub place_inj : {k j : A} (l : List A) → In k l → In j l → place same k l ≡ place same j l → k ≡ j
  place_inj {k} {j} l hk hj e = sym (place_at k l hk).1 ∙ ap (λ (n : ℕ). get_or l n k) e ∙ (place_at k l hj).1

  -- ---- count

  pub count_yes : {x k : A} (l : List A) → same x k ≡ true → count same k (x ∷ l) ≡ suc (count same k l)
  unfolding count
  count_yes l e = rw (e, count)

  pub count_no : {x k : A} (l : List A) → same x k ≡ false → count same k (x ∷ l) ≡ count same k l
  unfolding count
  count_no l e = rw (e, count)

  pub count-out : (k : A) (l : List A) → ¬ In k l → count same k l ≡ zero
  unfolding count
  count-out k [] n = refl
  count-out k (x ∷ l) n = go (split x k) (count-out k l (λ h. n (inr h)))
    where
      go : Split x k → count same k l ≡ zero → count same k (x ∷ l) ≡ zero
      go (inl (p, e)) ih = absurd (n (inl (sym p)))
      go (inr (p, e)) ih = count_no l e ∙ ih

  pub count_in_lem : (k : A) (l : List A) → Once l → In k l → count same k l ≡ 1
  count_in_lem k (x ∷ l) o m = go (split x k) m (λ (h : In k l). count_in_lem k l o.1 h)
    where
      go : Split x k → In k (x ∷ l) → (In k l → count same k l ≡ 1) → count same k (x ∷ l) ≡ 1
      go (inl (p, e)) h ih = count_yes l e ∙ ap suc (count-out k l (λ z. o.0 (subst (λ (y : A). In y l) (sym p) z)))
      go (inr (p, e)) (inl q) ih = absurd (p (sym q))
      go (inr (p, e)) (inr h) ih = count_no l e ∙ ih h
  count_in_lem k [] o m = elim m [ ]

  -- Taking all the k away leaves no k, and changes no other count.
  pub count-without_same : (k : A) (l : List A) → count same k (without same k l) ≡ zero
  count-without_same k l = count-out k (without same k l) (λ h. (out-without l h).1 refl)

  pub count-without-other : {t k : A} (l : List A) → t ≢ k → count same t (without same k l) ≡ count same t l
  unfolding without
  count-without-other {t} {k} [] n = refl
  count-without-other {t} {k} (x ∷ l) n = go (split x k) (split x t) (count-without-other l n)
    where
      go : Split x k → Split x t → count same t (without same k l) ≡ count same t l → count same t (without same k (x ∷ l)) ≡ count same t (x ∷ l)
      go (inl (p, e)) (inl (q, f)) ih = absurd (n (sym q ∙ p))
      go (inl (p, e)) (inr (q, f)) ih = rw (without_yes l e, count_no l f) ih
      go (inr (p, e)) (inl (q, f)) ih = rw (without_no l e) (count_yes (without same k l) f ∙ ap suc ih ∙ sym (count_yes l f))
      go (inr (p, e)) (inr (q, f)) ih = rw (without_no l e) (count_no (without same k l) f ∙ ih ∙ sym (count_no l f))

  -- Membership is decided.
  pub in? : (k : A) (l : List A) → Dec (In k l)
  in? k [] = no (λ h. h)
  in? k (x ∷ l) = go (split x k) (in? k l)
    where
      go : Split x k → Dec (In k l) → Dec (In k (x ∷ l))
      go (inl (p, e)) d = yes (inl (sym p))
      go (inr (p, e)) (yes h) = yes (inr h)
      go (inr (p, e)) (no h) = no (λ m. out m)
        where
          out : In k (x ∷ l) → ⊥
          out (inl q) = p (sym q)
          out (inr m) = h m
