-- This file has counts under a map, the tests of numbers and of lists of numbers, and sums.
-- Assumes nothing.
use mathlib.Core.Path.{◌≡◌, refl, sym, ◌∙◌, ap, ap₂}
use mathlib.Core.Logic.{◌≢◌, inl, inr}
use Prim.Native.Nat.{ℕ, suc, ◌+◌, ◌≤◌, zero-le}
use mathlib.Core.Bool.{Bool, true, false, false≢true}
use mathlib.Core.List.{List, [], ◌∷◌, map, ◌++◌, reverse, reverse_aux}
use native.Mathlib.Omega.{arith}
use lib.Dec.{T, eqb, eqb→eq, eqb_refl}
use Rattle.spec.specs.Lists.{In, without, count, holds, eq_list, keep, sum}
use Rattle.laws.proofs.Distinct.{Test, Once, Split, split, without_yes, without_no, out-without, count_yes, count_no, count_in_lem, count-out, count-without_same, count-without-other, in?}

-- ---- the tests

pub T→true : (b : Bool) → T b → b ≡ true
T→true true t = refl
T→true false t = elim t [ ]

true→T : (b : Bool) → b ≡ true → T b
true→T true e = tt
true→T false e = false≢true e

pub numbers : Test eqb
numbers = record { pass = λ a. T→true (eqb a a) (eqb_refl a); sound = λ a b e. eqb→eq a b (true→T (eqb a b) e) }

list_pass : (l : List ℕ) → eq_list l l ≡ true
unfolding eq_list
list_pass [] = refl
list_pass (x ∷ l) = rw (numbers.pass x) (list_pass l)

list_sound : (l m : List ℕ) → eq_list l m ≡ true → l ≡ m
unfolding eq_list
list_sound [] [] e = refl
list_sound [] (y ∷ m) e = absurd (false≢true e)
list_sound (x ∷ l) [] e = absurd (false≢true e)
list_sound (x ∷ l) (y ∷ m) e = go (split eqb numbers x y) (λ h. list_sound l m h)
  where
    go : Split eqb numbers x y → (eq_list l m ≡ true → l ≡ m) → x ∷ l ≡ y ∷ m
    go (inl (p, q)) ih = ap₂ {C = List ℕ} (λ z zs. z ∷ zs) p (ih (rw q at e))
    go (inr (p, q)) ih = absurd (false≢true (rw q at e))

pub lists : Test eq_list
lists = record { pass = list_pass; sound = list_sound }

-- ---- counts under a map hang only on the counts

module _ {A B : Type 0} (same_a : A → A → Bool) (test_a : Test same_a) (same_b : B → B → Bool) (test_b : Test same_b) (g : A → B) where
  into : (s : B) (t : A) (l : List A) → g t ≡ s → count same_b s (map g l) ≡ count same_a t l + count same_b s (map g (without same_a t l))
  unfolding count without
  into s t [] q = refl
  into s t (x ∷ l) q = go (split same_a test_a x t) (split same_b test_b (g x) s) (into s t l q)
    where
      go : Split same_a test_a x t → Split same_b test_b (g x) s → count same_b s (map g l) ≡ count same_a t l + count same_b s (map g (without same_a t l))
          → count same_b s (g x ∷ map g l) ≡ count same_a t (x ∷ l) + count same_b s (map g (without same_a t (x ∷ l)))
      go (inl (p, e)) (inl (p', e')) ih = rw (without_yes same_a test_a l e, count_yes same_a test_a l e, count_yes same_b test_b (map g l) e') (omega arith)
      go (inl (p, e)) (inr (p', e')) ih = absurd (p' (ap g p ∙ q))
      go (inr (p, e)) (inl (p', e')) ih =
          rw (without_no same_a test_a l e, count_no same_a test_a l e, count_yes same_b test_b (map g l) e', count_yes same_b test_b (map g (without same_a t l)) e') (omega arith)
      go (inr (p, e)) (inr (p', e')) ih =
          rw (without_no same_a test_a l e, count_no same_a test_a l e, count_no same_b test_b (map g l) e', count_no same_b test_b (map g (without same_a t l)) e') ih

  past : (s : B) (t : A) (l : List A) → g t ≢ s → count same_b s (map g l) ≡ count same_b s (map g (without same_a t l))
  unfolding count without
  past s t [] q = refl
  past s t (x ∷ l) q = go (split same_a test_a x t) (split same_b test_b (g x) s) (past s t l q)
    where
      go : Split same_a test_a x t → Split same_b test_b (g x) s → count same_b s (map g l) ≡ count same_b s (map g (without same_a t l))
          → count same_b s (g x ∷ map g l) ≡ count same_b s (map g (without same_a t (x ∷ l)))
      go (inl (p, e)) (inl (p', e')) ih = absurd (q (ap g (sym p) ∙ p'))
      go (inl (p, e)) (inr (p', e')) ih = rw (without_yes same_a test_a l e, count_no same_b test_b (map g l) e') ih
      go (inr (p, e)) (inl (p', e')) ih =
          rw (without_no same_a test_a l e, count_yes same_b test_b (map g l) e', count_yes same_b test_b (map g (without same_a t l)) e') (ap suc ih)
      go (inr (p, e)) (inr (p', e')) ih =
          rw (without_no same_a test_a l e, count_no same_b test_b (map g l) e', count_no same_b test_b (map g (without same_a t l)) e') ih

  -- Where d holds all that xs and ys hold, and xs and ys hold each of d as often, their maps hold each as often, too.
  pub regroup : (d xs ys : List A) → ((t : A) → In t xs → In t d) → ((t : A) → In t ys → In t d)
      → ((t : A) → In t d → count same_a t xs ≡ count same_a t ys) → (s : B) → count same_b s (map g xs) ≡ count same_b s (map g ys)
  regroup [] [] [] f h c s = refl
  regroup [] [] (y ∷ ys) f h c s = absurd (h y (inl refl))
  regroup [] (x ∷ xs) ys f h c s = absurd (f x (inl refl))
  regroup (t ∷ d) xs ys f h c s =
      go (split same_b test_b (g t) s)
      (regroup d (without same_a t xs) (without same_a t ys) (λ u m. less u xs (f u) m) (λ u m. less u ys (h u) m) (λ u m. still u m (split same_a test_a u t)) s)
    where
      less : (u : A) (l : List A) → (In u l → In u (t ∷ d)) → In u (without same_a t l) → In u d
      less u l k m = let r = out-without same_a test_a l m in last r.1 (k r.0)
        where
          last : u ≢ t → In u (t ∷ d) → In u d
          last n (inl e) = absurd (n e)
          last n (inr m') = m'

      still : (u : A) → In u d → Split same_a test_a u t → count same_a u (without same_a t xs) ≡ count same_a u (without same_a t ys)
      still u m (inl (p, e)) = rw p (count-without_same same_a test_a t xs ∙ sym (count-without_same same_a test_a t ys))
      still u m (inr (p, e)) = count-without-other same_a test_a xs p ∙ c u (inr m) ∙ sym (count-without-other same_a test_a ys p)

      go : Split same_b test_b (g t) s → count same_b s (map g (without same_a t xs)) ≡ count same_b s (map g (without same_a t ys)) → count same_b s (map g xs) ≡ count same_b s (map g ys)
      go (inl (p, e)) ih = into s t xs p ∙ ap₂ (λ (m n : ℕ). m + n) (c t (inl refl)) ih ∙ sym (into s t ys p)
      go (inr (p, e)) ih = past s t xs p ∙ ih ∙ sym (past s t ys p)

-- Two lists that repeat nothing and hold the same hold each as often.
pub as_often : {A : Type 0} (same : A → A → Bool) (test : Test same) (xs ys : List A) → Once xs → Once ys → ((t : A) → In t xs → In t ys) → ((t : A) → In t ys → In t xs)
    → (t : A) → count same t xs ≡ count same t ys
as_often same test xs ys ox oy f h t = go (in? same test t xs)
  where
    go : Dec (In t xs) → count same t xs ≡ count same t ys
    go (yes m) = count_in_lem same test t xs ox m ∙ sym (count_in_lem same test t ys oy (f t m))
    go (no n) = count-out same test t xs n ∙ sym (count-out same test t ys (λ m. n (h t m)))

-- ---- sums

pub sum-le : (f g : ℕ → ℕ) (l : List ℕ) → ((r : ℕ) → In r l → f r ≤ g r) → sum (map f l) ≤ sum (map g l)
unfolding sum
sum-le f g [] h = zero-le
sum-le f g (r ∷ l) h = omega (arith, h r (inl refl), sum-le f g l (λ q m. h q (inr m)))

pub sum_eq : (f g : ℕ → ℕ) (l : List ℕ) → ((r : ℕ) → In r l → f r ≤ g r) → sum (map f l) ≡ sum (map g l) → (r : ℕ) → In r l → f r ≡ g r
unfolding sum
sum_eq f g (r ∷ l) h e q (inl m) = rw m (omega (arith, h r (inl refl), sum-le f g l (λ q' m'. h q' (inr m'))))
sum_eq f g (r ∷ l) h e q (inr m) = sum_eq f g l (λ q' m'. h q' (inr m')) (omega (arith, h r (inl refl), sum-le f g l (λ q' m'. h q' (inr m')))) q m
sum_eq f g [] h e q x3 = elim x3 [ ]

-- ---- members

module _ {A : Type 0} where
  pub in_left : (t : A) (l m : List A) → In t l → In t (l ++ m)
  in_left t (x ∷ l) m (inl e) = inl e
  in_left t (x ∷ l) m (inr h) = inr (in_left t l m h)
  in_left t [] m x' = elim x' [ ]

  pub in_right : (t : A) (l m : List A) → In t m → In t (l ++ m)
  in_right t [] m h = h
  in_right t (x ∷ l) m h = inr (in_right t l m h)

  aux_right : (t : A) (l m : List A) → In t m → In t (reverse_aux l m)
  aux_right t [] m h = h
  aux_right t (x ∷ l) m h = aux_right t l (x ∷ m) (inr h)

  aux_left : (t : A) (l m : List A) → In t l → In t (reverse_aux l m)
  aux_left t (x ∷ l) m (inl e) = aux_right t l (x ∷ m) (inl e)
  aux_left t (x ∷ l) m (inr h) = aux_left t l (x ∷ m) h
  aux_left t [] m x' = elim x' [ ]

  pub in_reverse : (t : A) (l : List A) → In t l → In t (reverse l)
  in_reverse t l h = aux_left t l [] h

pub keep_in : (p : ℕ → Bool) (t : ℕ) (l : List ℕ) → In t l → p t ≡ true → In t (keep p l)
unfolding keep
keep_in p t (x ∷ l) (inl e) q = rw ((rw e at q), keep) (inl e)
keep_in p t (x ∷ l) (inr h) q = go (p x) refl (keep_in p t l h q)
  where
    go : (b : Bool) → p x ≡ b → In t (keep p l) → In t (keep p (x ∷ l))
    go true e ih = rw (e, keep) (inr ih)
    go false e ih = rw (e, keep) ih
keep_in p t [] x'' q = elim x'' [ ]

pub in_keep : (p : ℕ → Bool) (t : ℕ) (l : List ℕ) → In t (keep p l) → In t l × (p t ≡ true)
unfolding keep
in_keep p t (x ∷ l) h = go (p x) refl (λ (m : In t (keep p l)). in_keep p t l m) h
  where
    go : (b : Bool) → p x ≡ b → (In t (keep p l) → In t l × (p t ≡ true)) → In t (keep p (x ∷ l)) → In t (x ∷ l) × (p t ≡ true)
    go true e ih m = last (rw (e, keep) at m)
      where
        last : In t (x ∷ keep p l) → In t (x ∷ l) × (p t ≡ true)
        last (inl q) = (inl q, ap p q ∙ e)
        last (inr m') = let r = ih m' in (inr r.0, r.1)
    go false e ih m = let r = ih (rw (e, keep) at m) in (inr r.0, r.1)
in_keep p t [] h = elim h [ ]

pub once_keep : (p : ℕ → Bool) (l : List ℕ) → Once l → Once (keep p l)
unfolding keep
once_keep p [] o = tt
once_keep p (x ∷ l) o = go (p x) refl (once_keep p l o.1)
  where
    go : (b : Bool) → p x ≡ b → Once (keep p l) → Once (keep p (x ∷ l))
    go true e ih = rw (e, keep) (λ h. o.0 (in_keep p x l h).0, ih)
    go false e ih = rw (e, keep) ih

pub holds_in : (t : ℕ) (l : List ℕ) → In t l → holds eqb t l ≡ true
unfolding holds
holds_in t (x ∷ l) m = go (split eqb numbers x t) m (λ (h : In t l). holds_in t l h)
  where
    go : Split eqb numbers x t → In t (x ∷ l) → (In t l → holds eqb t l ≡ true) → holds eqb t (x ∷ l) ≡ true
    go (inl (p, e)) h ih = rw (e, holds)
    go (inr (p, e)) (inl q) ih = absurd (p (sym q))
    go (inr (p, e)) (inr h) ih = rw (e, holds) (ih h)
holds_in t [] m = elim m [ ]

pub in_holds : (t : ℕ) (l : List ℕ) → holds eqb t l ≡ true → In t l
unfolding holds
in_holds t [] h = absurd (false≢true h)
in_holds t (x ∷ l) h = go (split eqb numbers x t) (λ k. in_holds t l k)
  where
    go : Split eqb numbers x t → (holds eqb t l ≡ true → In t l) → In t (x ∷ l)
    go (inl (p, e)) ih = inl (sym p)
    go (inr (p, e)) ih = inr (ih (rw (e, holds) at h))
