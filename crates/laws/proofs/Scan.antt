-- This file has `renumber` as a scan computes it, with one element more, and what numbers there are. `distinct_new`, `distinct_old`, `renumber-snoc`
-- and `place_met` are the laws of a loop that numbers by first appearance; no theorem of this crate needs them.
-- Assumes nothing.
use mathlib.Core.Path.{◌≡◌, refl, sym, ◌∙◌, ap, ap₂}
use mathlib.Core.Logic.{◌≢◌, inl, inr}
use Prim.Native.Nat.{ℕ, zero, suc, ◌+◌, ◌<◌}
use mathlib.Core.Bool.{Bool}
use mathlib.Core.List.{List, [], ◌∷◌, map, ◌++◌, append-nil, map-append}
use native.Mathlib.Omega.{arith}
use lib.ListN.{length, get_or, length-map}
use lib.Seq.{ext_get_or}
use lib.Dec.{eqb}
use Rattle.spec.specs.Lists.{In, without, distinct, place, renumber, count, range, sum}
use Rattle.laws.proofs.Distinct.{Test, Once, Split, split, without_yes, without_no, in_distinct, of-distinct, once_distinct, place_yes, place_no, place_inj, count_yes, count_no, count-without-other, out-without, in?}
use Rattle.laws.proofs.Lists.{in_get_d, map_same, get_or-map, length-range, get_d_range}
use Rattle.laws.proofs.Renumber.{renumber-at, distinct-map}
use Rattle.laws.proofs.Counts.{numbers}

module _ {A : Type 0} (same : A → A → Bool) (test : Test same) where
  without-append : (k : A) (l m : List A) → without same k (l ++ m) ≡ without same k l ++ without same k m
  unfolding without
  without-append k [] m = refl
  without-append k (x ∷ l) m = go (split same test x k) (without-append k l m)
    where
      go : Split same test x k → without same k (l ++ m) ≡ without same k l ++ without same k m → without same k (x ∷ (l ++ m)) ≡ without same k (x ∷ l) ++ without same k m
      go (inl (p, e)) ih = rw (without_yes same test (l ++ m) e, without_yes same test l e) ih
      go (inr (p, e)) ih = rw (without_no same test (l ++ m) e, without_no same test l e) (ap (λ (r : List A). x ∷ r) ih)

  -- One more is either new, or there already.
  pub distinct_new : (l : List A) (x : A) → ¬ In x l → distinct same (l ++ x ∷ []) ≡ distinct same l ++ x ∷ []
  unfolding distinct without
  distinct_new [] x n = refl
  distinct_new (y ∷ l) x n =
      ap (λ (r : List A). y ∷ without same y r) (distinct_new l x (λ h. n (inr h)))
      ∙ ap (λ (r : List A). y ∷ r) (without-append y (distinct same l) (x ∷ []) ∙ ap (λ (r : List A). without same y (distinct same l) ++ r) (go (split same test x y)))
    where
      go : Split same test x y → without same y (x ∷ []) ≡ x ∷ []
      go (inl (p, e)) = absurd (n (inl p))
      go (inr (p, e)) = without_no same test [] e

  pub distinct_old : (l : List A) (x : A) → In x l → distinct same (l ++ x ∷ []) ≡ distinct same l
  unfolding distinct without
  distinct_old (y ∷ l) x m = go (in? same test x l) m (λ (h : In x l). distinct_old l x h)
    where
      go : Dec (In x l) → In x (y ∷ l) → (In x l → distinct same (l ++ x ∷ []) ≡ distinct same l) → distinct same ((y ∷ l) ++ x ∷ []) ≡ distinct same (y ∷ l)
      go (yes h) m' ih = ap (λ (r : List A). y ∷ without same y r) (ih h)
      go (no n) (inr h) ih = absurd (n h)
      go (no n) (inl e) ih =
          ap (λ (r : List A). y ∷ without same y r) (distinct_new l x n)
          ∙ ap (λ (r : List A). y ∷ r) (without-append y (distinct same l) (x ∷ []) ∙ rw (e, without_yes same test {x = y} {k = y} [] (test.pass y)) (append-nil (without same y (distinct same l))))
  distinct_old [] x m = elim m [ ]

  -- What is not there would stand next.
  pub place_out : (l : List A) (x : A) → ¬ In x l → place same x l ≡ length l
  unfolding place
  place_out [] x n = refl
  place_out (y ∷ l) x n = go (split same test y x) (place_out l x (λ h. n (inr h)))
    where
      go : Split same test y x → place same x l ≡ length l → place same x (y ∷ l) ≡ suc (length l)
      go (inl (p, e)) ih = absurd (n (inl (sym p)))
      go (inr (p, e)) ih = place_no same test l e ∙ ap suc ih

  place-append : (l m : List A) (x : A) → In x l → place same x (l ++ m) ≡ place same x l
  place-append (y ∷ l) m x h = go (split same test y x) h (λ (k : In x l). place-append l m x k)
    where
      go : Split same test y x → In x (y ∷ l) → (In x l → place same x (l ++ m) ≡ place same x l) → place same x (y ∷ (l ++ m)) ≡ place same x (y ∷ l)
      go (inl (p, e)) k ih = place_yes same test (l ++ m) e ∙ sym (place_yes same test l e)
      go (inr (p, e)) (inl q) ih = absurd (p (sym q))
      go (inr (p, e)) (inr k) ih = place_no same test (l ++ m) e ∙ ap suc (ih k) ∙ sym (place_no same test l e)
  place-append [] m x h = elim h [ ]

  place-last : (l : List A) (x : A) → ¬ In x l → place same x (l ++ x ∷ []) ≡ length l
  unfolding place
  place-last [] x n = place_yes same test [] (test.pass x)
  place-last (y ∷ l) x n = go (split same test y x) (place-last l x (λ h. n (inr h)))
    where
      go : Split same test y x → place same x (l ++ x ∷ []) ≡ length l → place same x (y ∷ (l ++ x ∷ [])) ≡ suc (length l)
      go (inl (p, e)) ih = absurd (n (inl (sym p)))
      go (inr (p, e)) ih = place_no same test (l ++ x ∷ []) e ∙ ap suc ih

  -- In a scan the numbers so far stay, and the next is its place among what was met before it, which is their count if it is new.
  pub renumber-snoc : (l : List A) (x : A) → renumber same (l ++ x ∷ []) ≡ renumber same l ++ place same x (distinct same l) ∷ []
  unfolding renumber
  renumber-snoc l x = map-append (λ y. place same y (distinct same (l ++ x ∷ []))) l (x ∷ []) ∙ go (in? same test x l)
    where
      go : Dec (In x l) → map (λ y. place same y (distinct same (l ++ x ∷ []))) l ++ place same x (distinct same (l ++ x ∷ [])) ∷ []
          ≡ map (λ y. place same y (distinct same l)) l ++ place same x (distinct same l) ∷ []
      go (yes h) = ap (λ (d : List A). map (λ y. place same y d) l ++ place same x d ∷ []) (distinct_old l x h)
      go (no n) =
          ap (λ (d : List A). map (λ y. place same y d) l ++ place same x d ∷ []) (distinct_new l x n)
          ∙ ap₂ (λ (r : List ℕ) (k : ℕ). r ++ k ∷ [])
          (map_same (λ y. place same y (distinct same l ++ x ∷ [])) (λ y. place same y (distinct same l)) l (λ y h. place-append (distinct same l) (x ∷ []) y (in_distinct same test y l h)))
          (place-last (distinct same l) x (λ h. n (of-distinct same test x l h)) ∙ sym (place_out (distinct same l) x (λ h. n (of-distinct same test x l h))))

  -- What was met before, at place j, has the number that j has.
  pub place_met : (d : A) (l : List A) (j : ℕ) → j < length l → place same (get_or l j d) (distinct same l) ≡ get_or (renumber same l) j 0
  place_met d l j h = sym (renumber-at same test d l j h)

  -- ---- the numbers are 0 to n - 1, where n elements are distinct

  pub place_self : (d : A) (l : List A) → Once l → (i : ℕ) → i < length l → place same (get_or l i d) l ≡ i
  place_self d (x ∷ l) o zero h = place_yes same test l (test.pass x)
  place_self d (x ∷ l) o (suc i) h = go (split same test x (get_or l i d)) (place_self d l o.1 i (omega arith))
    where
      go : Split same test x (get_or l i d) → place same (get_or l i d) l ≡ i → place same (get_or l i d) (x ∷ l) ≡ suc i
      go (inl (p, e)) ih = absurd (o.0 (rw p (in_get_d d l i (omega arith))))
      go (inr (p, e)) ih = place_no same test l e ∙ ap suc ih
  place_self d [] o i h = elim h [ ]

  pub numbers_used : (d : A) (l : List A) → distinct eqb (renumber same l) ≡ range 0 (length (distinct same l))
  unfolding renumber
  numbers_used d l =
      distinct-map same test eqb numbers (λ x. place same x kinds) l (λ x y hx hy. place_inj same test kinds (in_distinct same test x l hx) (in_distinct same test y l hy))
      ∙ ext_get_or 0 (map (λ x. place same x kinds) kinds) (range 0 (length kinds)) (length-map kinds (λ x. place same x kinds) ∙ sym (length-range 0 (length kinds)))
      (λ i h. let h' : i < length kinds = rw length-map at h in
      get_or-map (λ x. place same x kinds) d 0 kinds i h' ∙ place_self d kinds (once_distinct same test l) i h' ∙ sym (get_d_range 0 (length kinds) 0 i h' ∙ omega arith))
    where
      kinds : List A
      kinds = distinct same l

  -- ---- the counts of the distinct elements add up

  length_split : (t : A) (l : List A) → length l ≡ count same t l + length (without same t l)
  unfolding count without
  length_split t [] = refl
  length_split t (x ∷ l) = go (split same test x t) (length_split t l)
    where
      go : Split same test x t → length l ≡ count same t l + length (without same t l) → suc (length l) ≡ count same t (x ∷ l) + length (without same t (x ∷ l))
      go (inl (p, e)) ih = rw (without_yes same test l e, count_yes same test l e) (omega arith)
      go (inr (p, e)) ih = rw (without_no same test l e, count_no same test l e) (omega arith)

  add-up : (d l : List A) → Once d → ((t : A) → In t l → In t d) → sum (map (λ t. count same t l) d) ≡ length l
  unfolding sum
  add-up [] [] o f = refl
  add-up [] (x ∷ l) o f = absurd (f x (inl refl))
  add-up (t ∷ d) l o f =
      ap (λ (n : ℕ). count same t l + n)
      (ap sum (map_same (λ u. count same u l) (λ u. count same u (without same t l)) d (λ u m. sym (count-without-other same test l (λ (e : u ≡ t). o.0 (rw (← e) m)))))
      ∙ add-up d (without same t l) o.1 (λ u m. less u m))
      ∙ sym (length_split t l)
    where
      less : (u : A) → In u (without same t l) → In u d
      less u m = let r = out-without same test l m in last r.1 (f u r.0)
        where
          last : u ≢ t → In u (t ∷ d) → In u d
          last n (inl e) = absurd (n e)
          last n (inr m') = m'

  pub counts-add-up : (l : List A) → sum (map (λ t. count same t l) (distinct same l)) ≡ length l
  counts-add-up l = add-up (distinct same l) l (once_distinct same test l) (λ t m. in_distinct same test t l m)
