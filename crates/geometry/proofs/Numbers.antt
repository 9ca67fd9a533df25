-- Things are numbered by first appearance under a test that is symmetric and transitive, but may fail at an element and itself. Elements that fail it
-- have one number, past those of the others; two others share a number exactly when the test passes.
-- Assumes nothing.
use mathlib.Core.Path.{◌≡◌, refl, sym, ap, ap₂, ◌∙◌}
use mathlib.Core.Logic.{inl, inr}
use mathlib.Core.Bool.{Bool, true, false, not, ◌&&◌, ◌||◌, or-false, or-true, false≢true}
use mathlib.Core.List.{List, [], ◌∷◌}
use Prim.Native.Nat.{ℕ, zero, suc, ◌<◌}
use native.Mathlib.Omega.{arith}
use lib.Dec.{eqb}
use lib.ListN.{length, get_or}
use borrow.Author.Tests.{eqb-true, eq-eqb, ne_eqb}
use Rattle.spec.specs.Lists.{In, without, distinct, place, renumber, holds}
use Rattle.std.specs.Cmp.{IsPartialEquivalence, both_ways}
use Rattle.laws.proofs.Lists.{in_get_d, get_or-map}

-- ---- one element more

module _ {A : Type 0} (same : A → A → Bool) (k x : A) (l : List A) where
  place_yes : same x k ≡ true → place same k (x ∷ l) ≡ zero
  unfolding place
  place_yes e = rw (place, e)

  place_no : same x k ≡ false → place same k (x ∷ l) ≡ suc (place same k l)
  unfolding place
  place_no e = rw (place, e)

  holds_yes : same x k ≡ true → holds same k (x ∷ l) ≡ true
  unfolding holds
  holds_yes e = rw (holds, e)

  holds_no : same x k ≡ false → holds same k (x ∷ l) ≡ holds same k l
  unfolding holds
  holds_no e = rw (holds, e)

  without_yes : same x k ≡ true → without same k (x ∷ l) ≡ without same k l
  unfolding without
  without_yes e = rw (without, e)

  without_no : same x k ≡ false → without same k (x ∷ l) ≡ x ∷ without same k l
  unfolding without
  without_no e = rw (without, e)

module _ {A : Type 0} (same : A → A → Bool) (laws : IsPartialEquivalence same) where
  turned : (a b : A) → same a b ≡ true → same b a ≡ true
  turned a b e = sym (laws.symm a b) ∙ e

  alike : (k j : A) → same k j ≡ true → (x : A) → same x k ≡ same x j
  alike k j e x =
      both_ways (same x k) (same x j) (λ h. laws.trans x k j h e) (λ h. laws.trans x j k h (turned k j e))

  -- What fails at itself fails everywhere.
  stranger : (k : A) → same k k ≡ false → (x : A) → same x k ≡ false
  stranger k e x = go (same x k) refl
    where
      go : (b : Bool) → same x k ≡ b → b ≡ false
      go true h = absurd (false≢true (sym e ∙ laws.trans k x k (turned x k h) h))
      go false h = refl

  stranger_first : (k : A) → same k k ≡ false → (x : A) → same k x ≡ false
  stranger_first k e x = go (same k x) refl
    where
      go : (b : Bool) → same k x ≡ b → b ≡ false
      go true h = absurd (false≢true (sym (stranger k e x) ∙ turned k x h))
      go false h = refl

  -- ---- places

  place-alike : (k j : A) → same k j ≡ true → (l : List A) → place same k l ≡ place same j l
  unfolding place
  place-alike k j e [] = refl
  place-alike k j e (x ∷ l) = go (same x k) refl (place-alike k j e l)
    where
      go : (b : Bool) → same x k ≡ b → place same k l ≡ place same j l → place same k (x ∷ l) ≡ place same j (x ∷ l)
      go true h ih = place_yes same k x l h ∙ sym (place_yes same j x l (sym (alike k j e x) ∙ h))
      go false h ih = place_no same k x l h ∙ ap suc ih ∙ sym (place_no same j x l (sym (alike k j e x) ∙ h))

  place_stranger : (k : A) → same k k ≡ false → (l : List A) → place same k l ≡ length l
  unfolding place
  place_stranger k e [] = refl
  place_stranger k e (x ∷ l) = place_no same k x l (stranger k e x) ∙ ap suc (place_stranger k e l)

  -- What l holds has its place there.
  place_held : (k d : A) (l : List A) → holds same k l ≡ true → (place same k l < length l) × (same (get_or l (place same k l) d) k ≡ true)
  unfolding holds
  place_held k d [] h = absurd (false≢true h)
  place_held k d (x ∷ l) h = go (same x k) refl (place_held k d l)
    where
      go : (b : Bool) → same x k ≡ b → (holds same k l ≡ true → (place same k l < length l) × (same (get_or l (place same k l) d) k ≡ true)) →
          (place same k (x ∷ l) < suc (length l)) × (same (get_or (x ∷ l) (place same k (x ∷ l)) d) k ≡ true)
      go true e ih = rw (place_yes same k x l e) (omega arith, e)
      go false e ih = let r = ih (sym (holds_no same k x l e) ∙ h) in rw (place_no same k x l e) (omega (arith, r.0), r.1)

  -- ---- what the list of distinct elements holds

  holds-member : (k : A) (l : List A) → same k k ≡ true → In k l → holds same k l ≡ true
  holds-member k [] e x'' = elim x'' [ ]
  holds-member k (x ∷ l) e (inl p) = holds_yes same k x l (ap (λ (y : A). same y k) (sym p) ∙ e)
  holds-member k (x ∷ l) e (inr m) = go (same x k) refl (holds-member k l e m)
    where
      go : (b : Bool) → same x k ≡ b → holds same k l ≡ true → holds same k (x ∷ l) ≡ true
      go true h ih = holds_yes same k x l h
      go false h ih = holds_no same k x l h ∙ ih

  -- What is x may go, where k is not.
  holds-without : (k x : A) → same x k ≡ false → (l : List A) → holds same k (without same x l) ≡ holds same k l
  unfolding without
  holds-without k x e [] = refl
  holds-without k x e (y ∷ l) = go (same y x) refl (same y k) refl (holds-without k x e l)
    where
      go : (b : Bool) → same y x ≡ b → (c : Bool) → same y k ≡ c → holds same k (without same x l) ≡ holds same k l →
          holds same k (without same x (y ∷ l)) ≡ holds same k (y ∷ l)
      go true h true i ih = absurd (false≢true (sym e ∙ laws.trans x y k (turned y x h) i))
      go true h false i ih = ap (holds same k) (without_yes same x y l h) ∙ ih ∙ sym (holds_no same k y l i)
      go false h true i ih = ap (holds same k) (without_no same x y l h) ∙ holds_yes same k y _ i ∙ sym (holds_yes same k y l i)
      go false h false i ih = ap (holds same k) (without_no same x y l h) ∙ holds_no same k y _ i ∙ ih ∙ sym (holds_no same k y l i)

  holds-distinct : (k : A) (l : List A) → holds same k (distinct same l) ≡ holds same k l
  unfolding distinct
  holds-distinct k [] = refl
  holds-distinct k (x ∷ l) = go (same x k) refl (holds-distinct k l)
    where
      go : (b : Bool) → same x k ≡ b → holds same k (distinct same l) ≡ holds same k l →
          holds same k (x ∷ without same x (distinct same l)) ≡ holds same k (x ∷ l)
      go true h ih = holds_yes same k x _ h ∙ sym (holds_yes same k x l h)
      go false h ih = holds_no same k x _ h ∙ holds-without k x h (distinct same l) ∙ ih ∙ sym (holds_no same k x l h)

  -- ---- who shares a number

  module _ (l : List A) where
    abbrev number : A → ℕ
    number k = place same k (distinct same l)

    low : (k d : A) → same k k ≡ true → In k l →
        (number k < length (distinct same l)) × (same (get_or (distinct same l) (number k) d) k ≡ true)
    low k d e m = place_held k d (distinct same l) (holds-distinct k l ∙ holds-member k l e m)

    share : (k j : A) → In k l → In j l → eqb (number k) (number j) ≡ (same k j || (not (same k k) && not (same j j)))
    share k j mk mj = go (same k k) refl (same j j) refl
      where
        go : (b : Bool) → same k k ≡ b → (c : Bool) → same j j ≡ c → eqb (number k) (number j) ≡ (same k j || (not b && not c))
        go true e true f = both_ways (eqb (number k) (number j)) (same k j) meet (λ h. eq-eqb _ _ (place-alike k j h (distinct same l))) ∙ sym (or-false (same k j))
          where
            meet : eqb (number k) (number j) ≡ true → same k j ≡ true
            meet h =
                let a = (low k k e mk).1 in
                let b = rw (← eqb-true (number k) (number j) h) at (low j k f mj).1 in
                laws.trans k (get_or (distinct same l) (number k) k) j (turned _ k a) b
        go true e false f =
            ne_eqb (number k) (number j) (λ q. omega (arith, q, (low k k e mk).0, place_stranger j f (distinct same l)))
            ∙ sym (or-false (same k j) ∙ stranger j f k)
        go false e true f =
            ne_eqb (number k) (number j) (λ q. omega (arith, q, (low j j f mj).0, place_stranger k e (distinct same l)))
            ∙ sym (or-false (same k j) ∙ stranger_first k e j)
        go false e false f = eq-eqb (number k) (number j) (place_stranger k e (distinct same l) ∙ sym (place_stranger j f (distinct same l))) ∙ sym (or-true (same k j))

    pub renumber_shares : (d : A) (i j : ℕ) → i < length l → j < length l →
        let x = get_or l i d in
        let y = get_or l j d in
        eqb (get_or (renumber same l) i 0) (get_or (renumber same l) j 0) ≡ (same x y || (not (same x x) && not (same y y)))
    unfolding renumber
    renumber_shares d i j hi hj =
        ap₂ eqb (get_or-map number d 0 l i hi) (get_or-map number d 0 l j hj)
        ∙ share (get_or l i d) (get_or l j d) (in_get_d d l i hi) (in_get_d d l j hj)
