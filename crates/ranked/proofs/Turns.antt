-- In loops over a list that can be left early, what is left gives what the whole gives.
-- Assumes nothing.
use mathlib.Core.Path.{◌≡◌, sym, ◌∙◌, ap}
use mathlib.Core.Bool.{Bool, true, false}
use mathlib.Core.List.{List, ◌∷◌}
use Prim.Native.Nat.{ℕ, suc, ◌+◌, ◌≤◌, ◌<◌}
use native.Mathlib.Numerals.{add-one}
use lib.ListN.{length, get_or, drop, drop_of_length-le}
use lib.Seq.{drop-cons}
use lib.Dec.{eqb}
use borrow.Author.Tests.{eq-eqb, ne_eqb}
use Rattle.spec.specs.Lists.{every, place}

-- ---- every element passes

module _ {A : Type 0} (p : A → Bool) where
  every_true : (x : A) (l : List A) → p x ≡ true → every p (x ∷ l) ≡ every p l
  unfolding every
  every_true x l e = rw (e, every)

  every_false : (x : A) (l : List A) → p x ≡ false → every p (x ∷ l) ≡ false
  unfolding every
  every_false x l e = rw (e, every)

  -- After k elements, what is left gives what the whole gives.
  abbrev pub Every : List A → ℕ → Type 0
  Every l k = every p (drop k l) ≡ every p l

  pub every_yes : (d : A) (l : List A) (k : ℕ) → k < length l → Every l k → p (get_or l k d) ≡ true → Every l (k + 1)
  every_yes d l k h inv e = rw add-one (sym (ap (every p) (drop-cons l k d h) ∙ every_true _ _ e) ∙ inv)

  pub every_no : (d : A) (l : List A) (k : ℕ) → k < length l → Every l k → p (get_or l k d) ≡ false → false ≡ every p l
  every_no d l k h inv e = sym (ap (every p) (drop-cons l k d h) ∙ every_false _ _ e) ∙ inv

  pub every-end : (l : List A) (k : ℕ) → length l ≤ k → Every l k → true ≡ every p l
  unfolding every
  every-end l k h inv = rw (drop_of_length-le l h) at inv

-- ---- where x stands

module _ (x : ℕ) where
  pub place_here : (y : ℕ) (l : List ℕ) → y ≡ x → place eqb x (y ∷ l) ≡ 0
  unfolding place
  place_here y l e = rw (eq-eqb y x e, place)

  pub place_past : (y : ℕ) (l : List ℕ) → (y ≡ x → ⊥) → place eqb x (y ∷ l) ≡ suc (place eqb x l)
  unfolding place
  place_past y l e = rw (ne_eqb y x e, place)
