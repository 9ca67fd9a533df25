-- What the library finds in a list is the place of the definitions.
-- Assumes nothing.
use Rattle.std.specs.Prelude.{Option, Some, None, position, All}
use Rattle.std.specs.List.{position_or_len}
use Rattle.std.proofs.lemmas.Bool.{ltb-true, ltb-false}
use Rattle.std.proofs.lemmas.List.Recursion.{is_position_or_len}
use Rattle.std.proofs.lemmas.List.Sums.{prefix_len-le-length}
use Rattle.std.specs.Option.{unwrap_or}
use mathlib.Core.Path.{◌≡◌, refl, sym, ◌∙◌, ap, ap₂}
use mathlib.Core.Logic.{inl, inr}
use mathlib.Core.Bool.{Bool, true, false, cond, not}
use mathlib.Core.List.{List, [], ◌∷◌, map}
use Prim.Native.Nat.{ℕ, suc, ◌+◌, ◌<◌}
use native.Mathlib.Omega.{arith}
use lib.Dec.{ltb}
use lib.ListN.{length, get_or, length-map}
use Rattle.spec.specs.Lists.{In, place}
use Rattle.laws.proofs.Lists.{in_get_d}

counted : (b : Bool) (n : ℕ) → cond (not b) (1 + n) 0 ≡ cond b 0 (1 + n)
counted true n = refl
counted false n = refl

-- A test that is made of what f gives finds in l what the test finds in those.
pub position-map : {A B : Type 0} (p : B → Bool) (f : A → B) (l : List A) → position (λ a. p (f a)) l ≡ position p (map f l)
position-map p f l =
    let e : position_or_len p (map f l) ≡ position_or_len (λ a. p (f a)) l =
    is_position_or_len (λ m. position_or_len p (map f m)) (λ a. p (f a)) refl (λ x xs. counted (p (f x)) (position_or_len p (map f xs))) l in
    ap₂ (λ (i n : ℕ). cond (ltb i n) (Some i) None) (sym e) (sym (length-map l f))

-- What holds of each member of a list holds of all of them.
pub all_in : {A : Type 0} (P : A → Type 0) (l : List A) → ((x : A) → In x l → P x) → All P l
all_in P l h j d b = h (get_or l j d) (in_get_d d l j b)

module _ {A : Type 0} (same : A → A → Bool) (k : A) where
  place_is : (l : List A) → place same k l ≡ position_or_len (λ x. same x k) l
  unfolding place
  place_is l = is_position_or_len (place same k) (λ x. same x k) refl (λ x xs. go (same x k) (place same k xs)) l
    where
      go : (b : Bool) (n : ℕ) → elim b [ true ↦ 0 | false ↦ suc n ] ≡ cond b 0 (1 + n)
      go true n = refl
      go false n = omega arith

  module _ (l : List A) (found : Option ℕ) (e : found ≡ position (λ x. same x k) l) where
    abbrev first : ℕ
    first = position_or_len (λ x. same x k) l

    -- What was found is the place, and it is within the list.
    pub found_place : (p : ℕ) → found ≡ Some p → (p ≡ place same k l) × (p < length l)
    found_place p h = go (ltb first (length l)) refl (sym e ∙ h)
      where
        go : (b : Bool) → ltb first (length l) ≡ b → cond b (Some first) None ≡ Some p → (p ≡ place same k l) × (p < length l)
        go true q z =
            let w : first ≡ p = ap (λ (o : Option ℕ). unwrap_or o 0) z in
            (sym w ∙ sym (place_is l), rw w at (ltb-true first (length l) q))
        go false q z = absurd (cc)

    -- Where nothing was found, the place is behind the list.
    pub unfound_place : found ≡ None → place same k l ≡ length l
    unfound_place h = go (ltb first (length l)) refl (sym e ∙ h)
      where
        go : (b : Bool) → ltb first (length l) ≡ b → cond b (Some first) None ≡ None → place same k l ≡ length l
        go true q z = absurd (cc)
        go false q z = omega (arith, place_is l, prefix_len-le-length (λ x. not (same x k)) l, ltb-false first (length l) q)

-- Two tests that agree on what is compared find the same place.
pub place-alike : {A B C : Type 0} (p : A → A → Bool) (q : B → B → Bool) (f : C → A) (g : C → B) (x : A) (y : B) (l : List C)
    → ((c : C) → In c l → p (f c) x ≡ q (g c) y) → place p x (map f l) ≡ place q y (map g l)
unfolding place
place-alike p q f g x y [] h = refl
place-alike p q f g x y (c ∷ l) h =
    ap₂ (λ (b : Bool) (n : ℕ). elim b as (λ _. ℕ) [ true ↦ 0 | false ↦ suc n ]) (h c (inl refl)) (place-alike p q f g x y l (λ b m. h b (inr m)))
