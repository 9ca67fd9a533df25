-- This file has laws of lists: members, places and maps.
-- Assumes nothing.
use mathlib.Core.Path.{◌≡◌, refl, sym, ◌∙◌, ap, ap₂}
use mathlib.Core.Logic.{inl, inr}
use Prim.Native.Nat.{ℕ, zero, suc, ◌+◌, ◌≤◌, ◌<◌}
use mathlib.Core.List.{List, [], ◌∷◌, map}
use native.Mathlib.Nat.{le_of_suc-le-suc, not-suc-le-zero, add-zero}
use native.Mathlib.Omega.{arith}
use lib.ListN.{length, get_or, length-map}
use Rattle.spec.specs.Lists.{In, range}
use Rattle.laws.proofs.Distinct.{Once}

module _ {A : Type 0} where
  pub in_get_d : (d : A) (l : List A) (i : ℕ) → i < length l → In (get_or l i d) l
  in_get_d d [] i h = absurd (not-suc-le-zero h)
  in_get_d d (x ∷ l) zero h = inl refl
  in_get_d d (x ∷ l) (suc i) h = inr (in_get_d d l i (le_of_suc-le-suc h))

  pub in_place : (d t : A) (l : List A) → In t l → (i : ℕ) × (i < length l) × (get_or l i d ≡ t)
  in_place d t (x ∷ l) (inl e) = (zero, omega arith, sym e)
  in_place d t (x ∷ l) (inr h) = let r = in_place d t l h in (suc r.0, omega (arith, r.1), r.2)
  in_place d t [] x' = elim x' [ ]

module _ {A B : Type 0} where
  pub map_in : (f : A → B) (t : A) (l : List A) → In t l → In (f t) (map f l)
  map_in f t (x ∷ l) (inl e) = inl (ap f e)
  map_in f t (x ∷ l) (inr h) = inr (map_in f t l h)
  map_in f t [] x' = elim x' [ ]

  pub in_map : (f : A → B) (t : B) (l : List A) → In t (map f l) → (u : A) × In u l × (t ≡ f u)
  in_map f t (x ∷ l) (inl e) = (x, inl refl, e)
  in_map f t (x ∷ l) (inr h) = let r = in_map f t l h in (r.0, inr r.1, r.2)
  in_map f t [] x' = elim x' [ ]

  pub map_same : (f g : A → B) (l : List A) → ((x : A) → In x l → f x ≡ g x) → map f l ≡ map g l
  map_same f g [] h = refl
  map_same f g (x ∷ l) h = ap₂ {C = List B} (λ y ys. y ∷ ys) (h x (inl refl)) (map_same f g l (λ y m. h y (inr m)))

  pub get_or-map : (f : A → B) (a : A) (b : B) (l : List A) (i : ℕ) → i < length l → get_or (map f l) i b ≡ f (get_or l i a)
  get_or-map f a b [] i h = absurd (not-suc-le-zero h)
  get_or-map f a b (x ∷ l) zero h = refl
  get_or-map f a b (x ∷ l) (suc i) h = get_or-map f a b l i (le_of_suc-le-suc h)

  -- The function f takes no two members of l to one.
  abbrev pub Injective : (A → B) → List A → Type 0
  Injective f l = (x y : A) → In x l → In y l → f x ≡ f y → x ≡ y

  pub once_map : (f : A → B) (l : List A) → Injective f l → Once l → Once (map f l)
  once_map f [] i o = tt
  once_map f (x ∷ l) i o = (
    λ h. let r = in_map f (f x) l h in o.0 (rw (i x r.0 (inl refl) (inr r.1) r.2) r.1),
    once_map f l (λ y z hy hz. i y z (inr hy) (inr hz)) o.1,
  )

pub map-map : {A B C : Type 0} (f : A → B) (g : B → C) (l : List A) → map g (map f l) ≡ map (λ x. g (f x)) l
map-map f g [] = refl
map-map {C = C} f g (x ∷ l) = ap {B = List C} (λ ys. g (f x) ∷ ys) (map-map f g l)

-- ---- ranges

pub length-range : (a n : ℕ) → length (range a n) ≡ n
unfolding range
length-range a zero = refl
length-range a (suc n) = ap suc (length-range (suc a) n)

pub get_d_range : (a n d i : ℕ) → i < n → get_or (range a n) i d ≡ a + i
unfolding range
get_d_range a zero d i h = absurd (not-suc-le-zero h)
get_d_range a (suc n) d zero h = sym (add-zero a)
get_d_range a (suc n) d (suc i) h = get_d_range (suc a) n d i (le_of_suc-le-suc h) ∙ omega arith

pub in_range_lem : (a n t : ℕ) → a ≤ t → t < a + n → In t (range a n)
unfolding range
in_range_lem a zero t h k = absurd (omega arith)
in_range_lem a (suc n) t h k = go (native.Mathlib.Decide.ℕ_discrete t a) (λ l. in_range_lem (suc a) n t l (omega arith))
  where
    go : Dec (t ≡ a) → (suc a ≤ t → In t (range (suc a) n)) → In t (range a (suc n))
    go (yes e) ih = inl e
    go (no e) ih = inr (ih (omega arith))

pub of_range : (a n t : ℕ) → In t (range a n) → (a ≤ t) × (t < a + n)
unfolding range
of_range a (suc n) t (inl e) = (omega arith, omega arith)
of_range a (suc n) t (inr h) = let r = of_range (suc a) n t h in (omega arith, omega arith)
of_range a zero t x' = elim x' [ ]

pub once_range : (a n : ℕ) → Once (range a n)
unfolding range
once_range a zero = tt
once_range a (suc n) = (λ h. let r = of_range (suc a) n a h in omega arith, once_range (suc a) n)

-- Element i of a map over 0 to n - 1 is f of i.
pub get_d_table : {B : Type 0} (f : ℕ → B) (b : B) (n i : ℕ) → i < n → get_or (map f (range 0 n)) i b ≡ f i
get_d_table {B} f b n i h = get_or-map f 0 b (range 0 n) i (rw length-range h) ∙ ap f (get_d_range 0 n 0 i h ∙ omega arith)

pub length_table : {B : Type 0} (f : ℕ → B) (n : ℕ) → length (map f (range 0 n)) ≡ n
length_table f n = length-map (range 0 n) f ∙ length-range 0 n
