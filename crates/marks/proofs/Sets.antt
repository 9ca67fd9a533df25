-- Lists of numbers are taken as sets: this file has rising lists, lists that hold the same, and tests of them.
-- Assumes nothing.
use mathlib.Core.Path.{◌≡◌, refl, sym, ◌∙◌, ap}
use mathlib.Core.Logic.{inl, inr}
use Prim.Native.Nat.{ℕ, zero, suc, ◌+◌, ◌≤◌, ◌<◌}
use mathlib.Core.Bool.{Bool, true, false, false≢true}
use mathlib.Core.List.{List, [], ◌∷◌, map}
use native.Mathlib.Omega.{arith}
use native.Mathlib.Nat.{le_antisymm}
use lib.ListN.{length, length-map}
use lib.Dec.{eqb}
use Rattle.spec.specs.Lists.{In, holds, range, keep, every, in_order}
use Rattle.spec.specs.Demand.{RisingAbove, Rising}
use Rattle.laws.proofs.Distinct.{Once, pigeons, in?}
use Rattle.laws.proofs.Lists.{map_in, in_map, in_range_lem, of_range}
use Rattle.laws.proofs.Counts.{numbers, holds_in, in_holds}
use Rattle.laws.proofs.Carry.{above}
use Rattle.laws.proofs.Marked.{both, every_in, in_order_lem, of_order, order_same}
use Rattle.marks.specs.Rises.{onto}

-- ---- tests

pub not_passed : (b : Bool) → (b ≡ true → ⊥) → b ≡ false
not_passed true h = absurd (h refl)
not_passed false h = refl

pub every_of : {A : Type 0} (p : A → Bool) (l : List A) → ((x : A) → In x l → p x ≡ true) → every p l ≡ true
unfolding every
every_of p [] h = refl
every_of p (x ∷ l) h = rw (h x (inl refl), every) (every_of p l (λ y m. h y (inr m)))

-- Of the n numbers from a on, all pass, or one of them fails.
module _ (p : ℕ → Bool) (a n : ℕ) where
  pub all_pass : ((x : ℕ) → a ≤ x → x < a + n → p x ≡ true) → true ≡ every p (range a n)
  all_pass h = sym (every_of p (range a n) (λ x m. let k = of_range a n x m in h x k.0 k.1))

  pub one_fails : (x : ℕ) → a ≤ x → x < a + n → p x ≡ false → false ≡ every p (range a n)
  one_fails x l k e = sym (not_passed (every p (range a n)) (λ t. false≢true (sym e ∙ every_in p (range a n) t x (in_range_lem a n x l k))))

-- ---- rising lists

rising_rest : (x : ℕ) (l : List ℕ) → RisingAbove x l → Rising l
rising_rest x [] h = tt
rising_rest x (y ∷ l) h = h.1

-- A rising list is what a test that passes on it alone keeps.
keep_self : (p : ℕ → Bool) (a n : ℕ) (l : List ℕ) → Rising l → ((x : ℕ) → In x l → (a ≤ x) × (x < a + n))
    → ((x : ℕ) → a ≤ x → p x ≡ true → In x l) → ((x : ℕ) → In x l → p x ≡ true) → keep p (range a n) ≡ l
unfolding keep range
keep_self p a zero [] r b f g = refl
keep_self p a zero (x ∷ l) r b f g = absurd (let k = b x (inl refl) in omega arith)
keep_self p a (suc n) l r b f g = go (p a) refl l r b f g (λ m. keep_self p (suc a) n m)
  where
    Here : List ℕ → Type 0
    Here m = Rising m → ((x : ℕ) → In x m → (suc a ≤ x) × (x < suc a + n)) → ((x : ℕ) → suc a ≤ x → p x ≡ true → In x m)
        → ((x : ℕ) → In x m → p x ≡ true) → keep p (range (suc a) n) ≡ m

    go : (c : Bool) → p a ≡ c → (l : List ℕ) → Rising l → ((x : ℕ) → In x l → (a ≤ x) × (x < a + suc n))
        → ((x : ℕ) → a ≤ x → p x ≡ true → In x l) → ((x : ℕ) → In x l → p x ≡ true) → ((m : List ℕ) → Here m) → keep p (a ∷ range (suc a) n) ≡ l
    go true e [] r b f g ih = absurd (f a (omega arith) e)
    go true e (x ∷ l) r b f g ih = rw (e, keep) (first (f a (omega arith) e))
      where
        first : In a (x ∷ l) → a ∷ keep p (range (suc a) n) ≡ x ∷ l
        first (inr m) = absurd (let k = b x (inl refl) in omega (arith, above x a l r m))
        first (inl q) =
            rw (ih l (rising_rest x l r)
            (λ y m. let k = b y (inr m) in (omega (arith, above x y l r m), omega arith))
            (λ y k z. past y k (f y (omega arith) z))
            (λ y m. g y (inr m))) (ap (λ (z : ℕ). z ∷ l) q)
          where
            past : (y : ℕ) → suc a ≤ y → In y (x ∷ l) → In y l
            past y k (inl z) = absurd (omega arith)
            past y k (inr m) = m
    go false e l r b f g ih = rw (e, keep) (ih l r (λ x m. let k = b x m in (omega (arith, other x m), omega arith)) (λ x k z. f x (omega arith) z) g)
      where
        other : (x : ℕ) → In x l → x ≡ a → ⊥
        other x m q = false≢true (sym e ∙ ap p (sym q) ∙ g x m)

pub order_self : (n : ℕ) (l : List ℕ) → Rising l → ((x : ℕ) → In x l → x < n) → in_order n l ≡ l
unfolding in_order
order_self n l r b = keep_self (λ v. holds eqb v l) 0 n l r (λ x m. let k = b x m in (omega arith, omega arith)) (λ x k e. in_holds x l e) (λ x m. holds_in x l m)

-- ---- lists that hold the same

abbrev pub SameNumbers : List ℕ → List ℕ → Type 0
SameNumbers l m = (x : ℕ) → (In x l → In x m) × (In x m → In x l)

pub sets_same : (n : ℕ) (l m : List ℕ) → SameNumbers (in_order n l) (in_order n m) → in_order n l ≡ in_order n m
sets_same n l m h =
    order_same n l m (λ v b k. (of_order n m v ((h v).0 (in_order_lem n l v b k))).1) (λ v b k. (of_order n l v ((h v).1 (in_order_lem n m v b k))).1)

-- A list without repeats that lies in one that is no longer holds all of it.
full : (l m : List ℕ) → Once l → length m ≤ length l → ((x : ℕ) → In x l → In x m) → (x : ℕ) → In x m → In x l
full l m o n h x k = go (in? eqb numbers x l)
  where
    all : (y : ℕ) → In y (x ∷ l) → In y m
    all y (inl q) = rw q k
    all y (inr i) = h y i

    go : Dec (In x l) → In x l
    go (yes i) = i
    go (no i) = absurd (let z : suc (length l) ≤ length m = pigeons eqb numbers (x ∷ l) m (i, o) all in omega arith)

-- ---- onto

module _ (to : ℕ → ℕ) (es gs : List ℕ) (once : Once (map to es)) where
  pub onto_same : onto to es gs ≡ true → SameNumbers gs (map to es)
  unfolding onto
  onto_same e x =
      let b = both (eqb (length es) (length gs)) (every (λ f. holds eqb (to f) gs) es) e in
      let n : length es ≡ length gs = numbers.sound (length es) (length gs) b.0 in
      let lands : (y : ℕ) → In y (map to es) → In y gs = λ y m. let u = in_map to y es m in rw u.2 (in_holds (to u.0) gs (every_in (λ f. holds eqb (to f) gs) es b.1 u.0 u.1)) in
      (full (map to es) gs once (omega (arith, length-map es to)) lands x, lands x)

  pub same_onto : Once gs → SameNumbers gs (map to es) → onto to es gs ≡ true
  unfolding onto
  same_onto o h =
      let n : length es ≡ length gs = sym (length-map es to) ∙ le_antisymm (pigeons eqb numbers (map to es) gs once (λ t m. (h t).1 m)) (pigeons eqb numbers gs (map to es) o (λ t m. (h t).0 m)) in
      let a : eqb (length es) (length gs) ≡ true = rw n (numbers.pass (length gs)) in
      rw a (every_of (λ f. holds eqb (to f) gs) es (λ f m. holds_in (to f) gs ((h (to f)).1 (map_in to f es m))))
