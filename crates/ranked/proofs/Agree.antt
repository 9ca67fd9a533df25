-- Tests that agree on a list's elements say the same of the list and keep the same of it.
-- Assumes nothing.
use mathlib.Core.Path.{◌≡◌, refl, ap}
use mathlib.Core.Logic.{inl, inr}
use mathlib.Core.Bool.{Bool, true, false}
use mathlib.Core.List.{List, [], ◌∷◌}
use Prim.Native.Nat.{ℕ}
use Rattle.spec.specs.Lists.{In, keep, every}

pub every_same : {A : Type 0} (p q : A → Bool) (l : List A) → ((x : A) → In x l → p x ≡ q x) → every p l ≡ every q l
unfolding every
every_same p q [] f = refl
every_same p q (x ∷ l) f = rw (f x (inl refl), every) (ap (λ b. elim (q x) [ true ↦ b | false ↦ false ]) (every_same p q l (λ y m. f y (inr m))))

pub keep_same : (p q : ℕ → Bool) (l : List ℕ) → ((x : ℕ) → In x l → p x ≡ q x) → keep p l ≡ keep q l
unfolding keep
keep_same p q [] f = refl
keep_same p q (x ∷ l) f = rw (f x (inl refl), keep) (ap (λ (m : List ℕ). elim (q x) [ true ↦ x ∷ m | false ↦ m ]) (keep_same p q l (λ y m. f y (inr m))))
