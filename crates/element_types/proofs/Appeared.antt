-- Values are numbered by first appearance one after another, and this file says what one more does.
-- Assumes nothing.
use mathlib.Core.Path.{◌≡◌, sym, ◌∙◌, ap, ap₂}
use mathlib.Core.Logic.{◌≢◌}
use mathlib.Core.Bool.{Bool}
use mathlib.Core.List.{List, [], ◌∷◌, ◌++◌, map}
use Prim.Native.Nat.{ℕ, zero, suc, ◌+◌, ◌<◌}
use native.Mathlib.Nat.{add-zero}
use native.Mathlib.Omega.{arith}
use native.Mathlib.Numerals.{add-one}
use lib.ListN.{length, set, take}
use lib.Seq.{take-suc-set}
use Rattle.spec.specs.Lists.{In, distinct, place, renumber, range}
use Rattle.laws.proofs.Distinct.{Test, in_distinct, of-distinct, place_at, in?}
use Rattle.laws.proofs.Scan.{renumber-snoc, distinct_new, distinct_old, place_out}

pub table_snoc : {B : Type 0} (f : ℕ → B) (a n b : ℕ) → b ≡ a + n → map f (range a (suc n)) ≡ map f (range a n) ++ f b ∷ []
unfolding range
table_snoc {B} f a zero b e = ap (λ (x : ℕ). f x ∷ []) (sym (e ∙ add-zero a))
table_snoc {B} f a (suc n) b e = ap (λ (l : List B). f a ∷ l) (table_snoc f (suc a) n b (omega arith))

-- The values `done` have m kinds and the first of the numbers v, and x has the number p.
module _ {A : Type 0} (same : A → A → Bool) (test : Test same) (done : List A) (x : A) (m p : ℕ) (kinds : length (distinct same done) ≡ m) (number : p ≡ place same x (distinct same done)) where
  pub numbered_next : (v : List ℕ) (e : ℕ) → e < length v → take e v ≡ renumber same done → take (e + 1) (set v e p) ≡ renumber same (done ++ x ∷ [])
  numbered_next v e h types =
      ap (λ (i : ℕ). take i (set v e p)) (add-one e) ∙ take-suc-set v e p h ∙ ap₂ (λ (l : List ℕ) (i : ℕ). l ++ i ∷ []) types number
      ∙ sym (renumber-snoc same test done x)

  pub kind_old : p ≢ m → distinct same (done ++ x ∷ []) ≡ distinct same done
  kind_old z = go (in? same test x done)
    where
      go : Dec (In x done) → distinct same (done ++ x ∷ []) ≡ distinct same done
      go (yes k) = distinct_old same test done x k
      go (no k) = absurd (z (number ∙ place_out same test (distinct same done) x (λ i. k (of-distinct same test x done i)) ∙ kinds))

  pub kind_new : p ≡ m → distinct same (done ++ x ∷ []) ≡ distinct same done ++ x ∷ []
  kind_new z = distinct_new same test done x (λ k. omega (arith, (place_at same test x (distinct same done) (in_distinct same test x done k)).0, number, kinds))
