-- The answer of a scan tells this of the number that was sought.
-- Assumes nothing.
use Rattle.std.specs.Prelude.{Option, Some, None}
use Rattle.std.specs.Option.{MatchOption}
use mathlib.Core.Path.{◌≡◌, refl, ap, ◌∙◌}
use mathlib.Core.Bool.{Bool, true, false}
use mathlib.Core.List.{List, []}
use Prim.Native.Nat.{ℕ, ◌*◌, ◌≤◌, ◌<◌}
use native.Mathlib.Omega.{arith}
use lib.ListN.{length, get_or, take, drop}
use lib.Dec.{ltb}
use borrow.Author.Tests.{lt-ltb, le-ltb, ltb-true, ltb-false}
use Rattle.spec.specs.Matrix.{Vector}
use Rattle.spec.specs.Points.{near, found, find}
use Rattle.spec.specs.Lists.{parts}
use Rattle.laws.proofs.CopyLaws.{found-near, not_found}
use Rattle.points.specs.Finding.{found_at}
use Rattle.points.proofs.Parts.{length-parts, part_at}
use Rattle.points.proofs.Nearness.{FoundFrom, found_from, found_here, found-end}

at_own : (n k : ℕ) → k < n → Some k ≡ found_at n k
unfolding found_at
at_own n k h = rw (lt-ltb k n h, found_at)

pub at_is : {n k x : ℕ} → k < n → k ≡ x → Some k ≡ found_at n x
at_is {n} {k} h e = at_own n k h ∙ ap (found_at n) e

pub nothing_is : {n x : ℕ} → n ≤ x → None ≡ found_at n x
unfolding found_at
nothing_is {n} {x} h = rw (le-ltb x n h, found_at)

-- The number is the answer's, and below n.
pub at-number : {n x k : ℕ} → found_at n x ≡ Some k → (x ≡ k) × (k < n)
unfolding found_at
at-number {n} {x} {k} e = go (ltb x n) refl e
  where
    go : (b : Bool) → ltb x n ≡ b → (elim b as (λ _. Option ℕ) [ true ↦ Some x | false ↦ None ]) ≡ Some k → (x ≡ k) × (k < n)
    go true t z = let i : x ≡ k = cc in (i, omega (arith, ltb-true x n t))
    go false t z = let i : ◌≡◌ {A = ℕ} 0 1 = cc in absurd (omega arith)

-- The number is past the last.
pub nothing_number : {n x : ℕ} → found_at n x ≡ None → n ≤ x
unfolding found_at
nothing_number {n} {x} e = go (ltb x n) refl e
  where
    go : (b : Bool) → ltb x n ≡ b → (elim b as (λ _. Option ℕ) [ true ↦ Some x | false ↦ None ]) ≡ None → n ≤ x
    go true t z = let i : ◌≡◌ {A = ℕ} 0 1 = cc in absurd (omega arith)
    go false t z = ltb-false x n t

-- The first of n points that is near q is the one that is found.
module _ (n d : ℕ) (l q : Vector) where
  abbrev test : ℕ → Bool
  test k = near (take d (drop (k * d) l)) q

  many : length (parts n d l) ≡ n
  many = length-parts n d l

  part : (k : ℕ) (b : Bool) → k < n → test k ≡ b → near (get_or (parts n d l) k []) q ≡ b
  part k b m e = ap (λ (v : Vector). near v q) (part_at n d l k m) ∙ e

  from : (i : ℕ) → i ≤ n → ((k : ℕ) → 0 ≤ k → k < i → test k ≡ false) → FoundFrom (parts n d l) q i
  from i m far = found_from i (omega (arith, many)) (λ k g. part k false (omega arith) (far k (omega arith) g))

  pub found_first : (r : Option ℕ)
      → MatchOption r ((k : ℕ) → 0 ≤ k → k < n → test k ≡ false) (λ i. (0 ≤ i) × (i < n) × (test i ≡ true) × ((k : ℕ) → 0 ≤ k → k < i → test k ≡ false))
      → r ≡ found_at n (find (parts n d l) q)
  found_first None far = nothing_is (omega (arith, many, found-end (omega (arith, many)) (omega (arith, many)) (from n (omega arith) far)))
  found_first (Some i) (z, m, t, far) = at_is m (found_here (omega (arith, many)) (from i (omega arith) far) (part i true m t))

-- The answer of the scan tells whether a point is found among n points.
module _ (ps : List Vector) (q : Vector) {n : ℕ} (all : length ps ≡ n) where
  pub is_found : {k : ℕ} → found_at n (find ps q) ≡ Some k → found ps q ≡ true
  is_found {k} e = go (found ps q) refl
    where
      go : (b : Bool) → found ps q ≡ b → found ps q ≡ true
      go true t = t
      go false t = absurd (omega (arith, all, at-number e, not_found ps q t))

  pub is_missing : found_at n (find ps q) ≡ None → found ps q ≡ false
  is_missing e = go (found ps q) refl
    where
      go : (b : Bool) → found ps q ≡ b → found ps q ≡ false
      go true t = absurd (omega (arith, all, nothing_number e, (found-near ps q t).0))
      go false t = t
