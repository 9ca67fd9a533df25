-- This file has sums of squares: the loop that makes one, and that an element's fingerprint fits a word.
-- Assumes nothing.
use Rattle.std.specs.List.{sum_by}
use Rattle.std.proofs.lemmas.List.Recursion.{is_sum_by}
use mathlib.Core.Path.{◌≡◌, refl}
use mathlib.Core.Bool.{Bool, true, false}
use mathlib.Core.List.{List, [], ◌∷◌}
use Prim.Native.Nat.{ℕ, zero, suc, ◌+◌, ◌-◌, ◌*◌, ◌^◌, ◌≤◌, ◌<◌}
use native.Mathlib.Omega.{arith}
use lib.Dec.{eqb, ltb}
use borrow.Author.Tests.{ltb-true}
use Rattle.spec.specs.Limits.{max_count}
use Rattle.spec.specs.Lists.{range, keep, holds, in_order}
use Rattle.spec.specs.Types.{Solid, size, reach, vertices}
use Rattle.symmetry.specs.Fingerprints.{fingerprint_of}

-- ---- a list's fingerprint

pub squares_summed : (l : List ℕ) → fingerprint_of l ≡ sum_by (λ v. v * v) l
unfolding fingerprint_of
squares_summed = is_sum_by fingerprint_of (λ v. v * v) refl (λ v l. refl)

-- ---- an element's fingerprint

keep_less : (p : ℕ → Bool) (l : List ℕ) → fingerprint_of (keep p l) ≤ fingerprint_of l
unfolding keep fingerprint_of
keep_less p [] = omega arith
keep_less p (x ∷ l) = go (p x) refl (keep_less p l)
  where
    go : (b : Bool) → p x ≡ b → fingerprint_of (keep p l) ≤ fingerprint_of l → fingerprint_of (keep p (x ∷ l)) ≤ fingerprint_of (x ∷ l)
    go true e ih = rw (e, keep) (omega arith)
    go false e ih = rw (e, keep) (omega arith)

range_less : (a n m : ℕ) → fingerprint_of (range a n) ≤ fingerprint_of (range a (n + m))
unfolding range fingerprint_of
range_less a zero m = omega arith
range_less a (suc n) m = let e : suc n + m ≡ suc (n + m) = omega arith in rw e (omega (arith, range_less (suc a) n m))

-- With as many vertices as a solid can have, the sum fits a word.
whole : ltb (fingerprint_of (range 0 max_count)) (2 ^ 32) ≡ true
unfolding range fingerprint_of
whole = refl

pub fingerprint_fits : (s : Solid) (r e : ℕ) → size s 1 ≤ max_count → fingerprint_of (vertices s r e) < 2 ^ 32
unfolding vertices in_order
fingerprint_fits s r e h =
    let q : size s 1 + (max_count - size s 1) ≡ max_count = omega arith in
    let l : fingerprint_of (range 0 (size s 1)) ≤ fingerprint_of (range 0 max_count) = rw q at (range_less 0 (size s 1) (max_count - size s 1)) in
    omega (arith, keep_less (λ v. holds eqb v (reach s r e)) (range 0 (size s 1)), l, ltb-true (fingerprint_of (range 0 max_count)) (2 ^ 32) whole)
