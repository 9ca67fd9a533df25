-- In the loop that looks whether a row permutes the vertices, what is marked is what was met.
-- Assumes nothing.
use mathlib.Core.Path.{◌≡◌, refl, sym, ◌∙◌, ap}
use Prim.Native.Nat.{ℕ, zero, suc, ◌≤◌, ◌<◌}
use mathlib.Core.Bool.{Bool, true, false, false≢true}
use mathlib.Core.List.{List, [], ◌∷◌}
use native.Mathlib.Omega.{arith}
use lib.ListN.{length, get_or, replicate, length-replicate}
use lib.Dec.{eqb, ltb}
use borrow.Author.Tests.{lt-ltb}
use Rattle.spec.specs.Lists.{In, place, holds, every, no_repeats}
use Rattle.spec.specs.Types.{Solid, size}
use Rattle.laws.proofs.Distinct.{Once}
use Rattle.laws.proofs.Lists.{in_get_d, in_place}
use Rattle.laws.proofs.Counts.{numbers, in_holds}
use Rattle.laws.proofs.Scan.{place_self}
use Rattle.laws.proofs.Marked.{both, every_in, lt_test, no_repeats_lem, Permutes}
use Rattle.marks.specs.Rows.{permutes}
use Rattle.marks.proofs.Sets.{not_passed, every_of}

-- ---- none twice

once_of : (l : List ℕ) → ((i j : ℕ) → i < j → j < length l → get_or l i 0 ≡ get_or l j 0 → ⊥) → Once l
once_of [] h = tt
once_of (x ∷ l) h = (
  λ m. let p = in_place 0 x l m in h zero (suc p.0) (omega arith) (omega (arith, p.1)) (sym p.2),
  once_of l (λ i j p q e. h (suc i) (suc j) (omega arith) (omega arith) e),
)

repeats_not : (l : List ℕ) → Once l → no_repeats eqb l ≡ true
unfolding no_repeats
repeats_not [] o = refl
repeats_not (x ∷ l) o = rw (not_passed (holds eqb x l) (λ e. o.0 (in_holds x l e))) (repeats_not l o.1)

pub same_place : (l : List ℕ) → Once l → (i j : ℕ) → i < length l → j < length l → get_or l i 0 ≡ get_or l j 0 → i ≡ j
same_place l o i j p q e = sym (place_self eqb numbers 0 l o i p) ∙ ap (λ (x : ℕ). place eqb x l) e ∙ place_self eqb numbers 0 l o j q

-- ---- the test, and what it says

pub record Permuted (row : List ℕ) : Type 0 where
  pub low : (v : ℕ) → In v row → v < length row
  pub once : Once row

pub permuted : (row : List ℕ) → permutes row ≡ true → Permuted row
unfolding permutes
permuted row e =
    let b = both (every (λ v. ltb v (length row)) row) (no_repeats eqb row) e in
    record { low = λ v m. lt_test v (length row) (every_in (λ u. ltb u (length row)) row b.0 v m); once = no_repeats_lem eqb numbers row b.1 }

pub permutes-of : (row : List ℕ) → Permuted row → permutes row ≡ true
unfolding permutes
permutes-of row p = rw (every_of (λ v. ltb v (length row)) row (λ v m. lt-ltb v (length row) (p.low v m))) (repeats_not row p.once)

-- With an entry for each vertex, it permutes the vertices of the solid.
pub permutes-vertices : (s : Solid) (row : List ℕ) → length row ≡ size s 1 → permutes row ≡ true → Permutes s row
permutes-vertices s row full e = let p = permuted row e in record { full = full; low = λ v m. rw full at (p.low v m); once = p.once }

-- ---- the loop

-- The first k entries were met, and they are marked.
pub record Seen (row : List ℕ) (seen : List Bool) (k : ℕ) : Type 0 where
  pub room : length row ≤ length seen
  pub back : (v : ℕ) → get_or seen v false ≡ true → (j : ℕ) × (j < k) × (get_or row j 0 ≡ v)
  pub there : (j : ℕ) → j < k → (get_or row j 0 < length row) × (get_or seen (get_or row j 0) false ≡ true)
  pub apart : (i j : ℕ) → i < j → j < k → get_or row i 0 ≡ get_or row j 0 → ⊥

unmarked : (m v : ℕ) → get_or {A = Bool} (replicate m false) v false ≡ false
unmarked zero v = refl
unmarked (suc m) zero = refl
unmarked (suc m) (suc v) = unmarked m v

pub seen_none : (row : List ℕ) (m : ℕ) → length row ≤ m → Seen row (replicate m false) 0
seen_none row m h = record {
  room = rw length-replicate h;
  back = λ v e. absurd (false≢true (sym (unmarked m v) ∙ e));
  there = λ j h. absurd (omega arith);
  apart = λ i j p q e. omega arith;
}

module _ {row : List ℕ} {seen : List Bool} {k : ℕ} (a : Seen row seen k) (v : ℕ) (is : v ≡ get_or row k 0) (inside : k < length row) where
  pub seen_high : length row ≤ v → false ≡ permutes row
  seen_high p = sym (not_passed (permutes row) (λ e. omega (arith, (permuted row e).low (get_or row k 0) (in_get_d 0 row k inside), is)))

  pub seen_twice : get_or seen v false ≡ true → false ≡ permutes row
  seen_twice e =
      sym (not_passed (permutes row) (λ t. let b = a.back v e in
      omega (arith, b.1, same_place row (permuted row t).once b.0 k (omega (arith, b.1, inside)) inside (b.2 ∙ is))))

pub seen_all : {row : List ℕ} {seen : List Bool} {k : ℕ} → Seen row seen k → length row ≤ k → true ≡ permutes row
seen_all {row} a h =
    sym (permutes-of row (record {
      low = λ v i. let p = in_place 0 v row i in let t = a.there p.0 (omega (arith, p.1)) in omega (arith, t.0, p.2);
      once = once_of row (λ i j p q e. a.apart i j p (omega arith) e);
    }))
