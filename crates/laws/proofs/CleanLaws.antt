-- The tests of Clean.antt decide the clauses of section 6's "Clean" as it states them.
-- Assumes nothing.
use mathlib.Core.Path.{◌≡◌, refl, sym, ap, subst}
use mathlib.Core.Logic.{◌↔◌}
use Prim.Native.Nat.{ℕ, zero, suc, ◌<◌, ◌≤◌}
use mathlib.Core.Bool.{Bool, true, false, ◌&&◌, beq, false≢true}
use mathlib.Core.List.{List, [], ◌∷◌, ◌++◌}
use native.Mathlib.Omega.{arith}
use native.Mathlib.Nat.{not-suc-le-zero}
use lib.ListN.{length, get_or}
use lib.Dec.{T, eqb, leb→le}
use lib.IntN.{ℤ, pos, negsuc}
use lib.Ieee.{Float, nan, inf, fin}
use Rattle.spec.specs.Lists.{distinct, count, range, every}
use Rattle.spec.specs.Float.{zero_f, finite}
use Rattle.spec.specs.Matrix.{Vector}
use Rattle.spec.specs.Hull.{nearer}
use Rattle.spec.specs.Search.{all_finite}
use Rattle.spec.specs.Clean.{within_eps, transitive, same_integer, same_float, on_axis, clean_points, listed_by, clean_distances}
use Rattle.laws.specs.CleanLaws.{Transitive, CleanPoints, CleanDistances, EveryClean}
use Rattle.laws.proofs.Distinct.{Test, in_distinct, of-distinct}
use Rattle.laws.proofs.Lists.{in_range_lem, of_range}
use Rattle.laws.proofs.Counts.{numbers}
use Rattle.laws.proofs.Marked.{both, every_in}
use Rattle.laws.proofs.Exchange.{in_every}
use Rattle.laws.proofs.SheetBits.{le_true}

-- ---- floats

beq_self : (s : Bool) → beq s s ≡ true
beq_self true = refl
beq_self false = refl

beq_same : (s t : Bool) → beq s t ≡ true → s ≡ t
beq_same true true e = refl
beq_same true false e = absurd (false≢true e)
beq_same false true e = absurd (false≢true e)
beq_same false false e = refl

integers : Test same_integer
unfolding same_integer
integers = record { pass = pass; sound = sound }
  where
    pass : (a : ℤ) → same_integer a a ≡ true
    pass (pos m) = numbers.pass m
    pass (negsuc m) = numbers.pass m

    sound : (a b : ℤ) → same_integer a b ≡ true → a ≡ b
    sound (pos m) (pos n) e = ap pos (numbers.sound m n e)
    sound (pos m) (negsuc n) e = absurd (false≢true e)
    sound (negsuc m) (pos n) e = absurd (false≢true e)
    sound (negsuc m) (negsuc n) e = ap negsuc (numbers.sound m n e)

floats : Test same_float
unfolding same_float
floats = record { pass = pass; sound = sound }
  where
    pass : (a : Float) → same_float a a ≡ true
    pass nan = refl
    pass (inf s) = beq_self s
    pass (fin s m e) = rw (beq_self s, numbers.pass m, integers.pass e)

    sound : (a b : Float) → same_float a b ≡ true → a ≡ b
    sound nan nan h = refl
    sound nan (inf t) h = absurd (false≢true h)
    sound nan (fin t n d) h = absurd (false≢true h)
    sound (inf s) nan h = absurd (false≢true h)
    sound (inf s) (inf t) h = ap inf (beq_same s t h)
    sound (inf s) (fin t n d) h = absurd (false≢true h)
    sound (fin s m e) nan h = absurd (false≢true h)
    sound (fin s m e) (inf t) h = absurd (false≢true h)
    sound (fin s m e) (fin t n d) h =
        let p = both (beq s t && eqb m n) (same_integer e d) h in
        let q = both (beq s t) (eqb m n) p.0 in
        let s' = beq_same s t q.0 in
        let m' = numbers.sound m n q.1 in
        let e' = integers.sound e d p.1 in
        cc

-- ---- transitive

-- A test that is asked only where another passes, passes there.
implied : (a b : Bool) → elim a as (λ _. Bool) [ true ↦ b | false ↦ true ] ≡ true → a ≡ true → b ≡ true
implied true b h e = h
implied false b h e = absurd (false≢true e)

implies : (a b : Bool) → (a ≡ true → b ≡ true) → elim a as (λ _. Bool) [ true ↦ b | false ↦ true ] ≡ true
implies true b f = f refl
implies false b f = refl

transitive-all : (xs : List Float) → transitive xs ≡ true → Transitive xs
unfolding transitive
transitive-all xs h x y z X Y Z p q =
    let of_x = every_in _ xs h x X in
    let of_y = implied (within_eps x y) _ (every_in _ xs of_x y Y) p in
    implied (within_eps y z) (within_eps x z) (every_in _ xs of_y z Z) q

all-transitive : (xs : List Float) → Transitive xs → transitive xs ≡ true
unfolding transitive
all-transitive xs f =
    in_every _ xs (λ x X.
    in_every _ xs (λ y Y.
    implies (within_eps x y) _ (λ p.
    in_every _ xs (λ z Z.
    implies (within_eps y z) (within_eps x z) (λ q. f x y z X Y Z p q)))))

-- To take each value once changes nothing.
once_transitive : (xs : List Float) → Transitive (distinct same_float xs) → Transitive xs
once_transitive xs f x y z X Y Z =
    f x y z (in_distinct same_float floats x xs X) (in_distinct same_float floats y xs Y) (in_distinct same_float floats z xs Z)

transitive_once : (xs : List Float) → Transitive xs → Transitive (distinct same_float xs)
transitive_once xs f x y z X Y Z =
    f x y z (of-distinct same_float floats x xs X) (of-distinct same_float floats y xs Y) (of-distinct same_float floats z xs Z)

every-points : (d : ℕ) (ps qs : List Vector) → (clean_points d ps qs ≡ true) ↔ CleanPoints d ps qs
unfolding clean_points all_finite
every-points d ps qs = (to, from)
  where
    to : clean_points d ps qs ≡ true → CleanPoints d ps qs
    to h =
        let p = both (all_finite qs) _ h in
        record {
          axes = λ k b. once_transitive (on_axis (ps ++ qs) k) (transitive-all _ (every_in _ (range 0 d) p.1 k (in_range_lem 0 d k (omega arith) (omega arith))));
          images = λ q Q x X. every_in finite q (every_in (every finite) qs p.0 q Q) x X;
        }

    from : CleanPoints d ps qs → clean_points d ps qs ≡ true
    from c =
        let finites : all_finite qs ≡ true = in_every (every finite) qs (λ q Q. in_every finite q (λ x X. c.images q Q x X)) in
        rw finites
        (in_every _ (range 0 d) (λ k K.
        all-transitive _ (transitive_once (on_axis (ps ++ qs) k) (c.axes k (omega (arith, of_range 0 d k K))))))

-- ---- distances

module _ {A : Type 0} (same : A → A → Bool) (k d : A) where
  -- The test takes what l has at one number at most for k.
  abbrev AtMostOnce : List A → Type 0
  AtMostOnce l = (i j : ℕ) → i < length l → j < length l → same (get_or l i d) k ≡ true → same (get_or l j d) k ≡ true → i ≡ j

  count_hit : (x : A) (l : List A) → same x k ≡ true → count same k (x ∷ l) ≡ suc (count same k l)
  unfolding count
  count_hit x l e = rw (e, count)

  count_miss : (x : A) (l : List A) → same x k ≡ false → count same k (x ∷ l) ≡ count same k l
  unfolding count
  count_miss x l e = rw (e, count)

  count_more : (x : A) (l : List A) → count same k l ≤ count same k (x ∷ l)
  count_more x l = go (same x k) refl
    where
      go : (b : Bool) → same x k ≡ b → count same k l ≤ count same k (x ∷ l)
      go true e = omega (arith, count_hit x l e)
      go false e = omega (arith, count_miss x l e)

  count_at : (l : List A) (i : ℕ) → i < length l → same (get_or l i d) k ≡ true → 0 < count same k l
  count_at [] i h e = omega arith
  count_at (x ∷ l) zero h e = omega (arith, count_hit x l e)
  count_at (x ∷ l) (suc i) h e = omega (arith, count_at l i (omega arith) e, count_more x l)

  at_count : (l : List A) → 0 < count same k l → (i : ℕ) × (i < length l) × (same (get_or l i d) k ≡ true)
  unfolding count
  at_count [] h = absurd (not-suc-le-zero h)
  at_count (x ∷ l) h = go (same x k) refl (λ e. at_count l (subst (λ (n : ℕ). 0 < n) (count_miss x l e) h))
    where
      FoundIn : List A → Type 0
      FoundIn m = (i : ℕ) × (i < length m) × (same (get_or m i d) k ≡ true)

      go : (b : Bool) → same x k ≡ b → (same x k ≡ false → FoundIn l) → FoundIn (x ∷ l)
      go true e later = (0, omega arith, e)
      go false e later = let t = later e in (suc t.0, omega (arith, t.1), t.2)

  once_count : (l : List A) → count same k l ≤ 1 → AtMostOnce l
  once_count [] h i j I J p q = omega arith
  once_count (x ∷ l) h zero zero I J p q = refl
  once_count (x ∷ l) h zero (suc j) I J p q = omega (arith, count_hit x l p, count_at l j (omega arith) q)
  once_count (x ∷ l) h (suc i) zero I J p q = omega (arith, count_hit x l q, count_at l i (omega arith) p)
  once_count (x ∷ l) h (suc i) (suc j) I J p q = ap suc (once_count l (omega (arith, count_more x l)) i j (omega arith) (omega arith) p q)

  once_rest : (x : A) (l : List A) → AtMostOnce (x ∷ l) → AtMostOnce l
  once_rest x l f i j I J p q = omega (arith, f (suc i) (suc j) (omega arith) (omega arith) p q)

  -- Where x is taken for k, nothing after it is.
  first_alone : (x : A) (l : List A) → AtMostOnce (x ∷ l) → same x k ≡ true → (n : ℕ) → count same k l ≡ n → n ≡ 0
  first_alone x l f e zero c = refl
  first_alone x l f e (suc n) c =
      let t = at_count l (omega arith) in
      omega (arith, f 0 (suc t.0) (omega arith) (omega (arith, t.1)) e t.2)

  count_once : (l : List A) → AtMostOnce l → count same k l ≤ 1
  unfolding count
  count_once [] f = omega arith
  count_once (x ∷ l) f = go (same x k) refl (count_once l (once_rest x l f))
    where
      go : (b : Bool) → same x k ≡ b → count same k l ≤ 1 → count same k (x ∷ l) ≤ 1
      go true e h = omega (arith, count_hit x l e, first_alone x l f e (count same k l) refl)
      go false e h = omega (arith, count_miss x l e)

every-distances : (xs : List Float) → (clean_distances xs ≡ true) ↔ CleanDistances xs
unfolding clean_distances
every-distances xs = (to, from)
  where
    to : clean_distances xs ≡ true → CleanDistances xs
    to h x X = once_count nearer x zero_f (listed_by [] xs) (leb→le _ 1 (subst T (sym (every_in _ xs h x X)) tt))

    from : CleanDistances xs → clean_distances xs ≡ true
    from f = in_every _ xs (λ x X. le_true _ 1 (count_once nearer x zero_f (listed_by [] xs) (f x X)))

pub every-clean : EveryClean
every-clean = record { points = every-points; distances = every-distances }
