-- Seen from below, the elements between g and h are the same list: the sups of h that have g among their sups.
-- Assumes nothing.
use mathlib.Core.Path.{◌≡◌, refl, sym, ap}
use mathlib.Core.Logic.{inl, inr}
use mathlib.Core.Bool.{Bool, true, false}
use mathlib.Core.List.{List, [], ◌∷◌}
use Prim.Native.Nat.{ℕ, suc, ◌<◌}
use native.Mathlib.Omega.{arith}
use lib.Dec.{eqb}
use Rattle.spec.specs.Lists.{In, range, holds, keep}
use Rattle.spec.specs.Types.{Solid, size, subs, sups}
use Rattle.spec.specs.Solid.{between}
use Rattle.spec.specs.Demand.{Sound, RisingAbove, Rising}
use Rattle.laws.proofs.Lists.{in_range_lem, of_range}
use Rattle.laws.proofs.Counts.{keep_in, in_keep, holds_in, in_holds}
use Rattle.laws.proofs.Carry.{above}
use Rattle.laws.proofs.SolidLaws.{every-sups}

-- ---- rising lists that hold the same are the same

above_lower : (x y : ℕ) (l : List ℕ) → x < y → RisingAbove y l → RisingAbove x l
above_lower x y [] k h = tt
above_lower x y (z ∷ l) k h = (omega arith, h.1)

keep-above : (p : ℕ → Bool) (x : ℕ) (l : List ℕ) → RisingAbove x l → RisingAbove x (keep p l)
unfolding keep
keep-above p x [] h = tt
keep-above p x (y ∷ l) h = go (p y) refl (keep-above p y l h.1) (keep-above p x l (above_lower x y l h.0 h.1))
  where
    go : (b : Bool) → p y ≡ b → RisingAbove y (keep p l) → RisingAbove x (keep p l) → RisingAbove x (keep p (y ∷ l))
    go true e taken passed = rw (e, keep) (h.0, taken)
    go false e taken passed = rw (e, keep) passed

tail_rises : (x : ℕ) (l : List ℕ) → RisingAbove x l → Rising l
tail_rises x [] h = tt
tail_rises x (y ∷ l) h = h.1

keep_rising : (p : ℕ → Bool) (l : List ℕ) → Rising l → Rising (keep p l)
unfolding keep
keep_rising p [] h = tt
keep_rising p (x ∷ l) h = go (p x) refl (keep-above p x l h) (keep_rising p l (tail_rises x l h))
  where
    go : (b : Bool) → p x ≡ b → RisingAbove x (keep p l) → Rising (keep p l) → Rising (keep p (x ∷ l))
    go true e taken passed = rw (e, keep) taken
    go false e taken passed = rw (e, keep) passed

rising_same : (l m : List ℕ) → Rising l → Rising m → ((x : ℕ) → In x l → In x m) → ((x : ℕ) → In x m → In x l) → l ≡ m
rising_same [] [] a b f g = refl
rising_same [] (y ∷ m) a b f g = absurd (g y (inl refl))
rising_same (x ∷ l) [] a b f g = absurd (f x (inl refl))
rising_same (x ∷ l) (y ∷ m) a b f g =
    let e = heads (f x (inl refl)) (g y (inl refl)) in
    rw e (ap (λ (t : List ℕ). y ∷ t)
    (rising_same l m (tail_rises x l a) (tail_rises y m b)
    (λ z k. later y m z (f z (inr k)) (omega (arith, above x z l a k)))
    (λ z k. later x l z (g z (inr k)) (omega (arith, above y z m b k)))))
  where
    heads : In x (y ∷ m) → In y (x ∷ l) → x ≡ y
    heads (inl e) q = e
    heads (inr k) (inl e) = sym e
    heads (inr k) (inr n) = absurd (omega (arith, above y x m b k, above x y l a n))

    later : (y : ℕ) (m : List ℕ) (z : ℕ) → In z (y ∷ m) → y < z → In z m
    later y m z (inl e) k = absurd (omega arith)
    later y m z (inr n) k = n

-- ---- the elements between

-- Element e is among the sups of x exactly if x is among its subs.
module _ (s : Solid) (r e x : ℕ) where
  pub sup_means : In e (sups s r x) → (e < size s (suc r)) × In x (subs s (suc r) e)
  unfolding sups
  sup_means m =
      let q = in_keep (λ f. holds eqb x (subs s (suc r) f)) e (range 0 (size s (suc r))) m in
      let k = of_range 0 (size s (suc r)) e q.0 in
      (omega arith, in_holds x (subs s (suc r) e) q.1)

  pub means_sup : e < size s (suc r) → In x (subs s (suc r) e) → In e (sups s r x)
  unfolding sups
  means_sup k m =
      keep_in (λ f. holds eqb x (subs s (suc r) f)) e (range 0 (size s (suc r)))
      (in_range_lem 0 (size s (suc r)) e (omega arith) (omega arith)) (holds_in x (subs s (suc r) e) m)

-- Lists the sups of h, one rank up, that have g among their sups.
unfoldable pub upward : Solid → ℕ → ℕ → ℕ → List ℕ
upward s r g h = keep (λ x. holds eqb g (sups s (suc r) x)) (sups s r h)

module _ (s : Solid) (ok : Sound s) (r g h : ℕ) (k : g < size s (suc (suc r))) where
  up-down : (x : ℕ) → In x (upward s r g h) → In x (between s (suc r) g h)
  unfolding upward between
  up-down x m =
      let q = in_keep (λ y. holds eqb g (sups s (suc r) y)) x (sups s r h) m in
      keep_in (λ f. holds eqb h (subs s (suc r) f)) x (subs s (suc (suc r)) g)
      (sup_means s (suc r) g x (in_holds g (sups s (suc r) x) q.1)).1
      (holds_in h (subs s (suc r) x) (sup_means s r x h q.0).1)

  down-up : (x : ℕ) → In x (between s (suc r) g h) → In x (upward s r g h)
  unfolding upward between
  down-up x m =
      let q = in_keep (λ f. holds eqb h (subs s (suc r) f)) x (subs s (suc (suc r)) g) m in
      keep_in (λ y. holds eqb g (sups s (suc r) y)) x (sups s r h)
      (means_sup s r x h (ok.below (suc r) g x q.0) (in_holds h (subs s (suc r) x) q.1))
      (holds_in g (sups s (suc r) x) (means_sup s (suc r) g x k q.0))

  -- Both are kept of rising lists.
  pub between-upward : between s (suc r) g h ≡ upward s r g h
  unfolding between upward
  between-upward =
      rising_same (between s (suc r) g h) (upward s r g h)
      (keep_rising _ (subs s (suc (suc r)) g) (ok.rising (suc (suc r)) g))
      (keep_rising _ (sups s r h) ((every-sups s).rising r h))
      down-up up-down
