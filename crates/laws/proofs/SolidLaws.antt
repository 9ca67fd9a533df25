-- This file has laws of the sups of a solid, and of its ridges after the exchange of facets.
-- Assumes nothing.
use mathlib.Core.Path.{◌≡◌, refl, ap}
use mathlib.Core.Logic.{◌≢◌, ◌↔◌}
use Prim.Native.Nat.{ℕ, zero, suc, ◌-◌, ◌≤◌, ◌<◌}
use mathlib.Core.Bool.{Bool, true, false}
use mathlib.Core.List.{◌∷◌}
use native.Mathlib.Omega.{arith}
use lib.Dec.{eqb}
use Rattle.spec.specs.Lists.{In, holds, range, keep}
use Rattle.spec.specs.Types.{Solid, top, size, subs, sups}
use Rattle.spec.specs.Demand.{RisingAbove, Rising}
use Rattle.spec.specs.Search.{exchanged_in}
use Rattle.laws.specs.SolidLaws.{EverySups, swap, EverySupsFollow}
use Rattle.laws.proofs.Lists.{in_range_lem, of_range}
use Rattle.laws.proofs.Counts.{keep_in, in_keep, holds_in, in_holds}
use Rattle.laws.proofs.Exchange.{keep_same, swap_back, swap-low, size_same, subs-n, subs-other}

-- ---- a part of a range rises

keep-above : (p : ℕ → Bool) (x a n : ℕ) → x < a → RisingAbove x (keep p (range a n))
unfolding keep range
keep-above p x a zero h = tt
keep-above p x a (suc n) h = go (p a) refl (keep-above p a (suc a) n (omega arith)) (keep-above p x (suc a) n (omega arith))
  where
    go : (b : Bool) → p a ≡ b → RisingAbove a (keep p (range (suc a) n)) → RisingAbove x (keep p (range (suc a) n)) → RisingAbove x (keep p (a ∷ range (suc a) n))
    go true e taken passed = rw (e, keep) (h, taken)
    go false e taken passed = rw (e, keep) passed

keep_rising : (p : ℕ → Bool) (a n : ℕ) → Rising (keep p (range a n))
unfolding keep range
keep_rising p a zero = tt
keep_rising p a (suc n) = go (p a) refl (keep-above p a (suc a) n (omega arith)) (keep_rising p (suc a) n)
  where
    go : (b : Bool) → p a ≡ b → RisingAbove a (keep p (range (suc a) n)) → Rising (keep p (range (suc a) n)) → Rising (keep p (a ∷ range (suc a) n))
    go true e taken passed = rw (e, keep) taken
    go false e taken passed = rw (e, keep) passed

pub every-sups : EverySups
unfolding sups
every-sups s = record {
  rising = λ r e. keep_rising (λ f. holds eqb e (subs s (suc r) f)) 0 (size s (suc r));
  derived = λ r e f. (
    λ m. let k = in_keep (λ g. holds eqb e (subs s (suc r) g)) f (range 0 (size s (suc r))) m in
        (omega (arith, of_range 0 (size s (suc r)) f k.0), in_holds e (subs s (suc r) f) k.1),
    λ h. keep_in (λ g. holds eqb e (subs s (suc r) g)) f (range 0 (size s (suc r))) (in_range_lem 0 (size s (suc r)) f (omega arith) (omega (arith, h.0))) (holds_in e (subs s (suc r) f) h.1),
  );
}

-- ---- the exchange

module _ (s : Solid) (tall : 2 ≤ top s) (f : ℕ) (low : f < size s (top s - 1)) where
  abbrev t : Solid
  t = exchanged_in s f

  above_ridges : suc (top s - 2) ≡ top s - 1
  above_ridges = omega arith

  -- The number x is a facet over e in the one solid exactly when `swap f x` is in the other, since both have the same subs.
  follow : (e x : ℕ) → In x (sups t (top s - 2) e) ↔ In (swap f x) (sups s (top s - 2) e)
  follow e x = (
    λ m. let k = rw (above_ridges, size_same s tall f low (top s - 1), subs-n s tall f low x) at (((every-sups t).derived (top s - 2) e x).0 m) in
        ((every-sups s).derived (top s - 2) e (swap f x)).1 (rw above_ridges (swap-low f x (size s (top s - 1)) low k.0, k.1)),
    λ m. let k = rw above_ridges at (((every-sups s).derived (top s - 2) e (swap f x)).0 m) in
        ((every-sups t).derived (top s - 2) e x).1
        (rw (above_ridges, size_same s tall f low (top s - 1), subs-n s tall f low x) (rw (swap_back f x) at (swap-low f (swap f x) (size s (top s - 1)) low k.0), k.1)),
  )

  others : (r e : ℕ) → r ≢ top s - 2 → sups t r e ≡ sups s r e
  unfolding sups
  others r e n =
      rw (size_same s tall f low (suc r))
      (keep_same (λ g. holds eqb e (subs t (suc r) g)) (λ g. holds eqb e (subs s (suc r) g)) (λ g. ap (holds eqb e) (subs-other s tall f low (suc r) (omega arith) g)) (range 0 (size s (suc r))))

pub every-sups_follow : EverySupsFollow
every-sups_follow s tall f low = record {
  moved = subs-n s tall f low;
  follow = follow s tall f low;
  sorted = λ e. (every-sups (exchanged_in s f)).rising (top s - 2) e;
  others = others s tall f low;
}
