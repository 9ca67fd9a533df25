-- The ranks lie one after another: a rank starts no later than those above it.
-- Assumes nothing.
use mathlib.Core.Path.{◌≡◌, refl}
use mathlib.Core.Logic.{◌⊎◌, inl, inr}
use Prim.Native.Nat.{ℕ, zero, suc, ◌+◌, ◌-◌, ◌≤◌, ◌<◌}
use mathlib.Core.Bool.{Bool, true, false}
use native.Mathlib.Omega.{arith}
use lib.Dec.{ltb}
use borrow.Author.Tests.{ltb-true, ltb-false}
use Rattle.ranked.specs.declared.Shape.{Shape}
use Rattle.ranked.specs.Words.{first_at}

-- A number is below another or not.
pub lt_or_le : (a b : ℕ) → (a < b) ⊎ (b ≤ a)
lt_or_le a b = go (ltb a b) refl
  where
    go : (t : Bool) → ltb a b ≡ t → (a < b) ⊎ (b ≤ a)
    go true e = inl (ltb-true a b e)
    go false e = inr (ltb-false a b e)

module _ (sh : Shape) (some : (r : ℕ) → r ≤ sh.rank → first_at sh r < first_at sh (suc r)) where
  first-up : (d r : ℕ) → r + d ≤ suc sh.rank → first_at sh r ≤ first_at sh (r + d)
  first-up zero r h = let e : r + 0 ≡ r = omega arith in rw e (omega arith)
  first-up (suc d) r h =
      let e : r + suc d ≡ suc (r + d) = omega arith in
      rw e (omega (arith, first-up d r (omega arith), some (r + d) (omega arith)))

  -- A rank starts no later than those above it.
  pub first_rises : (r t : ℕ) → r ≤ t → t ≤ suc sh.rank → first_at sh r ≤ first_at sh t
  first_rises r t h k = let e : r + (t - r) ≡ t = omega arith in rw e at (first-up (t - r) r (omega arith))
