-- The tests of the ranks, taken together, are refusals 5 and 6.
-- Assumes nothing.
use mathlib.Core.Path.{◌≡◌, refl, sym, ◌∙◌}
use mathlib.Core.Bool.{Bool, true, false}
use Prim.Native.Nat.{ℕ, zero, suc, ◌+◌, ◌-◌, ◌<◌}
use native.Mathlib.Omega.{arith}
use Rattle.spec.specs.Lists.{range, every}
use Rattle.spec.specs.Types.{Solid, top, proper_ranks}
use Rattle.spec.specs.Solid.{bound, diamond}
use Rattle.preflight.specs.Check.{bound_rank, two_under, two_at, two_rank, two_from}

-- What fails among the later numbers of a range fails among all.
range-later : (p : ℕ → Bool) (k a m b n : ℕ) → b ≡ k + a → n ≡ k + m → every p (range b m) ≡ false → every p (range a n) ≡ false
unfolding every range
range-later p zero a m b n eb en e = let x : b ≡ a = omega arith in let y : n ≡ m = omega arith in rw y (rw x at e)
range-later p (suc k) a m b zero eb en e = absurd (omega arith)
range-later p (suc k) a m b (suc n) eb en e = go (p a) (range-later p k (suc a) m b n (omega arith) (omega arith) e)
  where
    go : (t : Bool) → every p (range (suc a) n) ≡ false → elim t as (λ c. Bool) [ true ↦ every p (range (suc a) n) | false ↦ false ] ≡ false
    go true f = f
    go false f = refl

module _ (s : Solid) where
  pub bound_is : every (bound_rank s) (range 1 (top s - 2)) ≡ bound s
  unfolding bound bound_rank
  bound_is = refl

  -- The tests from rank 0 on are the whole, and those of later ranks are a part of it.
  pub diamond-whole : two_from s 0 ≡ diamond s
  unfolding two_from two_rank two_at two_under diamond proper_ranks
  diamond-whole = let q : top s - 1 - 0 ≡ top s - 1 = omega arith in rw q refl

  pub diamond_not : (k : ℕ) → k < top s → two_from s k ≡ false → diamond s ≡ false
  unfolding two_from
  diamond_not k m e = sym diamond-whole ∙ range-later (two_rank s) k 1 (top s - 1 - k) (suc k) (top s - 1 - 0) (omega arith) (omega arith) e
