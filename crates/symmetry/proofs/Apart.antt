-- A list repeats nothing where none of its members is held by those after it.
-- Assumes nothing.
use mathlib.Core.Path.{◌≡◌, refl, sym, ap, ◌∙◌}
use mathlib.Core.Bool.{Bool, true, false, not, ◌&&◌}
use mathlib.Core.List.{List}
use Prim.Native.Nat.{ℕ, zero, suc, ◌+◌}
use native.Mathlib.Omega.{arith}
use lib.ListN.{length, get_or, drop, drop_of_length-le}
use lib.Seq.{drop-cons}
use Rattle.spec.specs.Lists.{range, every, holds, no_repeats}

module _ {A : Type 0} (same : A → A → Bool) (d : A) (l : List A) where
  -- Member e is not held by what comes after it.
  abbrev pub alone : ℕ → Bool
  alone e = not (holds same (get_or l e d) (drop (suc e) l))

  pub alone_all : (k n : ℕ) → k + n ≡ length l → every alone (range k n) ≡ no_repeats same (drop k l)
  unfolding every range no_repeats
  alone_all k zero e = sym (ap (no_repeats same) (drop_of_length-le l {i = k} (omega (arith, e))))
  alone_all k (suc n) e = go (alone k) (alone_all (suc k) n (omega (arith, e))) ∙ sym (ap (no_repeats same) (drop-cons l k d (omega (arith, e))))
    where
      go : (b : Bool) → {t u : Bool} → t ≡ u → elim b as (λ z. Bool) [ true ↦ t | false ↦ false ] ≡ (b && u)
      go true q = q
      go false q = refl
