-- A field of w bits is below 2 ^ w, and the end of the sheet is told by bytes.
-- Assumes nothing.
use Rattle.std.specs.Prelude.{is_ok}
use mathlib.Core.Path.{◌≡◌, refl, sym}
use Prim.Native.Nat.{ℕ, zero, suc, ◌+◌, ◌-◌, ◌*◌, ◌/◌, ◌^◌, ◌≤◌, ◌<◌}
use native.Mathlib.Nat.{mod-lt, pow-zero, pow-suc, lt_of_lt_of_le}
use native.Mathlib.Omega.{arith}
use mathlib.Core.Bool.{Bool, true, false, ◌&&◌}
use mathlib.Core.List.{List}
use lib.ListN.{length}
use lib.Dec.{ltb, eqb, lit<}
use lib.Pow.{pow_mono}
use borrow.Author.Tests.{lt-ltb, le-ltb}
use Rattle.spec.specs.declared.Refusal.TheVariants.{CutSheet}
use Rattle.spec.specs.Bits.{bit, field}
use Rattle.spec.specs.Sheet.{judge, end}

pub bit-lt : (b : List ℕ) (i : ℕ) → bit b i < 2
unfolding bit
bit-lt b i = mod-lt _ (lit< tt)

module _ (b : List ℕ) (i : ℕ) where
  pub field_lt : (w : ℕ) → field b i w < 2 ^ w
  unfolding field
  field_lt zero = rw (pow-zero 2) (lit< tt)
  field_lt (suc w) = let h = field_lt w in let k = bit-lt b (i + w) in let p : 2 ^ suc w ≡ 2 ^ w * 2 = pow-suc 2 w in omega arith

  -- A field of at most 64 bits, and what the loop makes of it on the way, fit 64 bits.
  pub field_fits : (w : ℕ) → w ≤ 64 → field b i w < 2 ^ 64
  field_fits w h = lt_of_lt_of_le (field_lt w) (pow_mono h)

  pub next_fits : (w : ℕ) → w < 64 → 2 * field b i w + bit b (i + w) < 2 ^ 64
  unfolding field
  next_fits w h = field_fits (suc w) h

-- ---- the end of the sheet: the test of the filling bits, by bytes

module _ (b : List ℕ) (i : ℕ) where
  filling : Bool
  filling = ltb (8 * length b - i) 8 && eqb (field b i (8 * length b - i)) 0

  end_is : is_ok (end b i) ≡ filling
  unfolding end judge filling
  end_is = go (ltb (8 * length b - i) 8 && eqb (field b i (8 * length b - i)) 0)
    where
      go : (t : Bool) → is_ok (judge CutSheet t i) ≡ t
      go true = refl
      go false = refl

  -- A byte follows, so the end does not pass.
  pub end_follows : (i + 7) / 8 < length b → false ≡ is_ok (end b i)
  unfolding filling
  end_follows h = rw (le-ltb (8 * length b - i) 8 (omega arith)) at (sym end_is)

  -- Nothing is left, so the end passes.
  pub end_here : 8 * length b ≤ i → true ≡ is_ok (end b i)
  unfolding filling field
  end_here h = let e : 8 * length b - i ≡ 0 = omega arith in rw e at (sym end_is)

  -- Some bits of the last byte are left.
  pub end_filled : length b ≤ (i + 7) / 8 → eqb (field b i (8 * length b - i)) 0 ≡ is_ok (end b i)
  unfolding filling
  end_filled h = rw (lt-ltb (8 * length b - i) 8 (omega arith)) at (sym end_is)
