-- The shape tells how many entries all subs have, and they are few.
-- Assumes nothing.
use mathlib.Core.Path.{◌≡◌, refl}
use mathlib.Core.Logic.{◌≢◌}
use Prim.Native.Nat.{ℕ, zero, suc, ◌+◌, ◌-◌, ◌^◌, ◌≤◌, ◌<◌}
use native.Mathlib.Omega.{arith}
use Rattle.spec.specs.Limits.{max_rank}
use Rattle.ranked.specs.declared.Shape.{Shape}
use Rattle.ranked.specs.Words.{first_at, size_at, total}
use Rattle.ranked.specs.Layout.{sub_entries}
use Rattle.ranked.proofs.Starts.{first_rises}

module _ (sh : Shape) (I : ℕ) where
  pub entries_0 : sh.rank ≡ 0 → sub_entries sh I ≡ 0
  unfolding sub_entries
  entries_0 e = rw (e, sub_entries)

  pub entries_1 : sh.rank ≡ 1 → sub_entries sh I ≡ 1
  unfolding sub_entries
  entries_1 e = rw (e, sub_entries)

  -- Where R is two or more, the entries are those of the vertices, of the lists and of the top.
  pub sub-entries_is : (z : ℕ) → sh.rank ≡ suc (suc z) → sub_entries sh I ≡ size_at sh 1 + I + size_at sh (suc z)
  unfolding sub_entries
  sub-entries_is z e = rw (e, sub_entries)

  -- The rank below the top is R - 1.
  pub entries_some : sh.rank ≢ 0 → sh.rank ≢ 1 → sub_entries sh I ≡ size_at sh 1 + I + size_at sh (sh.rank - 1)
  entries_some up tall =
      let d : suc (sh.rank - 2) ≡ sh.rank - 1 = omega arith in
      rw d at (sub-entries_is (sh.rank - 2) (omega arith))

  module _ (small : (sh.rank ≤ max_rank) × (total sh < 2 ^ 32) × (I < 2 ^ 32)) (some : (r : ℕ) → r ≤ sh.rank → first_at sh r < first_at sh (suc r)) where
    -- A rank's elements are among all.
    size_few : (r : ℕ) → r ≤ sh.rank → size_at sh r ≤ total sh
    size_few r h = omega (arith, first_rises sh some (suc r) (suc sh.rank) (omega arith) (omega arith))

    pub entries_small : sub_entries sh I < 2 ^ 34
    entries_small = go sh.rank refl
      where
        go : (Q : ℕ) → sh.rank ≡ Q → sub_entries sh I < 2 ^ 34
        go zero e = omega (arith, entries_0 e)
        go (suc zero) e = omega (arith, entries_1 e)
        go (suc (suc z)) e = omega (arith, sub-entries_is z e, size_few 1 (omega arith), size_few (suc z) (omega arith), small.1, small.2)
