-- Each of the three tests that fails makes it false.
-- Assumes nothing.
use mathlib.Core.Path.{refl}
use mathlib.Core.Logic.{◌⊎◌, inl, inr}
use Prim.Native.Nat.{ℕ, ◌≤◌, ◌<◌}
use native.Mathlib.Omega.{arith}
use borrow.Author.Rules.{rules}
use borrow.Author.Tests.{le-leb, lt-leb}
use Rattle.symmetry.specs.Listing.{fits}
use Rattle.symmetry.proofs.listing.has_room.Goals.{then-d-floats, else-d-floats}
use Rattle.symmetry.proofs.listing.has_room.Goals as goal

-- Where the matrix has room, it is the row that has none.
past : {n floats v entries : ℕ} → ((n ≤ floats) × (entries < v)) ⊎ (floats < n) → n ≤ floats → entries < v
past (inl p) h = p.1
past (inr p) h = absurd (omega arith)

pub returns-then-v-entries : goal.returns-then-v-entries
unfolding fits
returns-then-v-entries c = rw (le-leb _ _ c.if-v-entries.true.0, le-leb _ _ c.if-v-entries.true.1) (search rules)

pub returns-else-v-entries : goal.returns-else-v-entries
unfolding fits
returns-else-v-entries c =
    elim c.if-d-floats.branch [
      | then-d-floats w ↦ rw (w.t-7-is, le-leb _ _ w.if-d-floats.true, lt-leb _ _ (past c.if-v-entries.either w.if-d-floats.true)) refl
      | else-d-floats w ↦ rw (w.t-7-is, lt-leb _ _ w.if-d-floats.false) refl
    ]
