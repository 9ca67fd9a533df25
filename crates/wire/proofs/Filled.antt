-- This is the invariant of a loop that fills an output: the cells before i hold what g gives for their places, and the others are as they were.
-- Assumes nothing.
use mathlib.Core.Path.{◌≡◌, refl}
use mathlib.Core.List.{List, map}
use Prim.Native.Nat.{ℕ, ◌+◌, ◌≤◌, ◌<◌}
use native.Mathlib.Omega.{arith}
use lib.ListN.{length, set}
use Rattle.spec.specs.Lists.{range}
use Rattle.float.proofs.Written as written
use Rattle.float.proofs.Written.{Written}

pub record OutputFilled {A : Type 0} (g : ℕ → A) (l r : List A) (i : ℕ) : Type 0 where
  pub within : i ≤ length l
  pub cells : Written (λ x. x) g l r i

module _ {A : Type 0} {g : ℕ → A} {l : List A} where
  pub none : OutputFilled g l l 0
  none = record { within = omega arith; cells = written.none }

  pub next : {r : List A} {i : ℕ} (x : A) → i < length r → x ≡ g i → OutputFilled g l r i → OutputFilled g l (set r i x) (i + 1)
  next x h e f = let k = f.cells.long in record { within = omega arith; cells = written.next x (omega arith) e f.cells }

  pub all : {r : List A} {i : ℕ} → length r ≤ i → OutputFilled g l r i → r ≡ map g (range 0 (length l))
  all h f = let k = f.cells.long in written.all (length l) refl f.within (omega arith) f.cells
