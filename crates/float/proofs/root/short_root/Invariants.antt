-- `float::root::short_root` meets its contract. The invariant of its loop is that `root` is the root of the digits brought down, in as many digits as
-- turns are done, and that `rest` is what its square leaves of them. Assumes nothing.
use Prim.Native.Nat.{ℕ, ◌-◌, ◌*◌, ◌/◌, ◌^◌}
use Rattle.float.proofs.root.Digits.{Root}
use Rattle.float.proofs.root.short_root.Given as goal

-- These are the digits that are down after i turns.
abbrev pub Brought : ℕ → ℕ → ℕ
Brought n i = n / 2 ^ (54 - 2 * i)

abbrev pub invariant-loop-done : goal.invariant-loop-done
invariant-loop-done l = Root l.done (Brought l.n l.done) l.root l.rest
