-- The first flag goes down from the top, whose only element is 0.
-- Assumes nothing.
use native.Mathlib.Omega.{arith}
use mathlib.Core.Path.{◌∙◌}
use Prim.Native.Nat.{ℕ, suc}
use lib.ListN.{replicate, get_or-replicate}
use Rattle.spec.specs.Limits.{max_rank}
use Rattle.flag.proofs.Flags.{top-down}
use Rattle.flag.proofs.Flag.first.Goals as goal

pub returns : goal.returns
returns c =
    let s = c.args.solid.now in
    (rw c.rank.ensures at c.down.ensures) ∙ top-down s.shape s.lists.now s.held (replicate {A = ℕ} (suc max_rank) 0) (get_or-replicate {A = ℕ} (suc max_rank) s.shape.rank 0 0 (omega (arith, s.held.tall)))
