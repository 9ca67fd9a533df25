-- The run grows by the size of an element at each of them. Assumes nothing.
use Prim.Native.Nat.{◌+◌, ◌*◌}
use mathlib.Core.Path.{◌≡◌}
use Rattle.wire.proofs.Run.output.Given as goal

abbrev pub invariant-loop-x : goal.invariant-loop-x
invariant-loop-x g l = l.after.count ≡ l.fn.self.count + g.T.Storable.size * l.x-index
