-- The loop's invariant is that the copies so far, with those of the points that are left, are the whole.
-- Assumes nothing.
use Rattle.std.specs.Prelude.{Some}
use Prim.Native.Nat.{◌≤◌}
use Rattle.spec.specs.Copying.{copies_from, matrices}
use Rattle.points.specs.Listed.{listed}
use Rattle.copying.specs.Growing.{copies_in, Extended}
use Rattle.copying.proofs.Growth.{Done}
use Rattle.copying.proofs.joining.CopyList.copy_all.Given as goal

abbrev pub invariant-loop-k : goal.invariant-loop-k
invariant-loop-k l =
    (l.k ≤ l.from.count) × Extended l.initial.self (copies_in l.self) l.self (Some tt)
    × Done (copies_from (matrices l.initial.self.dimension l.turns)) (listed l.from) (copies_in l.initial.self) l.k (copies_in l.self)
