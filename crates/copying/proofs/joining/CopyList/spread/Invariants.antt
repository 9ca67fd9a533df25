-- The loop's invariant is that the copies so far, with the images under the matrices that are left, are the whole.
-- Assumes nothing.
use mathlib.Core.Path.{◌≡◌}
use Rattle.std.specs.Prelude.{Some}
use Prim.Native.Nat.{◌*◌}
use lib.ListN.{take}
use Rattle.spec.specs.Copying.{spread, matrices}
use Rattle.copying.specs.Growing.{copies_in, Extended}
use Rattle.copying.proofs.joining.CopyList.spread.Given as goal

abbrev pub invariant-loop-turn : goal.invariant-loop-turn
invariant-loop-turn l =
    (l.turn-iterator.size ≡ l.d * l.d) × Extended l.initial.self (copies_in l.self) l.self (Some tt)
    × (spread (matrices l.d l.turn-iterator.rest.now) (take l.d l.p) (copies_in l.self) ≡ spread (matrices l.d l.turns) (take l.d l.p) (copies_in l.initial.self))
