-- Going down from the top, the elements from rank r on are found.
-- Assumes nothing.
use mathlib.Core.List.{◌++◌}
use Prim.Native.Nat.{suc, ◌-◌}
use lib.ListN.{get_or, take, drop}
use Rattle.spec.specs.Flags.{first_to}
use Rattle.ranked.specs.Words.{abs_in}
use Rattle.flag.proofs.Flags.{Down}
use Rattle.flag.proofs.down.Given as goal

abbrev pub invariant-loop-r : goal.invariant-loop-r
invariant-loop-r l = Down l.solid.shape l.solid.lists.now (first_to (abs_in l.solid.shape l.solid.lists.now) l.from (get_or l.fn.start l.from 0) ++ take (l.solid.shape.rank - l.from) (drop (suc l.from) l.fn.start)) l.elements l.r
