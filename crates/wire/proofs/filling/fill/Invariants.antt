-- Each cell is filled by its place. Assumes nothing.
use Rattle.wire.proofs.Filled.{OutputFilled}
use Rattle.wire.proofs.filling.fill.Given as goal

abbrev pub invariant-loop-i : goal.invariant-loop-i
invariant-loop-i g l = OutputFilled g.T.Fillable.filler l.initial.out l.out l.i
