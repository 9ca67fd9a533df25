-- The ranks are started one after another, as `TypesBegun` says.
-- Assumes nothing.
use mathlib.Core.List.{◌++◌}
use Rattle.element_types.proofs.settling.Begun.{TypesBegun}
use Rattle.element_types.proofs.settling.starting.start.Given as goal

abbrev pub invariant-loop-r : goal.invariant-loop-r
invariant-loop-r l = TypesBegun l.sh (l.initial.held ++ l.initial.free) (l.held ++ l.free) l.classes l.r
