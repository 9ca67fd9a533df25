-- `ranked::starts_of` meets its contract, by the turns of `Firsts`. Assumes nothing.
use Rattle.ranked.proofs.Shaping.{Firsts}
use Rattle.ranked.proofs.starts_of.Given as goal

abbrev pub invariant-loop-r : goal.invariant-loop-r
invariant-loop-r l = Firsts l.rank l.counts l.first l.r
