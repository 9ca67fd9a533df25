-- A vertex goes where the row says, and any other element by its subs.
-- Assumes nothing.
use native.Mathlib.Omega.{arith}
use Prim.Native.Nat.{◌≤◌}
use Rattle.marks.proofs.Carried.{vertex_lands, cells_low, element-lands}
use Rattle.marks.proofs.Permutation.reach.Goals.{After-start-from}
use Rattle.marks.proofs.Permutation.reach.Goals as goal

two : (c : After-start-from) → 2 ≤ c.args.r
two c = omega (arith, c.requires.0.low, c.if-r-eq1.false)

pub returns-then-r-eq1 : goal.returns-then-r-eq1
returns-then-r-eq1 c = vertex_lands c.args.self.now c.requires.0 c.args.e c.requires.1 c.if-r-eq1.true _ c.from.ensures

pub rise-requires-clause-by_index : goal.rise-requires-clause-by_index
rise-requires-clause-by_index c = cells_low c.args.self.now c.requires.0 (two (goal.at.rise-requires-clause-by_index c).After-start-from) _ c.start-from.ensures

pub returns : goal.returns
returns c = element-lands c.args.self.now c.requires.0 (two (goal.at.returns c).After-start-from) _ c.start-from.ensures c.args.e c.requires.1 _ c.rise.ensures
