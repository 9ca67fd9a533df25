-- `ranked::Shape::sub_entries` meets its contract. Assumes nothing.
use mathlib.Core.Path.{◌≡◌, sym}
use native.Mathlib.Omega.{arith}
use Prim.Native.Nat.{◌+◌, ◌-◌}
use Rattle.ranked.specs.Words.{size_at}
use Rattle.ranked.specs.Layout.{sub_entries}
use Rattle.ranked.proofs.Low.{entries_0, entries_1, entries_some}
use Rattle.ranked.proofs.Shape.sub_entries.Goals.{After-vertices}
use Rattle.ranked.proofs.Shape.sub_entries.Goals as goal

-- What is summed at the end.
module _ (v : After-vertices) where
  parts : sub_entries v.args.self v.args.entries
      ≡ size_at v.args.self 1 + v.args.entries + size_at v.args.self (v.args.self.rank - 1)
  parts = entries_some v.args.self v.args.entries v.if-self-eq0.false v.if-self-eq1.false

pub returns-then-self-eq0 : goal.returns-then-self-eq0
returns-then-self-eq0 c = sym (entries_0 c.args.self _ c.if-self-eq0.true)

pub returns-then-self-eq1 : goal.returns-then-self-eq1
returns-then-self-eq1 c = sym (entries_1 c.args.self _ c.if-self-eq1.true)

pub returns : goal.returns
returns c = omega (arith, c.vertices.ensures, c.size.ensures, parts (goal.at.returns c).After-vertices)
