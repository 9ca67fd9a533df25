-- The first axis decides, or else the whole point does.
-- Assumes nothing.
use mathlib.Core.Path.{◌≡◌, sym, ◌∙◌}
use native.Mathlib.Omega.{arith}
use lib.ListN.{length}
use lib.Ieee.{of_bits}
use Rattle.spec.specs.Float.{eps}
use borrow.Author.Rules.{rules}
use Rattle.spec.specs.Limits.{max_dimension}
use Rattle.points.proofs.Parts.{part_end}
use Rattle.points.proofs.Nearness.{near_within, first_not, within-part}
use Rattle.points.proofs.Points.near_at.Goals.{Start}
use Rattle.points.proofs.Points.near_at.Goals as goal

long : (c : Start) → length c.args.q ≡ max_dimension
long c = search rules

pub returns-then-within : goal.returns-then-within
unfolding of_bits eps
returns-then-within c =
    let p = c.args.self.now in
    let room = part_end p.count p.dimension c.args.v c.requires.0 in
    c.near.ensures ∙ within-part eps p.dimension p.floats.now c.args.q c.args.v _ (omega arith) c.get.ensures ∙ sym (near_within _ _)

pub returns-else-within : goal.returns-else-within
unfolding of_bits eps
returns-else-within c =
    let s = (goal.at.returns-else-within c).Start in
    let p = s.args.self.now in
    let room = part_end p.count p.dimension s.args.v s.requires.0 in
    c.if-within.false
    ∙ first_not p.dimension p.floats.now s.args.q s.args.v s.requires.1 (omega (arith, long s)) (omega arith) (sym c.within.ensures ∙ c.if-within.false)
