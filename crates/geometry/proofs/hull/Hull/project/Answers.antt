use mathlib.Core.Path.{◌≡◌, ap, ◌∙◌}
use mathlib.Core.List.{map}
use Prim.Native.Nat.{◌+◌, ◌*◌, ◌-◌}
use lib.ListN.{take, drop, length}
use borrow.Author.Rules.{rules}
use Rattle.spec.specs.Limits.{max_dimension}
use Rattle.spec.specs.Lists.{range}
use Rattle.spec.specs.Float.{dot}
use Rattle.spec.specs.Matrix.{Vector}
use Rattle.spec.specs.Hull.{along, project}
use Rattle.geometry.specs.Reading.{vector_at, hull_in}
use Rattle.geometry.proofs.Along.{next, end, part_is, vector_long, moved_is}
use Rattle.geometry.proofs.hull.Hull.project.Goals.{In-loop-k, Start}
use Rattle.geometry.proofs.hull.Hull.project.Goals as goal

long : (c : Start) → length c.args.self.basis ≡ max_dimension * max_dimension
long c = search rules

-- The part that is lent is the vector of the turn.
lent : (c : In-loop-k) →
    let a = c.args in
    let at = c.loop-k.k * max_dimension in
    take (at + length a.p.now - at) (drop at a.self.basis) ≡ vector_at (length a.p.now) a.self.basis c.loop-k.k
lent c = part_is (length c.args.p.now) (c.loop-k.k * max_dimension) _

-- That vector has d entries.
wide : (c : In-loop-k) →
    let a = c.args in
    length a.self.basis ≡ max_dimension * max_dimension →
    length (vector_at (length a.p.now) a.self.basis c.loop-k.k) ≡ length a.p.now
wide c l =
    vector_long (length c.args.p.now) c.loop-k.k c.args.self.count c.args.self.basis c.requires.0 c.loop-k-test.true c.requires.1 l

pub loop-k-preserved : goal.loop-k-preserved
loop-k-preserved c =
    let e = lent (goal.at.loop-k-preserved c).In-loop-k in
    (search rules, next c.loop-k-test.true (c.dot-s.ensures ∙ ap (dot _) e) (moved_is c.loop-k.q c.step_along.new.q c.dot-s.result e (wide (goal.at.loop-k-preserved c).In-loop-k (long (goal.at.loop-k-preserved c).Start)) c.step_along.ensures) c.loop-k.invariant.1)

pub returns : goal.returns
unfolding project hull_in
returns c =
    let a = c.args in
    end c.loop-k-test.false c.loop-k.invariant.1
    ∙ ap (λ (v : Vector). along v (take (length a.p.now) a.self.offset) (map (vector_at (length a.p.now) a.self.basis) (range 0 a.self.count))) c.difference-away.ensures
