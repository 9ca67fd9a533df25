use mathlib.Core.Path.{refl, sym, ap, ◌∙◌}
use Rattle.spec.specs.Hull.{listed_for, smaller}
use Rattle.geometry.proofs.Nearest.{near, far}
use Rattle.geometry.proofs.classes.listed_for.Goals as goal

pub loop-y-init : goal.loop-y-init
unfolding listed_for
loop-y-init c = refl

pub loop-y-preserved-then-nearer : goal.loop-y-preserved-then-nearer
loop-y-preserved-then-nearer c =
    c.smaller-found.ensures ∙ ap (smaller c.in-Some.y.now) c.loop-y.invariant ∙ near (λ y. y.now) c.args.x c.loop-y.yielded c.in-Some.y (sym c.nearer.ensures ∙ c.if-nearer.true)

pub loop-y-preserved : goal.loop-y-preserved
loop-y-preserved c = c.loop-y.invariant ∙ far (λ y. y.now) c.args.x c.loop-y.yielded c.in-Some.y (sym c.nearer.ensures ∙ c.if-nearer.false)
