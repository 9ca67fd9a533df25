use mathlib.Core.Path.{◌≡◌, refl, sym, ap, subst, ◌∙◌}
use mathlib.Core.List.{List, []}
use Prim.Native.Nat.{ℕ, ◌<◌}
use native.Mathlib.Omega.{arith}
use lib.ListN.{length, get_or, take}
use borrow.Author.Rules.{rules}
use Rattle.spec.specs.Matrix.{Vector}
use Rattle.spec.specs.Copying.{matrices}
use Rattle.laws.proofs.CopyLaws.{copies-add}
use Rattle.points.specs.Listed.{listed}
use Rattle.points.proofs.Parts.{length-parts, part_at}
use Rattle.copying.specs.Post.{with_point}
use Rattle.copying.specs.Growing.{copies_in, Extended}
use Rattle.copying.proofs.Growth.{done_first, done_next, done_longer, done_end, copies_nothing, copies_turn, point_longer}
use Rattle.copying.proofs.Extending.{extended_none, extended_next, extended_full, extended_is}
use Rattle.copying.proofs.joining.CopyList.copy_all.Goals.{After-copy}
use Rattle.copying.proofs.joining.CopyList.copy_all.Goals as goal

-- These are the copies with those of point k.
abbrev all : (c : After-copy) → List Vector
all c =
    let p = c.args.from.now in
    let l = c.loop-k in
    with_point (matrices c.args.self.now.dimension c.args.turns.now) (copies_in l.self) (get_or (listed p) l.k [])

kept : (c : After-copy) → Extended c.loop-k.self (all c) c.copy.new.self c.copy.result
kept c =
    let p = c.args.from.now in
    let d = c.args.self.now.dimension in
    let turns = c.args.turns.now in
    let l = c.loop-k in
    let e : take d c.loaded.result ≡ get_or (listed p) l.k [] =
    ap (λ (k : ℕ). take k c.loaded.result) (sym c.requires) ∙ c.loaded.ensures ∙ sym (part_at p.count p.dimension p.floats.now l.k c.loop-k-test.true) in
    subst (λ (x : List Vector). Extended l.self x c.copy.new.self c.copy.result)
    (ap (λ (k : ℕ). with_point (matrices k turns) (copies_in l.self) (take k c.loaded.result)) l.invariant.1.dimension ∙ ap (with_point (matrices d turns) (copies_in l.self)) e)
    c.copy.ensures

below : (c : After-copy) → c.loop-k.k < length (listed c.args.from.now)
below c =
    let p = c.args.from.now in
    rw (length-parts p.count p.dimension p.floats.now) c.loop-k-test.true

pub loop-k-init : goal.loop-k-init
loop-k-init c = (search rules, extended_none c.args.self.now, done_first)

pub returns-in_err-copy : goal.returns-in_err-copy
returns-in_err-copy c =
    let b = (goal.at.returns-in_err-copy c).After-copy in
    let ms = matrices b.args.self.now.dimension b.args.turns.now in
    let l = b.loop-k in
    rw c.from_residual.ensures
    (extended_full l.invariant.1 (point_longer ms _ _) (done_longer (with_point ms) (copies_turn ms) [] (copies-add ms) (below b) refl l.invariant.2) (rw c.in_err-copy.was at (kept b)))

pub loop-k-preserved : goal.loop-k-preserved
loop-k-preserved c =
    let b = (goal.at.loop-k-preserved c).After-copy in
    let ms = matrices b.args.self.now.dimension b.args.turns.now in
    let l = b.loop-k in
    let e = rw c.in_ok-copy.was at (kept b) in (
      omega (arith, b.loop-k-test.true),
      rw (sym (extended_is e)) at (extended_next l.invariant.1 (point_longer ms _ _) e),
      done_next (with_point ms) (copies_turn ms) [] (below b) (extended_is e) l.invariant.2,
    )

pub returns : goal.returns
returns c =
    let p = c.args.from.now in
    let l = c.loop-k in
    let n = length-parts p.count p.dimension p.floats.now in
    rw (done_end (copies_nothing (matrices c.args.self.now.dimension c.args.turns.now)) (omega (arith, n, l.invariant.0)) (omega (arith, n, c.loop-k-test.false)) l.invariant.2) at l.invariant.1
