use mathlib.Core.Path.{◌≡◌, refl, sym, ap, ◌∙◌}
use mathlib.Core.List.{List}
use Prim.Native.Nat.{ℕ, ◌*◌}
use native.Mathlib.Nat.{zero-mul}
use native.Mathlib.Omega.{arith}
use lib.ListN.{length, take}
use lib.Seq.{take_all}
use lib.Ieee.{Float}
use Rattle.spec.specs.Lists.{parts}
use Rattle.spec.specs.Matrix.{Matrix, Vector, mul_vec}
use Rattle.spec.specs.Copying.{spread, matrices}
use Rattle.laws.proofs.CopyLaws.{spread_adds}
use Rattle.points.proofs.Parts.{length-parts}
use Rattle.matrix.proofs.Padded.{take-image}
use Rattle.matrix.specs.Reading.{corner}
use Rattle.copying.specs.Post.{with_image}
use Rattle.copying.specs.Growing.{copies_in, Extended}
use Rattle.copying.proofs.Squares.{square_pos}
use Rattle.copying.proofs.Growth.{spread_nothing, spread_turn, matrices_next, matrices_none, image_longer}
use Rattle.copying.proofs.Extending.{extended_none, extended_next, extended_full, extended_is}
use Rattle.copying.proofs.joining.CopyList.spread.Goals.{After-add}
use Rattle.copying.proofs.joining.CopyList.spread.Goals as goal

-- These are the copies with the image under the matrix of the chunk.
abbrev all : (c : After-add) → List Vector
all c =
    let d = c.args.self.now.dimension in
    with_image (copies_in c.loop-turn.self) (mul_vec (parts d d c.in-Some.turn.now) (take d c.args.p))

kept : (c : After-add) → Extended c.loop-turn.self (all c) c.add.new.self c.add.result
kept c =
    let d = c.args.self.now.dimension in
    let l = c.loop-turn in
    let turn = c.in-Some.turn.now in
    let whole : take (d * d) turn ≡ turn = take_all (d * d) turn (omega (arith, c.in-Some.ensures.steps.1.1, l.invariant.0)) in
    let m : corner d c.matrix_at.result ≡ parts d d turn = rw (zero-mul, whole) at c.matrix_at.ensures in
    let e : take l.self.dimension c.image.result ≡ mul_vec (parts d d turn) (take d c.args.p) =
    ap (λ (k : ℕ). take k c.image.result) l.invariant.1.dimension
    ∙ take-image d _ (ap length m ∙ length-parts d d _) _ _ c.image.ensures
    ∙ ap (λ (x : Matrix). mul_vec x (take d c.args.p)) m in
    rw e at c.add.ensures

-- The images that are left give the whole.
left : (c : After-add) → (
    let d = c.args.self.now.dimension in
    let p = take d c.args.p in
    spread (matrices d c.next.new.self.rest.now) p (all c) ≡ spread (matrices d c.args.turns.now) p (copies_in c.args.self.now))
left c =
    let s = c.args.self.now in
    let d = s.dimension in
    let p = take d c.args.p in
    let l = c.loop-turn in
    let turn = c.in-Some.turn.now in
    let rest = c.next.new.self.rest.now in
    let steps = c.in-Some.ensures.steps in
    sym (ap (λ (x : List Float). spread (matrices d x) p (copies_in l.self)) steps.1.0
    ∙ ap (λ (ms : List Matrix). spread ms p (copies_in l.self)) (matrices_next d turn rest (square_pos d s.fits.0) (steps.1.1 ∙ l.invariant.0))
    ∙ spread_turn p (parts d d turn) (matrices d rest) (copies_in l.self)) ∙ l.invariant.2

pub loop-turn-init : goal.loop-turn-init
loop-turn-init c = rw c.into_iter-turn-iterator.ensures.into_iter_gives (c.chunks_exact-turn-items.ensures.size, extended_none c.args.self.now, rw c.chunks_exact-turn-items.ensures.rest refl)

pub returns-in_err-add : goal.returns-in_err-add
returns-in_err-add c =
    let b = (goal.at.returns-in_err-add c).After-add in
    let d = b.args.self.now.dimension in
    let more = spread_adds (matrices d b.next.new.self.rest.now) (take d b.args.p) (all b) in
    rw c.from_residual.ensures (extended_full b.loop-turn.invariant.1 (image_longer _ _) (more.0, sym (left b) ∙ more.1) (rw c.in_err-add.was at (kept b)))

pub loop-turn-preserved : goal.loop-turn-preserved
loop-turn-preserved c =
    let b = (goal.at.loop-turn-preserved c).After-add in
    let l = b.loop-turn in
    let e = rw c.in_ok-add.was at (kept b) in (
      b.in-Some.ensures.steps.0 ∙ l.invariant.0,
      rw (sym (extended_is e)) at (extended_next l.invariant.1 (image_longer _ _) e),
      rw (extended_is e) (left b),
    )

pub returns : goal.returns
returns c =
    let s = c.args.self.now in
    let p = take s.dimension c.args.p in
    let l = c.loop-turn in
    let none = matrices_none s.dimension l.turn-iterator.rest.now (omega (arith, c.in-None.ensures.steps, l.invariant.0)) in
    let e = sym l.invariant.2 ∙ ap (λ (ms : List Matrix). spread ms p (copies_in l.self)) none ∙ spread_nothing p (copies_in l.self) in
    rw (sym e) at l.invariant.1
