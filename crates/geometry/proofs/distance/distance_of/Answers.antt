use mathlib.Core.Path.{◌≡◌, sym, ap, ◌∙◌}
use mathlib.Core.List.{[], map}
use Prim.Native.Nat.{◌-◌, ◌≤◌, ◌<◌}
use native.Mathlib.Omega.{arith}
use lib.ListN.{length, length-map, take, drop}
use Rattle.spec.specs.Matrix.{Vector}
use Rattle.spec.specs.Hull.{Hull, add_all, distance}
use Rattle.laws.proofs.Lists.{get_or-map}
use Rattle.points.specs.Listed.{listed_at}
use Rattle.points.proofs.Parts.{part_long}
use Rattle.geometry.specs.Reading.{hull_in}
use Rattle.geometry.proofs.Gathered.{length_basis, item-in, whole, stop, next, end}
use Rattle.geometry.proofs.distance.distance_of.Goals.{After-get-in-loop-v, After-get, else-loop-v-test, then-loop-v-test+then-k-points, in-Some, in-None}
use Rattle.geometry.proofs.distance.distance_of.Goals as goal

-- A point is as wide as all are.
wide : (c : After-get-in-loop-v) → length c.get-in-loop-v.result.now ≡ c.args.points.now.dimension
wide c =
    let p = c.args.points.now in
    let low = item-in c.args.list.now c.loop-v.v-index c.from-in-loop-v.result p.count c.requires.1 c.loop-v-test.true c.from-in-loop-v.ensures in
    ap length c.get-in-loop-v.ensures ∙ part_long p.count p.dimension p.floats.now c.from-in-loop-v.result low p.fits.1

wide-first : (c : After-get) → length c.get.result.now ≡ c.args.points.now.dimension
wide-first c = let p = c.args.points.now in ap length c.get.ensures ∙ part_long p.count p.dimension p.floats.now c.from.result (rw c.from.ensures (c.requires.1 0 c.requires.0)) p.fits.1

pub loop-v-preserved : goal.loop-v-preserved
loop-v-preserved c =
    let l = c.loop-v in
    let f = listed_at c.args.points.now in
    let vs = take (length c.args.list.now - 1) (drop 1 c.args.list.now) in
    let here = c.get-in-loop-v.ensures ∙ ap f c.from-in-loop-v.ensures ∙ sym (get_or-map f 0 [] vs l.v-index c.loop-v-test.true) in
    let more : l.v-index < length (map f vs) = omega (arith, length-map vs f, c.loop-v-test.true) in
    let full = c.if-k-points.false in
    let n = length_basis c.args.points.now.dimension l.hull ∙ sym l.invariant.0 in
    let g = next c.get-in-loop-v.result.now more here (λ e. full (sym n ∙ e)) (rw (wide (goal.at.loop-v-preserved c).After-get-in-loop-v) at c.add-joined.ensures.hull) l.invariant.2 in
    let m : (c.match-joined.k ≡ c.add-joined.result.0.count) × (c.match-joined.k ≤ c.args.points.now.dimension) =
    elim c.match-joined.branch [
      | in-Some w ↦ let q = rw w.in-Some.is at c.add-joined.ensures.counted in
          (omega (arith, w.k-is, q, l.invariant.0), omega (arith, w.k-is, full, l.invariant.1))
      | in-None w ↦ let q = rw w.in-None.is at c.add-joined.ensures.counted in
          (omega (arith, w.k-is, q, l.invariant.0), omega (arith, w.k-is, l.invariant.1))
    ] in
    (m.0, m.1, g)

pub returns : goal.returns
returns c =
    let a = c.args in
    let l = c.loop-v in
    let d = a.points.now.dimension in
    let f = listed_at a.points.now in
    let vs = take (length a.list.now - 1) (drop 1 a.list.now) in
    let all : hull_in d l.hull ≡ add_all d (hull_in d c.empty-hull.result) (map f vs) = elim c.loop-v-test.branch [
      | else-loop-v-test w ↦ end (omega (arith, length-map vs f, w.loop-v-test.false)) l.invariant.2
      | then-loop-v-test+then-k-points w ↦ stop (length_basis d l.hull ∙ sym l.invariant.0 ∙ w.if-k-points.true) l.invariant.2
    ] in
    let one = (rw (wide-first (goal.at.returns c).After-get) at c.empty-hull.ensures.hull) ∙ ap {B = Hull} (λ (p : Vector). record { offset = p; basis = [] }) (c.get.ensures ∙ ap f c.from.ensures) in
    c.distance.ensures ∙ ap (distance d) (all ∙ ap (λ h. add_all d h (map f vs)) one ∙ whole d f a.list.now c.requires.0)
