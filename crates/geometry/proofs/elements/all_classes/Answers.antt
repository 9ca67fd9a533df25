use mathlib.Core.Path.{◌≡◌, ◌∙◌}
use borrow.Author.Rules.{rules}
use native.Mathlib.Omega.{arith}
use Prim.Native.Nat.{◌≤◌}
use lib.ListN.{length, length-take, length-drop}
use Rattle.ranked.specs.Layout.{proper, coordinates}
use Rattle.geometry.proofs.elements.Ranks.{first_round, rank_in, next_round, last_round}
use Rattle.geometry.proofs.elements.all_classes.Goals.{After-split_at_mut-listed, After-size}
use Rattle.geometry.proofs.elements.all_classes.Goals as goal

-- The parts are as long as the shape says.
module _ (c : After-split_at_mut-listed) where
  wide : length c.split_at_mut-coordinates.result.0.now ≡ coordinates c.args.solid.now.shape
  wide = c.split_at_mut-coordinates.ensures.front_len ∙ c.coordinates.ensures

  many : length c.split_at_mut-listed.result.0.now ≡ proper c.args.solid.now.shape
  many = c.split_at_mut-listed.ensures.front_len ∙ c.proper.ensures

  room : proper c.args.solid.now.shape ≤ length c.split_at_mut-listed.result.1.now
  room = omega (arith, wide, many, c.split_at_mut-coordinates.ensures.back_len, c.split_at_mut-listed.ensures.back_len, c.coordinates.ensures, c.proper.ensures, c.requires)

pub loop-r-init : goal.loop-r-init
loop-r-init c = first_round c.args.solid.now _ _ _

pub loop-r-preserved : goal.loop-r-preserved
loop-r-preserved c =
    let a = (goal.at.loop-r-preserved c).After-split_at_mut-listed in
    let k = rank_in c.args.solid.now _ c.loop-r.invariant c.loop-r-test.true _ _ c.proper_number-first.ensures c.size.ensures in
    next_round c.args.solid.now _ c.loop-r.invariant c.loop-r-test.true _ _ c.proper_number-first.ensures c.size.ensures c.classes_of_rank-n.ensures
    (c.classes_of_rank-n.auto.cells ∙ simp (length-take, length-drop) (omega (arith, k, room a, c.loop-r.auto.cells))) (omega (arith, k, room a, c.loop-r.auto.cells))

pub returns : goal.returns
returns c =
    let a = (goal.at.returns c).After-split_at_mut-listed in
    let s = c.split_at_mut-coordinates.ensures in
    last_round c.args.solid.now _ c.loop-r.invariant c.loop-r-test.false {old = c.args.floats.now} (rw c.coordinates.ensures at s.front) (wide a) (c.loop-r.auto.listed ∙ many a) (search rules) (search rules)
