use mathlib.Core.Path.{◌≡◌, ◌∙◌}
use native.Mathlib.Omega.{arith}
use Prim.Native.Nat.{◌≤◌}
use lib.ListN.{length, take}
use lib.Seq.{take-take}
use Rattle.ranked.specs.Words.{total, lists_of, Held}
use Rattle.ranked.specs.Layout.{scratch_at}
use Rattle.symmetry.proofs.vertex_sets.Rows.{ranks-next, ranks-end}
use Rattle.symmetry.proofs.vertex_sets.fingerprints.write_fingerprints.Goals.{After-split_at_mut-held}
use Rattle.symmetry.proofs.vertex_sets.fingerprints.write_fingerprints.Goals as goal

-- The words before the fingerprints hold the solid.
module _ (s : After-split_at_mut-held) where
  long : length s.split_at_mut-held.result.0.now ≡ scratch_at s.args.sh
  long = s.split_at_mut-held.ensures.front_len ∙ s.scratch.ensures

  room : total s.args.sh ≤ length s.split_at_mut-held.result.1.now
  room = omega (arith, s.split_at_mut-held.ensures.back_len, s.scratch.ensures, s.requires.rank_in_bounds)

  holds : Held s.args.sh (lists_of s.args.sh s.split_at_mut-held.result.0.now)
  holds =
      let front : s.split_at_mut-held.result.0.now ≡ take (scratch_at s.args.sh) s.args.words.now = rw s.scratch.ensures at s.split_at_mut-held.ensures.front in
      rw (front, take-take s.args.sh.low (scratch_at s.args.sh) s.args.words.now (omega arith)) s.requires.held

pub loop-r-preserved : goal.loop-r-preserved
loop-r-preserved c =
    let s = (goal.at.loop-r-preserved c).After-split_at_mut-held in
    rw c.start-first.ensures (ranks-next c.loop-r.invariant (holds s) c.loop-r-test.true (omega (arith, room s, c.loop-r.auto.prints)) _ _ (rw (c.solid.ensures.shape, c.solid.ensures.lists) at c.write_rank.ensures))

pub returns-clause-fingerprinted : goal.returns-clause-fingerprinted
returns-clause-fingerprinted c =
    let s = (goal.at.returns-clause-fingerprinted c).After-split_at_mut-held in
    ranks-end c.args.sh _ _ _ c.loop-r.invariant c.loop-r-test.false (holds s) (long s) (omega (arith, room s, c.loop-r.auto.prints))
