use native.Mathlib.Omega.{arith}
use Rattle.ranked.proofs.Solids.{top_is}
use Rattle.flag.proofs.Flags.{flag_in_lem}
use Rattle.symmetry.proofs.candidates.Rounds.{turn_first, turn_next, turn_end}
use Rattle.symmetry.proofs.candidates.Thin.turned.Goals as goal

pub loop-r-init : goal.loop-r-init
loop-r-init c = let s = c.args.self.now.realized.solid in turn_first _ _ c.requires (omega (arith, c.args.self.now.tall, top_is s.shape s.lists.now))

pub change-f-requires : goal.change-f-requires
change-f-requires c =
    let l = c.loop-r in let s = c.args.self.now.realized.solid in
    let inside = flag_in_lem s.shape s.lists.now s.held l.f.elements l.invariant.flag in record {
      r_nonzero = (omega (arith, l.invariant.low), omega (arith, l.invariant.low, c.loop-r-test.true, c.rank-r-end.ensures));
      above_in_bounds = inside _ (omega (arith, l.invariant.low, c.loop-r-test.true, c.rank-r-end.ensures));
      below_in_bounds = inside _ (omega (arith, c.loop-r-test.true, c.rank-r-end.ensures));
    }

pub loop-r-preserved : goal.loop-r-preserved
loop-r-preserved c =
    let l = c.loop-r in let s = c.args.self.now.realized.solid in
    turn_next _ _ _ l.r l.invariant s.held.sound c.args.self.now.diamonds (omega (arith, c.loop-r-test.true, c.rank-r-end.ensures, top_is s.shape s.lists.now)) _ c.change-f.ensures

pub returns : goal.returns
returns c =
    let l = c.loop-r in let s = c.args.self.now.realized.solid in
    turn_end _ _ _ l.r l.invariant (omega (arith, c.loop-r-test.false, c.rank-r-end.ensures, top_is s.shape s.lists.now))
