-- Where facet 0 was searched from, or R = 2, there is nothing to do; else the facets go back, and the classes and the fingerprints are worked out.
-- Assumes nothing.
use Rattle.preflight.specs.Bench.{Bench}
use Rattle.geometry.proofs.elements.Room.{roomy-floats}
use Rattle.search.proofs.Benched.{exchanged-none, exchanged-vertices, fingerprints_in, back_bench, restored}
use Rattle.search.proofs.marking.restore.Goals.{After-exchange}
use Rattle.search.proofs.marking.restore.Goals.{then-f-eq0-via-then-f-eq0, then-f-eq0-via-else-f-eq0+then-sh-eq2}
use Rattle.search.proofs.marking.restore.Goals as goal

-- After the exchange the solid as read lies in the workspace.
back : (c : After-exchange) → Bench c.args.sh c.exchange.new.words c.args.floats.now
back c = back_bench c.requires.marks_ready _ c.requires.le_rank _ c.exchange.ensures.words_after c.exchange.ensures.laid_after

pub returns-then-f-eq0 : goal.returns-then-f-eq0
returns-then-f-eq0 c =
    record {
      ready_after = c.requires.marks_ready;
      floats_after = elim c.then-f-eq0.branch [
        | then-f-eq0-via-then-f-eq0 w ↦ exchanged-none _ _ w.if-f-eq0.true
        | then-f-eq0-via-else-f-eq0+then-sh-eq2 w ↦ exchanged-vertices c.requires.marks_ready.bench _ c.requires.le_rank w.if-sh-eq2.true
      ];
    }

pub solid-requires-clause-held : goal.solid-requires-clause-held
solid-requires-clause-held c = (back (goal.at.solid-requires-clause-held c).After-exchange).held

pub all_classes-requires : goal.all_classes-requires
all_classes-requires c =
    let b = back (goal.at.all_classes-requires c).After-exchange in
    rw c.solid.ensures.shape (roomy-floats _ _ b.held _ b.floats)

pub write_fingerprints-requires : goal.write_fingerprints-requires
write_fingerprints-requires c = let b = back (goal.at.write_fingerprints-requires c).After-exchange in record {
  held = b.held;
  rank_in_bounds = fingerprints_in b;
}

pub returns : goal.returns
returns c = let both = restored c.requires.marks_ready _ c.requires.le_rank _ c.exchange.ensures.words_after c.exchange.ensures.laid_after _ _ (rw (c.solid.ensures.shape, c.solid.ensures.lists) at c.all_classes.ensures) _ c.write_fingerprints.auto.words c.write_fingerprints.ensures.words_unchanged c.write_fingerprints.ensures.fingerprinted in
    record {
      ready_after = both.0;
      floats_after = both.1;
    }
