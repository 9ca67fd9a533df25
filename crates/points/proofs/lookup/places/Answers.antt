use Rattle.points.proofs.Parts.{length-parts}
use Rattle.points.proofs.Lone.{guesses_none}
use Rattle.points.proofs.lookup.places.Goals as goal

pub returns-then-not-is_lone : goal.returns-then-not-is_lone
returns-then-not-is_lone c = guesses_none _ (let p = c.args.points.now in rw (length-parts p.count p.dimension p.floats.now) c.requires)
