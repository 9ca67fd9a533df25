-- A row is confirmed by a product, or element by element.
-- Assumes nothing.
use Rattle.marks.proofs.products.Factored.{factored_one}
use Rattle.marks.proofs.Markable.mark_next.Goals as goal

pub returns-then-is_known : goal.returns-then-is_known
returns-then-is_known c = factored_one c.args.self.now _ _ _ c.requires.done (c.is_known.ensures c.if-is_known.true)
