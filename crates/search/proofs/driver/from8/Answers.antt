-- The judgement behind refusal 8 and what follows it give the rest of the call.
-- Assumes nothing.
use Rattle.search.proofs.Steps.{not_full, is_full}
use Rattle.search.proofs.driver.from8.Goals as goal

pub returns-then-not-is_full : goal.returns-then-not-is_full
returns-then-not-is_full c = rw c.into.ensures (not_full c.args.sh _ c.is_full.ensures c.args.words.now c.args.floats.now _ _ c.if-not-is_full.true)

pub returns : goal.returns
returns c = is_full c.args.sh _ c.is_full.ensures c.args.words.now c.args.floats.now _ _ c.if-not-is_full.false _ c.from9.ensures
