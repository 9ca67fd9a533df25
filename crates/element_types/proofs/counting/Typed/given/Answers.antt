use Rattle.element_types.proofs.Given.{given_is}
use Rattle.element_types.proofs.counting.Typed.given.Goals as goal

pub returns : goal.returns
returns c = given_is _ _ c.args.self.now.countable _ _ c.proper-n.ensures c.types-from.ensures
