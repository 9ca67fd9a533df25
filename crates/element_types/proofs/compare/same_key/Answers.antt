use Rattle.std.proofs.Common.{◌∙◌}
use Rattle.element_types.proofs.Compared.{eq_list_is}
use Rattle.element_types.proofs.compare.same_key.Goals as goal

pub returns : goal.returns
returns c = c.eq.ensures ∙ rw (c.key.ensures, c.key-2.ensures) (eq_list_is _ _)
