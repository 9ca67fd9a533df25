use borrow.Author.Rules.{rules}
use Rattle.spec.specs.Copying.{copies}
use Rattle.spec.specs.Lists.{parts}
use Rattle.copying.proofs.Extending.{full_back, fitting_back}
use Rattle.copying.proofs.joining.copies.Goals as goal

pub returns-in_err-copy_all : goal.returns-in_err-copy_all
unfolding copies parts
returns-in_err-copy_all c =
    let e = rw c.in_err-copy_all.was at c.copy_all.ensures in
    rw c.from_residual.ensures (full_back e.kept (search rules))

pub returns : goal.returns
unfolding copies parts
returns c =
    let e = rw c.in_ok-copy_all.was at c.copy_all.ensures in
    fitting_back e.kept (search rules)
