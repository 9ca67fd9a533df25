-- The element at r becomes the other one between its neighbours, where one is found, and no other cell changes.
-- Assumes nothing.
use native.Mathlib.Numerals.{add-one}
use lib.ListN.{get_or}
use mathlib.Core.Path.{ap, ◌∙◌}
use Rattle.std.specs.Prelude.{unwrap_or}
use Rattle.flag.proofs.Flags.{other-found, changed}
use Rattle.flag.proofs.Flag.change.Goals as goal

pub returns : goal.returns
returns c =
    let a = c.args in let s = a.solid.now in
    changed s.shape s.lists.now a.self.elements a.r c.requires.r_nonzero.0 c.requires.r_nonzero.1 _
    (c.unwrap_or.ensures ∙ ap (λ o. unwrap_or o (get_or a.self.elements a.r 0)) (rw add-one at c.other_between.ensures) ∙ other-found _ _)
