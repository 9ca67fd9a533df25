-- The list at the element's word is that of its sups.
-- Assumes nothing.
use Rattle.std.proofs.Common.{ℕ, ◌∙◌, ap, arith}
use Rattle.std.proofs.lemmas.Grind.{common_steps}
use Rattle.ranked.specs.Words.{list_at, first_at, sups_word}
use Rattle.ranked.proofs.Solids.{sups-listed}
use Rattle.ranked.proofs.solid.Solid.sups.Goals as goal

pub returns : goal.returns
returns c =
    let a = c.args in let s = a.self.now in
    c.entries_at.ensures ∙ ap (λ (i : ℕ). list_at s.lists.now i) {y = sups_word (first_at s.shape a.r) a.e} (grind (arith, common_steps))
    ∙ sups-listed s.shape s.lists.now s.held a.r a.e c.requires.0 c.requires.1
