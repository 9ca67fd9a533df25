-- A row is confirmed if every clause holds, and the first that fails makes the mark 0.
-- Assumes nothing.
use mathlib.Core.Path.{◌≡◌, sym, ◌∙◌}
use mathlib.Core.Bool.{true, false}
use lib.ListN.{length}
use Rattle.spec.specs.Types.{size}
use Rattle.ranked.specs.Lying.{abs_of}
use Rattle.ranked.proofs.Solids.{sizes_are}
use Rattle.marks.specs.Carrying.{classes_of}
use Rattle.marks.proofs.Confirmed.{no_sets, no_row, all_else}
use Rattle.marks.proofs.Markable.mark.Goals.{Start, then-not-self-via-then-not-self, then-not-self-via-else-not-self+then-not-is_permutation}
use Rattle.marks.proofs.Markable.mark.Goals as goal

-- The row has an entry for each vertex of the solid.
full : (s : Start) → length s.args.row.now ≡ size (abs_of s.args.self.now.solid) 1
full s = let m = s.args.self.now in s.requires.0 ∙ sym (sizes_are m.solid.shape m.solid.lists.now m.solid.held 1)

pub returns-then-not-self : goal.returns-then-not-self
returns-then-not-self c =
    let m = c.args.self.now in
    let f = full (goal.at.returns-then-not-self c).Start in
    elim c.then-not-self.branch [
      | then-not-self-via-then-not-self w ↦ no_sets _ (classes_of m) c.args.row.now f (sym m.apart_is ∙ w.if-not-self.true)
      | then-not-self-via-else-not-self+then-not-is_permutation w ↦
          no_row _ (classes_of m) c.args.row.now f (sym m.apart_is ∙ w.if-not-self.false) (sym w.is_permutation.ensures ∙ w.if-not-is_permutation.true)
    ]

pub returns-then-carry_all : goal.returns-then-carry_all
returns-then-carry_all c =
    let m = c.args.self.now in
    all_else _ (classes_of m) c.args.row.now (full (goal.at.returns-then-carry_all c).Start) (sym m.apart_is ∙ c.if-not-self.false) (sym c.is_permutation.ensures ∙ c.if-not-is_permutation.false) true c.if-carry_all.ensures

pub returns-else-carry_all : goal.returns-else-carry_all
returns-else-carry_all c =
    let m = c.args.self.now in
    all_else _ (classes_of m) c.args.row.now (full (goal.at.returns-else-carry_all c).Start) (sym m.apart_is ∙ c.if-not-self.false) (sym c.is_permutation.ensures ∙ c.if-not-is_permutation.false) false c.if-carry_all.ensures
