-- Each turn reads the lists of one rank, and what is left gives what the whole gives. A rank has at most 2,048 lists and 8,192 entries, of 12 and 11
-- bits, so the position stays small.
-- Assumes nothing.
use mathlib.Core.Path.{◌≡◌}
use Prim.Native.Nat.{◌+◌, ◌-◌, ◌*◌, ◌≤◌}
use lib.ListN.{drop}
use Rattle.spec.specs.Limits.{max_count, max_entries}
use Rattle.spec.specs.Sheet as form
use Rattle.sheet.specs.Judge.{all_entries}
use Rattle.sheet.specs.Reading.{kept}
use Rattle.sheet.proofs.Turns.{more}
use Rattle.sheet.proofs.Cursor.lists.Given as goal

abbrev pub invariant-loop-k : goal.invariant-loop-k
invariant-loop-k l = record {
  sheet : l.self.sheet.now ≡ l.initial.self.sheet.now;
  at : l.self.at ≤ l.initial.self.at + (12 * max_count + 11 * max_entries) * l.k;
  few : l.entries ≤ max_entries * l.k;
  left : kept (more l.entries all_entries) (form.lists l.initial.self.sheet.now (drop (l.k - 1) l.counts)) l.self.at
      ≡ kept all_entries (form.lists l.initial.self.sheet.now l.counts) l.initial.self.at;
}
