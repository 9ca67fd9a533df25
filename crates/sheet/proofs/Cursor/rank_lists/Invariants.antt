-- Each turn reads one list, and what is left, after the entries used so far, gives what the whole gives.
-- Assumes nothing.
use mathlib.Core.Path.{◌≡◌}
use Prim.Native.Nat.{◌+◌, ◌-◌, ◌*◌, ◌≤◌}
use Rattle.spec.specs.Limits.{max_entries}
use Rattle.spec.specs.Sheet.{lists_at}
use Rattle.sheet.specs.Judge.{rank_entries}
use Rattle.sheet.specs.Reading.{kept}
use Rattle.sheet.proofs.Turns.{more}
use Rattle.sheet.proofs.Cursor.rank_lists.Given as goal

abbrev pub invariant-loop : goal.invariant-loop
invariant-loop l = record {
  sheet : l.self.sheet.now ≡ l.initial.self.sheet.now;
  few : l.used ≤ max_entries;
  at : l.self.at ≡ l.initial.self.at + 12 * l.counter + 11 * l.used;
  left : kept (more l.used rank_entries) (lists_at l.initial.self.sheet.now l.below (l.n - l.counter) l.used) l.self.at
      ≡ kept rank_entries (lists_at l.initial.self.sheet.now l.below l.n 0) l.initial.self.at;
}
