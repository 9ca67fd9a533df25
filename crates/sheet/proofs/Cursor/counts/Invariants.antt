-- Each turn reads one count into the array and adds it to the sum, and what is left gives what the whole gives.
-- Assumes nothing.
use mathlib.Core.Path.{◌≡◌}
use Prim.Native.Nat.{◌+◌, ◌-◌, ◌*◌, ◌≤◌}
use lib.ListN.{length}
use Rattle.spec.specs.Limits.{max_count}
use Rattle.spec.specs.Sheet.{times, count}
use Rattle.sheet.specs.Reading.{kept, counts_read}
use Rattle.sheet.proofs.Turns.{counts_from, among}
use Rattle.sheet.proofs.Cursor.counts.Given as goal

abbrev pub invariant-loop-cell : goal.invariant-loop-cell
invariant-loop-cell l = record {
  sheet : l.self.sheet.now ≡ l.initial.self.sheet.now;
  at : l.self.at ≡ l.initial.self.at + 12 * l.cell-index;
  sum : l.elements ≤ max_count * l.cell-index;
  array : length l.cell-items ≡ l.n;
  left : kept (counts_from (among l.n l.cell-items) l.elements l.cell-index) (times (l.n - l.cell-index) (count l.initial.self.sheet.now)) l.self.at
      ≡ kept counts_read (times l.n (count l.initial.self.sheet.now)) l.initial.self.at;
}
