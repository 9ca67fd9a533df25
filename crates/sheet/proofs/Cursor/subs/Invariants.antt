-- Each turn reads one sub, and what is left, with the least number that may come next, gives what the whole gives.
-- Assumes nothing.
use mathlib.Core.Path.{◌≡◌}
use Prim.Native.Nat.{◌+◌, ◌-◌, ◌*◌}
use Rattle.spec.specs.Sheet.{sub_list}
use Rattle.sheet.specs.Reading.{kept, forgotten}
use Rattle.sheet.proofs.Cursor.subs.Given as goal

abbrev pub invariant-loop : goal.invariant-loop
invariant-loop l = record {
  sheet : l.self.sheet.now ≡ l.initial.self.sheet.now;
  at : l.self.at ≡ l.initial.self.at + 11 * l.counter;
  left : kept forgotten (sub_list l.initial.self.sheet.now l.below (l.n - l.counter) l.low) l.self.at
      ≡ kept forgotten (sub_list l.initial.self.sheet.now l.below l.n 0) l.initial.self.at;
}
