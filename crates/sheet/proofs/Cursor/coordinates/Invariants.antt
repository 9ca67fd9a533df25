-- Each turn reads one coordinate, and what is left gives what the whole gives.
-- Assumes nothing.
use mathlib.Core.Path.{◌≡◌}
use Prim.Native.Nat.{◌+◌, ◌-◌, ◌*◌}
use Rattle.spec.specs.Sheet.{times, coordinate}
use Rattle.sheet.specs.Reading.{kept, forgotten}
use Rattle.sheet.proofs.Cursor.coordinates.Given as goal

abbrev pub invariant-loop : goal.invariant-loop
invariant-loop l = record {
  sheet : l.self.sheet.now ≡ l.initial.self.sheet.now;
  at : l.self.at ≡ l.initial.self.at + 64 * l.counter;
  left : kept forgotten (times (l.n - l.counter) (coordinate l.initial.self.sheet.now)) l.self.at
      ≡ kept forgotten (times l.n (coordinate l.initial.self.sheet.now)) l.initial.self.at;
}
