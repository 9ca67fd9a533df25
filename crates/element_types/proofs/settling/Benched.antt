-- What preflight leaves is room for the start and the sweeps, and the three parts go together.
-- Assumes nothing.
use Rattle.std.specs.Prelude.{Result}
use mathlib.Core.Path.{◌≡◌, ◌∙◌, ap}
use mathlib.Core.List.{List}
use Prim.Native.Nat.{ℕ, ◌-◌, ◌≤◌}
use native.Mathlib.Omega.{arith}
use lib.ListN.{length, take, drop, length-drop}
use lib.Seq.{take_all}
use lib.Ieee.{Float}
use Rattle.spec.specs.declared.Refusal.{Refusal}
use Rattle.spec.specs.Types.{start}
use Rattle.spec.specs.Classes.{class_table, by_table, types_of}
use Rattle.ranked.specs.declared.Shape.{Shape}
use Rattle.ranked.specs.Words.{lists_of, abs_in, Held}
use Rattle.ranked.specs.Layout.{classes_at, scratch_at, solid_in}
use Rattle.preflight.specs.Bench.{Bench}
use Rattle.preflight.proofs.Benches.{rows_in}
use Rattle.geometry.specs.Listed.{Classed}
use Rattle.geometry.proofs.elements.Room.{roomy-floats}
use Rattle.element_types.specs.State.{state_in, Sweepable}
use Rattle.element_types.proofs.Room.{sweepable}
use Rattle.element_types.proofs.Sweeps.{sweepable_kept}
use Rattle.element_types.specs.Start.{Startable, Begins}
use Rattle.element_types.specs.Settle.{Settles}
use Rattle.element_types.specs.Typed.{AtStart, TypesMade}

-- The floats from the classes on reach to the end of the floats.
pub rest_is : (gs : List Float) (cell k : ℕ) → cell ≡ k → take (length gs - cell) (drop cell gs) ≡ drop k gs
rest_is gs cell k e = take_all (length gs - cell) (drop cell gs) (omega (arith, length-drop cell gs)) ∙ ap (λ (i : ℕ). drop i gs) e

-- ---- the workspace

module _ (sh : Shape) (w : List ℕ) (fs : List Float) (b : Bench sh w fs) where
  abbrev h : Held sh (lists_of sh w)
  h = b.held

  can_sweep : Sweepable sh w
  can_sweep = sweepable sh w h b.low_is b.words

  types-room : scratch_at sh ≤ length w
  types-room = omega (arith, rows_in b)

  pub cells_in_lem : (gs : List Float) (n : ℕ) → Classed sh (lists_of sh w) fs gs n → classes_at sh ≤ length gs
  cells_in_lem gs n c = omega (arith, roomy-floats sh (lists_of sh w) h (length fs) b.floats, c.long)

  module _ (gs : List Float) (n : ℕ) (c : Classed sh (lists_of sh w) fs gs n) (cells : List Float) (d : cells ≡ drop (classes_at sh) gs) where
    pub startable : Startable sh w cells
    startable = record {
      sweepable = can_sweep;
      room = types-room;
      inside = rw (d, length-drop) (omega (arith, roomy-floats sh (lists_of sh w) h (length fs) b.floats, c.long));
    }

    module _ (v : List ℕ) (long : length v ≡ length w) (begins : Begins sh w v cells) where
      begun : state_in sh v ≡ start (abs_in sh (lists_of sh w)) (by_table (class_table (solid_in sh w fs)))
      begun = begins.state fs (rw d c.cells)

      pub at-start : AtStart sh w v fs gs
      at-start = record {
        lists = begins.lists;
        points = c.same;
        lengths = (long, c.long);
        cells = c.cells;
        state = begun;
        started = record {
          sweepable = sweepable_kept sh w v long begins.lists can_sweep;
          room = omega (arith, types-room);
          classes = by_table (class_table (solid_in sh w fs));
          state = rw begins.lists begun;
        };
      }

-- The sweeps go on from the start, and give the types.
pub typed : (sh : Shape) (w v u : List ℕ) (fs gs : List Float) (ending : Result (Unit {0}) Refusal) → AtStart sh w v fs gs → length u ≡ length v → Settles sh v u ending
    → TypesMade sh w u fs gs ending
unfolding types_of
typed sh w v u fs gs ending b k s = record {
  lists = s.lists ∙ b.lists;
  points = b.points;
  lengths = (k ∙ b.lengths.0, b.lengths.1);
  cells = b.cells;
  ends = rw b.lists at (s.ends (by_table (class_table (solid_in sh w fs))) (rw b.lists b.state));
  numbered = s.numbered;
}
