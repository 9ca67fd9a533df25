-- This file says what the pass over a sheet keeps of each reading of section 2: the bit where it ends, the counts, and the number of list entries.
-- Assumes nothing.
use Rattle.std.specs.Prelude.{◌≡◌, ℕ, ◌-◌, List}
use Rattle.spec.specs.Lists.{sum}
use Rattle.spec.specs.Judged.{Judged}
use Rattle.spec.specs.Sheet.{Parsed, Reader, ◌>>=◌, ◌>>◌, done, times, count, coordinate, lists, end, vertex_count}
use Rattle.sheet.specs.declared.CountsRead.{CountsRead}
use Rattle.sheet.specs.declared.Cursor.{Cursor}
use Rattle.sheet.specs.Judge.{padded, map_ok}

-- Gives the reading of a judged value that ends at the bit j.
abbrev pub ends_at : {A : Type 0} → ℕ → Judged A → Judged (A × ℕ)
ends_at j o = map_ok (λ x. (x, j)) o

-- Reads as m does, and keeps f of the value.
abbrev pub with_bit : {A B : Type 0} → (A → B) → A × ℕ → B × ℕ
with_bit f x = (f x.0, x.1)

abbrev pub kept : {A B : Type 0} → (A → B) → Reader A → Reader B
kept f m i = map_ok (with_bit f) (m i)

-- Nothing of the value is kept.
abbrev pub forgotten : {A : Type 0} → A → Unit {0}
forgotten x = tt

-- Of the counts, they and their sum are kept.
abbrev pub counts_read : List ℕ → CountsRead
counts_read l = record { counts = padded l; elements = sum l }

-- The judged value is what m reads from where the cursor stood, and the cursor stands after it now, in the same sheet. Where m refuses, the cursor may
-- stand anywhere.
pub record CursorReads {A : Type 0} (m : Reader A) (before after : Cursor) (o : Judged A) : Type 0 where
  pub value : ends_at after.at o ≡ m before.at
  pub sheet : after.sheet.now ≡ before.sheet.now

-- ---- parts of the sheet's own reader

module _ (b : List ℕ) where
  -- Reads the coordinates, the lists and the end, without the coordinates' values.
  unfoldable pub body_at : ℕ → ℕ → List ℕ → Reader (List (List (List ℕ)))
  body_at n D counts = do
    times n (times D (coordinate b))
    ls ← lists b counts
    end b
    done ls

  -- Reads all that comes after R and D.
  unfoldable pub rest_at : ℕ → ℕ → Reader Parsed
  rest_at R D = do
    counts ← times (R - 1) (count b)
    points ← times (vertex_count R counts) (times D (coordinate b))
    ls ← lists b counts
    end b
    done (record { rank = R; dimension = D; counts = counts; points = points; lists = ls })
