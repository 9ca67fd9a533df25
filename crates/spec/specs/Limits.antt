-- The numbers of section 2, "Limits", stand here once for the definitions, and in src/lib.rt once for the programs.
-- Assumes nothing.
use Rattle.std.specs.Prelude.{ℕ, ◌+◌, ◌-◌, ◌*◌, Float}
use Rattle.std.specs.Float.{binary64}
use Rattle.std.specs.Float.Ieee.{of_bits}

-- This is the greatest rank R of a sheet: "R 0 to 5".
abbrev pub max_rank : ℕ
max_rank = 5

-- This is the greatest dimension D: "D 0 to 4", and in copying "D 1 to 4".
abbrev pub max_dimension : ℕ
max_dimension = 4

-- This is the greatest count of a proper rank, "counts 1 to 2,048", which is also the greatest number of copies: 13 comes at "copies over 2,048".
abbrev pub max_count : ℕ
max_count = 2048

-- This is the greatest number of list entries: "at most 8,192 list entries a rank".
abbrev pub max_entries : ℕ
max_entries = 8192

-- This many ranks have a start: those from 0 to the greatest R, and the one above, at which the top rank ends.
abbrev pub max_starts : ℕ
max_starts = max_rank + 2

-- A solid can have this many proper elements, which are those of ranks 1 to R - 1.
abbrev pub max_proper : ℕ
max_proper = (max_rank - 1) * max_count

-- A solid can have this many elements: its proper ones, the least and the top.
abbrev pub max_elements : ℕ
max_elements = max_proper + 2

-- A solid can have this many stored list entries, which are those of ranks 2 to R - 1.
abbrev pub max_stored : ℕ
max_stored = (max_rank - 2) * max_entries

-- This is the greatest magnitude: "coordinate magnitude at most 1,048,576", which is 2 ^ 20.
unfoldable pub max_magnitude : Float
max_magnitude = of_bits binary64 0x4130_0000_0000_0000
