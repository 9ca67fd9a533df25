-- This file has the number of places of the table of confirmed rows, which stands once more in src/products.rt for the program. It decides how often a
-- factor is found, and nothing else.
-- Assumes nothing.
use Rattle.std.specs.Prelude.{ℕ}

-- The table has this many places.
abbrev pub table_places : ℕ
table_places = 16384
