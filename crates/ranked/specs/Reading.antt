-- This file says what a reader needs of the lists in the words.
-- Assumes nothing.
use Rattle.std.specs.Prelude.{ℕ, ◌+◌, ◌<◌, List, length}
use Rattle.ranked.specs.Words.{Inside}

-- The two words that say where the list at word i is lie within the words, and so does the list.
pub record Lies (w : List ℕ) (i : ℕ) : Type 0 where
  pub head : i + 1 < length w
  pub inside : Inside w i
