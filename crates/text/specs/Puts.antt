-- A text grows in a lent buffer.
-- Assumes nothing.
use Rattle.std.specs.Prelude.{◌≡◌, List, ◌++◌, ℕ, ◌+◌, ◌≤◌, length, take, drop}

-- The bytes l were put into the buffer `old` from place `from` on, which made it `new`. The bytes before and behind them are as they were, and `end`
-- is where they end.
pub record Puts (from : ℕ) (l old new : List ℕ) (end : ℕ) : Type 0 where
  pub room : from + length l ≤ length old
  pub bytes : new ≡ take from old ++ l ++ drop (from + length l) old
  pub stop : end ≡ from + length l
