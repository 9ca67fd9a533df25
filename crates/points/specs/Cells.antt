-- This file says what the cells of a table hold by an answer, where each cell is the number of an image, and x is the number of one that is not
-- found.
-- Assumes nothing.
use Rattle.std.specs.Prelude.{◌≡◌, Bool, true, false, List, ℕ, length, drop, eqb}
use Rattle.spec.specs.Lists.{holds, written}

-- The numbers `new` are a buffer's first cells, and none of them is x.
pub record AllFound (x : ℕ) (new before after : List ℕ) : Type 0 where
  pub none : holds eqb x new ≡ false
  pub is : after ≡ written new before

-- One of the numbers `new` is x. In the buffer, no cell has changed past the first ones, as many as these numbers are.
pub record SomeMissing (x : ℕ) (new before after : List ℕ) : Type 0 where
  pub some : holds eqb x new ≡ true
  pub past : drop (length new) after ≡ drop (length new) before

-- Says what a table holds by the answer, where `new` are its cells.
abbrev pub Tabled : (x : ℕ) (new before after : List ℕ) → Bool → Type 0
Tabled x new before after true = AllFound x new before after
Tabled x new before after false = SomeMissing x new before after
