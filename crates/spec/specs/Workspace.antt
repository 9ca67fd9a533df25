-- This file says what document 01 leaves free, and what holds of it all the same.
-- Assumes nothing.
use Rattle.std.specs.Prelude.{◌≡◌, ℕ, List, length, Float}

-- What is lent is as long after a call as it was before.
abbrev pub SameLength : {A : Type 0} → List A → List A → Type 0
SameLength old new = length new ≡ length old

-- "Workspace afterwards is free": a call may leave anything in the words and floats that it was lent, but both are as long as they were.
pub record Free (old_words new_words : List ℕ) (old_floats new_floats : List Float) : Type 0 where
  pub words : SameLength old_words new_words
  pub floats : SameLength old_floats new_floats
