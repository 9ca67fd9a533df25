-- A text grows in its lent buffer.
-- Assumes nothing.
use Rattle.std.specs.Prelude.{◌≡◌, List, ℕ, ◌+◌, ◌≤◌, length}
use Rattle.text.specs.declared.writing.Text.{Text}
use Rattle.text.specs.Puts.{Puts}

-- There is room for the bytes l behind the text.
abbrev pub HasRoom : Text → List ℕ → Type 0
HasRoom s l = s.end + length l ≤ length s.out.now

-- The bytes l were put behind the text `before`, which made it `after`, in the same buffer.
pub record Grown (before : Text) (l : List ℕ) (after : Text) : Type 0 where
  pub buffer : after.out.ghost_name ≡ before.out.ghost_name
  pub puts : Puts before.end l before.out.now after.out.now after.end
