-- These are statements about what the program `kit` prints, for every input of a kind.
-- Assumes nothing.
use Rattle.std.specs.Prelude.{◌≡◌, ℕ, ◌<◌, List, length, Ok}
use Rattle.spec.specs.Sheet.{Parsed, read_sheet}
use Rattle.spec.specs.Ascii.{ascii}
use Rattle.spec.specs.KitText.{longest, kit_text}

pub record KitLaws : Type 0 where
  -- Any "input past 8,192 bytes is refused 1", whatever it holds.
  pub long : (b : List ℕ) → longest < length b → kit_text b ≡ ascii "refused 1\n"
  -- A solid without proper ranks has no types, and a search refuses it with 8.
  pub low : (b : List ℕ) (p : Parsed) → read_sheet b ≡ Ok p → p.rank < 2 → kit_text b ≡ ascii "types 0\nrefused 8\n"
