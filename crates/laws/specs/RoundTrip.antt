-- What is proved of packing and reading.
-- Assumes nothing.
use Rattle.std.specs.Prelude.{◌≡◌, ℕ, List, Ok}
use Rattle.spec.specs.Sheet.{Parsed, read_sheet}
use Rattle.spec.specs.Pack.{pack, Bytes, Allowed}

pub record RoundTrip : Type 0 where
  -- The bytes of what was read are those that were read.
  pub packs : (b : List ℕ) (p : Parsed) → Bytes b → read_sheet b ≡ Ok p → pack p ≡ b
  -- Packing an accepted solid and reading it gives it back.
  pub again : (b : List ℕ) (p : Parsed) → Bytes b → read_sheet b ≡ Ok p → read_sheet (pack p) ≡ Ok p
  -- Two accepted sheets with the same reading are the same bytes.
  pub once : (a b : List ℕ) (p : Parsed) → Bytes a → Bytes b → read_sheet a ≡ Ok p → read_sheet b ≡ Ok p → a ≡ b

-- Whatever may be packed is read back from its bytes.
abbrev pub PackedAllowed : Type 0
PackedAllowed = (p : Parsed) → Allowed p → (read_sheet (pack p) ≡ Ok p) × Bytes (pack p)

-- Nothing else is ever read.
abbrev pub ReadAllowed : Type 0
ReadAllowed = (b : List ℕ) (p : Parsed) → read_sheet b ≡ Ok p → Allowed p
