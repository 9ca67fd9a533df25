-- This file has the text of the members' line from its numbers alone, and says how the rotations that it tells are counted.
-- Assumes nothing.
use Rattle.std.specs.Prelude.{true, false, List, [], ◌∷◌, ◌++◌, ℕ, suc}
use Rattle.std.specs.Float.Ieee.{lt}
use Rattle.spec.specs.Ascii.{ascii}
use Rattle.spec.specs.Float.{zero_f}
use Rattle.spec.specs.Matrix.{Matrix, determinant}
use Rattle.spec.specs.KitText.{decimal}

-- Gives the line of n members, of which c are confirmed and k are rotations.
unfoldable pub members_text : ℕ → ℕ → ℕ → List ℕ
members_text n c k =
    ascii "members " ++ decimal n ++ ascii " confirmed " ++ decimal c ++ ascii " rotations " ++ decimal k ++ ascii "\n"

-- Counts the matrices that are "of determinant above 0".
unfoldable pub rotation_count : List Matrix → ℕ
rotation_count [] = 0
rotation_count (m ∷ ms) = elim (lt zero_f (determinant m)) [ true ↦ suc (rotation_count ms) | false ↦ rotation_count ms ]
