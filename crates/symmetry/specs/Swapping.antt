-- Words, and the lists of subs that they describe, change places.
-- Assumes nothing.
use Rattle.std.specs.Prelude.{ℕ, ◌+◌, List, get_or, set}

-- Gives the words in which words i and j have changed places.
unfoldable pub swapped : List ℕ → ℕ → ℕ → List ℕ
swapped w i j = set (set w i (get_or w j 0)) j (get_or w i 0)

-- Gives the words in which the lists at words i and j, each a start and a length, have changed places.
unfoldable pub swapped_lists : List ℕ → ℕ → ℕ → List ℕ
swapped_lists w i j = swapped (swapped w i j) (i + 1) (j + 1)
