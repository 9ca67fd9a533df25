-- The elements of a rank are numbered by their keys.
-- Assumes nothing.
use Rattle.std.specs.Prelude.{◌≡◌, List, map, ℕ, zero, suc, ◌+◌, ◌^◌, ◌≤◌, ◌<◌, length, get_or}
use Rattle.spec.specs.Lists.{In, range, renumber, eq_list}
use Rattle.ranked.specs.Words.{list_at, list_word}
use Rattle.ranked.specs.Reading.{Lies}
use Rattle.element_types.specs.Runs.{key_of}

-- Gives the key of element e. Its type is entry e of `own`, the list of its neighbours is at word list_word base e of the lists l, and `next` has their
-- types.
unfoldable pub key_in : List ℕ → ℕ → List ℕ → List ℕ → ℕ → List ℕ
key_in l base own next e = key_of next (get_or own e 0) (list_at l (list_word base e))

-- Gives the numbers of the elements, by first appearance of their keys.
unfoldable pub numbers_of : List ℕ → ℕ → List ℕ → List ℕ → List ℕ
numbers_of l base own next = renumber eq_list (map (key_in l base own next) (range 0 (length own)))

-- Counts the words that the keys of the elements below e take at most.
unfoldable pub space_to : List ℕ → ℕ → ℕ → ℕ
space_to l base zero = 0
space_to l base (suc e) = space_to l base e + (2 + length (list_at l (list_word base e)))

-- Each element has a list of neighbours, and each of these a type. A word can hold the number of any element, and of any word of their keys.
pub record Neighbouring (l : List ℕ) (base : ℕ) (own next : List ℕ) : Type 0 where
  pub lie : (e : ℕ) → e < length own → Lies l (list_word base e)
  pub members : (e y : ℕ) → e < length own → In y (list_at l (list_word base e)) → y < length next
  pub small : length own + space_to l base (length own) < 2 ^ 32

-- There is room for a number of each element, and for all keys and their places.
pub record Numberable (l : List ℕ) (base : ℕ) (own next numbers places keys : List ℕ) : Type 0 where
  pub neighbours : Neighbouring l base own next
  pub numbered : length numbers ≡ length own
  pub placed : length own ≤ length places
  pub room : space_to l base (length own) ≤ length keys
