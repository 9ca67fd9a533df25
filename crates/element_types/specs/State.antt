-- Section 4's state, "a type number for each element", stands in lent words behind the solid's lists.
-- Assumes nothing.
use Rattle.std.specs.Prelude.{List, map, reverse, ℕ, suc, ◌+◌, ◌-◌, ◌*◌, ◌^◌, ◌≤◌, ◌<◌, length, take, drop}
use Rattle.spec.specs.Lists.{range, sum}
use Rattle.spec.specs.Types.{Solid, size, State, Step, up, down, at, neighbours, Numbered}
use Rattle.ranked.specs.declared.Shape.{Shape}
use Rattle.ranked.specs.Words.{size_at, lists_of, Held}
use Rattle.ranked.specs.Layout.{types_at, scratch_at, abstract_in}
use Rattle.element_types.specs.Runs.{over}
use Rattle.element_types.specs.Numbers.{numbers_of, space_to, Neighbouring}

-- Lists the types of the elements of rank r.
unfoldable pub types_in : Shape → List ℕ → ℕ → List ℕ
types_in sh w r = take (size_at sh r) (drop (types_at sh r) w)

-- Gives the state that the words hold: the types of each rank from 0 to R.
unfoldable pub state_in : Shape → List ℕ → State
state_in sh w = map (types_in sh w) (range 0 (suc sh.rank))

-- Counts the neighbours that the elements of a step's rank have, for each element.
unfoldable pub entries : Solid → Step → ℕ
entries s x = sum (map (λ e. length (neighbours s x e)) (range 0 (size s (at x))))

-- Counts the words that a step uses: the lists, the types, and for each element of its rank a number, a place, and a key of two words and the types
-- of its neighbours.
unfoldable pub needed : Shape → List ℕ → Step → ℕ
needed sh w x = scratch_at sh + 4 * size_at sh (at x) + entries (abstract_in sh w) x

-- A step at a proper rank needs this of the words.
pub record Steppable (sh : Shape) (w : List ℕ) (x : Step) : Type 0 where
  pub held : Held sh (lists_of sh w)
  pub above : 1 ≤ at x
  pub under : at x < sh.rank
  pub room : needed sh w x ≤ length w
  -- A word can hold the number of any of these words.
  pub small : needed sh w x < 2 ^ 32

-- A step at rank r can be done, where the neighbours of element e are of rank `next`, and their list is at word list_word base e.
pub record Stepping (sh : Shape) (w : List ℕ) (r base next : ℕ) : Type 0 where
  pub held : Held sh (lists_of sh w)
  pub within : r ≤ sh.rank
  pub beside : next ≤ sh.rank
  pub ready : Neighbouring (lists_of sh w) base (types_in sh w r) (types_in sh w next)
  pub room : scratch_at sh + size_at sh r + size_at sh r + space_to (lists_of sh w) base (size_at sh r) ≤ length w

-- Gives the words below the free ones after that step: the elements of rank r have the numbers of their keys as types.
unfoldable pub stepped_at : Shape → List ℕ → ℕ → ℕ → ℕ → List ℕ
stepped_at sh w r base next =
    let from = types_at sh r in
    over (take (scratch_at sh) w) from (from + size_at sh r) (numbers_of (lists_of sh w) base (types_in sh w r) (types_in sh w next))

-- Any step at a proper rank can be done.
pub record Sweepable (sh : Shape) (w : List ℕ) : Type 0 where
  pub held : Held sh (lists_of sh w)
  pub room : (x : Step) → 1 ≤ at x → at x < sh.rank → needed sh w x ≤ length w
  pub small : (x : Step) → 1 ≤ at x → at x < sh.rank → needed sh w x < 2 ^ 32

-- These are the steps up of a sweep at ranks r to R − 1, and then its steps down at ranks r − 1 to 1.
unfoldable pub ups : ℕ → ℕ → List Step
ups r R = map up (range r (R - r))

unfoldable pub downs : ℕ → List Step
downs r = map down (reverse (range 1 (r - 1)))

-- The types of each proper rank are numbered "from 0 in each rank by first appearance".
pub record Countable (sh : Shape) (w : List ℕ) : Type 0 where
  pub held : Held sh (lists_of sh w)
  pub room : scratch_at sh ≤ length w
  pub numbered : (r : ℕ) → 1 ≤ r → r < sh.rank → Numbered (abstract_in sh w) (state_in sh w) r
