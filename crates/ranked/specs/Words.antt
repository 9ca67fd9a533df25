-- Section 2's solid stands in lent words. How the words are read is stated once, over their frozen low part w: "`Vec<Vec<_>>` and index newtypes:
-- lists at offsets in lent words."
-- Assumes nothing.
use Rattle.std.specs.Prelude.{◌≡◌, ℕ, suc, ◌+◌, ◌-◌, ◌*◌, ◌≤◌, ◌<◌, List, map, length, get_or, take, drop}
use Rattle.spec.specs.Limits.{max_rank, max_dimension, max_count, max_starts}
use Rattle.spec.specs.Lists.{range}
use Rattle.spec.specs.Types.{Solid, size, subs, sups}
use Rattle.spec.specs.Demand.{Sound}
use Rattle.ranked.specs.declared.Shape.{Shape}

-- These count the elements below rank r, those of rank r, and all elements.
abbrev pub first_at : Shape → ℕ → ℕ
first_at sh r = get_or sh.first r 0

abbrev pub size_at : Shape → ℕ → ℕ
size_at sh r = first_at sh (suc r) - first_at sh r

abbrev pub total : Shape → ℕ
total sh = first_at sh (suc sh.rank)

-- The shape has a start for every rank that there can be.
abbrev pub FullStarts : Shape → Type 0
FullStarts sh = length sh.first ≡ max_starts

-- Gives the words that hold the lists of the solid. What is free of the workspace lies behind them.
abbrev pub lists_of : Shape → List ℕ → List ℕ
lists_of sh ws = take sh.low ws

-- Gives the list whose start stands at word i and whose length stands at the word after.
unfoldable pub list_at : List ℕ → ℕ → List ℕ
list_at w i = take (get_or w (suc i) 0) (drop (get_or w i 0) w)

-- These are the word that says where element e's subs are, and then the one for its sups, in a rank that starts at `first`.
abbrev pub subs_word : ℕ → ℕ → ℕ
subs_word first e = 4 * (first + e)

abbrev pub sups_word : ℕ → ℕ → ℕ
sups_word first e = subs_word first e + 2

-- This is the word that says where the list of element e is, by that word `base` of the first element of its rank.
abbrev pub list_word : ℕ → ℕ → ℕ
list_word base e = base + 4 * e

-- These are the subs of an element, and then its sups.
unfoldable pub subs_in : Shape → List ℕ → ℕ → ℕ → List ℕ
subs_in sh w r e = list_at w (subs_word (first_at sh r) e)

unfoldable pub sups_in : Shape → List ℕ → ℕ → ℕ → List ℕ
sups_in sh w r e = list_at w (sups_word (first_at sh r) e)

-- Gives the solid that the words hold.
unfoldable pub abs_in : Shape → List ℕ → Solid
abs_in sh w = map (λ r. map (subs_in sh w r) (range 0 (size_at sh r))) (range 0 (suc sh.rank))

-- The list at word i lies within the words.
abbrev pub Inside : List ℕ → ℕ → Type 0
Inside w i = get_or w i 0 + get_or w (suc i) 0 ≤ length w

-- The words hold a solid as section 2 allows it, with its sups as they are derived.
pub record Held (sh : Shape) (w : List ℕ) : Type 0 where
  pub tall : sh.rank ≤ max_rank
  pub wide : sh.dimension ≤ max_dimension
  pub ranks : FullStarts sh
  -- No rank is empty, and none has more elements than the limit.
  pub start : first_at sh 0 ≡ 0
  pub some : (r : ℕ) → r ≤ sh.rank → first_at sh r < first_at sh (suc r)
  pub few : (r : ℕ) → r ≤ sh.rank → size_at sh r ≤ max_count
  -- The ranks above the top have no start.
  pub rest : (r : ℕ) → suc sh.rank < r → first_at sh r ≡ 0
  -- The starts and lengths stand in the words, and so do the lists.
  pub room : 4 * total sh ≤ length w
  pub subs_inside : (g : ℕ) → g < total sh → Inside w (4 * g)
  pub sups_inside : (g : ℕ) → g < total sh → Inside w (4 * g + 2)
  pub sound : Sound (abs_in sh w)
  -- Every element but the least has a sub.
  pub filled : (r e : ℕ) → e < size (abs_in sh w) (suc r) → 0 < length (subs (abs_in sh w) (suc r) e)
  -- "Sups are derived, rising."
  pub derived : (r e : ℕ) → r ≤ sh.rank → e < size_at sh r → sups_in sh w r e ≡ sups (abs_in sh w) r e
