-- This file is about storing a sheet: what its bits say, field by field, and how the subs of a solid come to stand in the words.
-- Assumes nothing.
use Rattle.std.specs.Prelude.{◌≡◌, ℕ, zero, suc, ◌+◌, ◌-◌, ◌*◌, ◌≤◌, ◌<◌, List, [], ◌∷◌, ◌++◌, map, length, get_or, take, replicate, Float, Err, Ok}
use Rattle.std.specs.Float.{binary64}
use Rattle.std.specs.Float.Ieee.{of_bits}
use Rattle.spec.specs.Limits.{max_rank, max_elements}
use Rattle.spec.specs.Lists.{join, range}
use Rattle.spec.specs.Bits.{field}
use Rattle.spec.specs.Types.{size}
use Rattle.spec.specs.Sheet.{Parsed, read_sheet}
use Rattle.spec.specs.Solid.{solid_of, entries, Concrete}
use Rattle.ranked.specs.declared.Shape.{Shape}
use Rattle.ranked.specs.Words.{first_at, size_at, total, lists_of, list_at, abs_in, Held}
use Rattle.ranked.specs.Layout.{low_of, sub_lists_of}
use Rattle.ranked.specs.Shapes.{shape_of}
use Rattle.preflight.specs.Derive.{Stored, stored_in}

-- ---- fields

-- Lists the n numbers of w bits each that stand from bit i on.
unfoldable pub fields_at : List ℕ → ℕ → ℕ → ℕ → List ℕ
fields_at b i w zero = []
fields_at b i w (suc n) = field b i w ∷ fields_at b (i + w) w n

-- Lists the n coordinates that stand from bit i on, "64 bits each (binary64)".
unfoldable pub floats_at : List ℕ → ℕ → ℕ → List Float
floats_at b i n = map (of_bits binary64) (fields_at b i 64 n)

-- ---- the lists of a sheet

-- Gives the list that stands at bit i: "each element's list: length, 12 bits; subs, 11 each".
unfoldable pub raw_list : List ℕ → ℕ → List ℕ
raw_list b i = fields_at b (i + 12) 11 (field b i 12)

-- Gives the bit after that list.
unfoldable pub bit_past : List ℕ → ℕ → ℕ
bit_past b i = i + 12 + 11 * field b i 12

-- Gives the bit after the n lists that stand from bit i on.
unfoldable pub bit_after : List ℕ → ℕ → ℕ → ℕ
bit_after b i zero = i
bit_after b i (suc n) = bit_past b (bit_after b i n)

-- Gives those n lists.
unfoldable pub raw_lists : List ℕ → ℕ → ℕ → List (List ℕ)
raw_lists b i zero = []
raw_lists b i (suc n) = raw_lists b i n ++ (raw_list b (bit_after b i n) ∷ [])

-- Gives the bit after the lists of n ranks that stand from bit i on, one rank after another. The function c says how many elements each rank has.
unfoldable pub bit_ranks : List ℕ → ℕ → (ℕ → ℕ) → ℕ → ℕ
bit_ranks b i c zero = i
bit_ranks b i c (suc n) = bit_after b (bit_ranks b i c n) (c n)

-- Gives those lists, one rank after another.
unfoldable pub raw_ranks : List ℕ → ℕ → (ℕ → ℕ) → ℕ → List (List ℕ)
raw_ranks b i c zero = []
raw_ranks b i c (suc n) = raw_ranks b i c n ++ raw_lists b (bit_ranks b i c n) (c n)

-- ---- lists in the words

-- The lists ls of the elements 0, 1, .. stand in the words ws, with all entries behind the starts and lengths of n elements.
pub record ListsIn (n : ℕ) (ls : List (List ℕ)) (ws : List ℕ) : Type 0 where
  pub starts : (g : ℕ) → g < length ls → 4 * n ≤ get_or ws (4 * g) 0
  pub ends : (g : ℕ) → g < length ls → get_or ws (4 * g) 0 + get_or ws (suc (4 * g)) 0 ≤ 4 * n + length (join ls)
  pub at : (g : ℕ) → g < length ls → list_at ws (4 * g) ≡ get_or ls g []

-- The words ws' are ws with the lists ls added, which are those of element g and of the elements after it, with their entries from `end` on.
pub record Adds (g end : ℕ) (ls : List (List ℕ)) (ws ws' : List ℕ) : Type 0 where
  pub listed : (n : ℕ) (old : List (List ℕ)) → length old ≡ g → end ≡ 4 * n + length (join old) → g + length ls ≤ n → ListsIn n old ws → ListsIn n (old ++ ls) ws'

-- ---- the subs of a solid

-- The shape is as section 2 allows it.
pub record Shaped (sh : Shape) : Type 0 where
  pub tall : sh.rank ≤ max_rank
  pub start : first_at sh 0 ≡ 0
  pub least : first_at sh 1 ≡ 1
  pub some : (r : ℕ) → r ≤ sh.rank → first_at sh r < first_at sh (suc r)
  -- A solid has so many elements at most.
  pub small : total sh ≤ max_elements

-- Counts the elements of the ranks 2, 3, .. that have lists.
abbrev pub list_sizes : Shape → ℕ → ℕ
list_sizes sh k = size_at sh (suc (suc k))

-- Gives the lists that stand from bit i on, and "the top has all of rank R−1", where R is two or more.
unfoldable pub upper_lists : List ℕ → ℕ → Shape → ℕ → List (List ℕ)
upper_lists b i sh zero = []
upper_lists b i sh (suc k) = raw_ranks b i (list_sizes sh) k ++ (range 0 (size_at sh (suc k)) ∷ [])

-- Gives the subs of all elements: none for the least, "A vertex has the least element as sub", and those above. Where R = 0 the least element is the
-- top, and where R = 1 the vertex is.
unfoldable pub sub_lists : List ℕ → ℕ → Shape → List (List ℕ)
sub_lists b i sh = elim sh.rank [ zero ↦ [] ∷ [] | suc q ↦ [] ∷ (replicate (size_at sh 1) (0 ∷ []) ++ upper_lists b i sh q) ]

-- Gives the bit at which the coordinates start: "R, 3 bits; dimension D, 3; for each proper rank its count, 12".
abbrev pub points_bit : ℕ → ℕ
points_bit R = 6 + 12 * (R - 1)

-- ---- a whole sheet

-- Gives what a sheet says, if it was read, and otherwise the record of an empty one.
unfoldable pub parsed_of : List ℕ → Parsed
parsed_of b = elim (read_sheet b) [ Err why ↦ record { rank = 0; dimension = 0; counts = []; points = []; lists = [] } | Ok p ↦ p ]

-- Gives the solid that a sheet says.
abbrev pub said : Parsed → Concrete
said p = record { dimension = p.dimension; points = p.points; abs = solid_of p }

-- The words ws hold the solid of the sheet p, and the floats fs start with its vertices' coordinates.
pub record StoredSheet (p : Parsed) (sh : Shape) (ws : List ℕ) (fs : List Float) : Type 0 where
  pub rank : sh.rank ≡ p.rank
  pub dimension : sh.dimension ≡ p.dimension
  pub shape : sh ≡ shape_of (said p)
  -- A solid has so many elements at most.
  pub small : total sh ≤ max_elements
  -- The part of the words and of the floats that is read lies within them.
  pub low : sh.low ≡ low_of sh (entries (solid_of p))
  pub words_in : sh.low ≤ length ws
  pub floats_in : size (solid_of p) 1 * p.dimension ≤ length fs
  pub held : Held sh (lists_of sh ws)
  pub solid : abs_in sh (lists_of sh ws) ≡ solid_of p
  -- The subs stand by themselves below the sups' entries.
  pub stored : Stored sh (sub_lists_of sh ws)
  pub subs_alone : stored_in sh ws ≡ solid_of p
  pub points : take (size (solid_of p) 1 * p.dimension) fs ≡ join p.points
