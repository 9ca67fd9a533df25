-- Section 2's sheet the other way round, from what a sheet says to its bytes: "The sheet (added) is bit-packed, most significant first". The file also says
-- what may be packed.
-- Assumes nothing.
use Rattle.std.specs.Prelude.{◌≡◌, refl, ℕ, zero, suc, ◌+◌, ◌-◌, ◌*◌, ◌/◌, ◌%◌, ◌≤◌, ◌<◌, true, List, [], ◌∷◌, ◌++◌, map, length, get_or, drop, Float}
use Rattle.std.specs.Float.{binary64}
use Rattle.std.specs.Float.Ieee.{fits, size, of_bits, to_bits}
use Rattle.spec.specs.Limits.{max_rank, max_dimension, max_count, max_entries}
use Rattle.spec.specs.Lists.{In, sum, join}
use Rattle.spec.specs.Float.{in_range}
use Rattle.spec.specs.Demand.{Rising}
use Rattle.spec.specs.Sheet.{Parsed, vertex_count}

-- ---- the bits

-- Lists the w bits of n, "most significant first".
unfoldable pub bits_of : ℕ → ℕ → List ℕ
bits_of zero n = []
bits_of (suc w) n = bits_of w (n / 2) ++ (n % 2 ∷ [])

-- These are the bits of a vertex's point: "each vertex's D coordinates, 64 bits each (binary64)".
unfoldable pub point_bits : List Float → List ℕ
point_bits v = join (map (λ x. bits_of 64 (to_bits binary64 x)) v)

-- These are the bits of "each element's list: length, 12 bits; subs, 11 each".
unfoldable pub list_bits : List ℕ → List ℕ
list_bits l = bits_of 12 (length l) ++ join (map (bits_of 11) l)

-- These are the bits of the lists of a rank's elements.
unfoldable pub rank_bits : List (List ℕ) → List ℕ
rank_bits ls = join (map list_bits ls)

-- These are the bits of a whole sheet: "R, 3 bits; dimension D, 3; for each proper rank its count, 12. Then each vertex's D coordinates .. Then, for
-- ranks 2 to R−1, each element's list".
unfoldable pub pack_bits : Parsed → List ℕ
pack_bits p =
    bits_of 3 p.rank
    ++ (bits_of 3 p.dimension
    ++ (join (map (bits_of 12) p.counts)
    ++ (join (map point_bits p.points)
    ++ join (map rank_bits p.lists))))

-- ---- the bytes

-- This is the number that is written in the w bits of l from bit i on, the first of them being the highest. Bits past the end are 0: "Zero bits fill
-- the last byte".
unfoldable pub number : List ℕ → ℕ → ℕ → ℕ
number l i zero = 0
number l i (suc w) = 2 * number l i w + get_or l (i + w) 0

-- Lists the first n bytes, of eight bits each.
unfoldable pub bytes_from : ℕ → List ℕ → List ℕ
bytes_from zero l = []
bytes_from (suc n) l = number l 0 8 ∷ bytes_from n (drop 8 l)

-- Gives as many bytes as it takes to hold the bits.
unfoldable pub bytes_of : List ℕ → List ℕ
bytes_of l = bytes_from ((length l + 7) / 8) l

unfoldable pub pack : Parsed → List ℕ
pack p = bytes_of (pack_bits p)

-- The list b is a list of bytes.
abbrev pub Bytes : List ℕ → Type 0
Bytes b = (x : ℕ) → In x b → x < 256

-- ---- what may be packed: whatever keeps to section 2's limits and is not refused 3 or 4

-- A coordinate has to be a binary64 that is in range.
pub record AllowedCoordinate (x : Float) : Type 0 where
  pub binary : fits binary64 x ≡ true
  pub range : in_range x ≡ true

-- A vertex has to have D coordinates, each of them allowed.
pub record AllowedPoint (D : ℕ) (v : List Float) : Type 0 where
  pub wide : length v ≡ D
  pub coordinates : (x : Float) → In x v → AllowedCoordinate x

-- An element's list may not be empty, and it has to rise strictly and to stay below c, the count of the rank below.
pub record AllowedList (c : ℕ) (l : List ℕ) : Type 0 where
  pub filled : 0 < length l
  pub rising : Rising l
  pub below : (x : ℕ) → In x l → x < c

-- A rank has to have n lists, with "at most 8,192 list entries a rank".
pub record AllowedRank (c n : ℕ) (ls : List (List ℕ)) : Type 0 where
  pub sized : length ls ≡ n
  pub each : (l : List ℕ) → In l ls → AllowedList c l
  pub entries : sum (map length ls) ≤ max_entries

pub record Allowed (p : Parsed) : Type 0 where
  -- R and D are within their limits: "R 0 to 5, D 0 to 4".
  pub tall : p.rank ≤ max_rank
  pub wide : p.dimension ≤ max_dimension
  -- The counts are "for each proper rank its count", with the limit "counts 1 to 2,048".
  pub counted : length p.counts ≡ p.rank - 1
  pub counts : (n : ℕ) → In n p.counts → (0 < n) × (n ≤ max_count)
  -- The points are "each vertex's D coordinates".
  pub pointed : length p.points ≡ vertex_count p.rank p.counts
  pub points : (v : List Float) → In v p.points → AllowedPoint p.dimension v
  -- The lists are "for ranks 2 to R−1, each element's list". Rank 2 is the first of `lists`, and the second of `counts`.
  pub listed : length p.lists ≡ length p.counts - 1
  pub lists : (r : ℕ) → suc r < length p.counts → AllowedRank (get_or p.counts r 0) (get_or p.counts (suc r) 0) (get_or p.lists r [])

-- ---- an example

-- These are the bytes of R = 2 at −1 and 1.
pub packed_pair : pack (record {
  rank = 2;
  dimension = 1;
  counts = 2 ∷ [];
  points = (of_bits binary64 0xbff0_0000_0000_0000 ∷ []) ∷ (of_bits binary64 0x3ff0_0000_0000_0000 ∷ []) ∷ [];
  lists = [];
})
    ≡ 68 ∷ 0 ∷ 175 ∷ 252 ∷ 0 ∷ 0 ∷ 0 ∷ 0 ∷ 0 ∷ 0 ∷ 15 ∷ 252 ∷ 0 ∷ 0 ∷ 0 ∷ 0 ∷ 0 ∷ 0 ∷ 0 ∷ []
unfolding join size of_bits to_bits bits_of point_bits list_bits rank_bits pack_bits number bytes_from bytes_of pack
packed_pair = refl
