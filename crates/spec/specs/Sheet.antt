-- This file has section 2's sheet and its limits, and the preflight answers 1 to 4: "Fields are judged as they come (wholeness, then 2, 3 or 4; a
-- list's length counts as entries when it is read), then 1 for the end".
-- Assumes nothing.
use Rattle.std.specs.Prelude.{ℕ, zero, suc, ◌+◌, ◌-◌, ◌*◌, Bool, true, false, ◌&&◌, List, [], ◌∷◌, length, get_or, leb, ltb, eqb, Float, Err, Ok}
use Rattle.std.specs.Float.{binary64}
use Rattle.std.specs.Float.Ieee.{of_bits}
use Rattle.spec.specs.declared.Refusal.{Refusal}
use Rattle.spec.specs.declared.Refusal.TheVariants.{CutSheet, Format, OffTheBoard, BadList}
use Rattle.spec.specs.Limits.{max_rank, max_dimension, max_count, max_entries}
use Rattle.spec.specs.Float.{in_range}
use Rattle.spec.specs.Bits.{field}
use Rattle.spec.specs.Judged.{Judged}

-- This is what a sheet says: R, D, the counts of ranks 1 to R - 1, each vertex's coordinates, and for ranks 2 to R - 1 each element's list.
pub record Parsed : Type 0 where
  pub rank : ℕ
  pub dimension : ℕ
  pub counts : List ℕ
  pub points : List (List Float)
  pub lists : List (List (List ℕ))

-- ---- reading: a reader goes from a bit of the sheet to a refusal, or to a value and the bit at which the next field starts

abbrev pub Reader : Type 0 → Type 0
Reader A = ℕ → Judged (A × ℕ)

infixl 10 ◌>>=◌ ◌>>◌
-- One reading is followed by another that may depend on the first one's value.
unfoldable pub ◌>>=◌ : {A B : Type 0} → Reader A → (A → Reader B) → Reader B
◌>>=◌ m k i = elim (m i) [ Err why ↦ Err why | Ok x ↦ k x.0 x.1 ]

unfoldable pub ◌>>◌ : {A B : Type 0} → Reader A → Reader B → Reader B
◌>>◌ m k i = elim (m i) [ Err why ↦ Err why | Ok x ↦ k x.1 ]

unfoldable pub done : {A : Type 0} → A → Reader A
done a i = Ok (a, i)

-- The reading is refused, unless the test passes.
unfoldable pub judge : Refusal → Bool → Reader (Unit {0})
judge why ok i = elim ok [ true ↦ Ok (tt, i) | false ↦ Err why ]

-- The same reading is done n times.
unfoldable pub times : {A : Type 0} → ℕ → Reader A → Reader (List A)
times zero m = done []
times (suc n) m = do
  a ← m
  l ← times n m
  done (a ∷ l)

-- ---- the fields, each with its limit

-- V is "rank 1's count, but 1 where R = 1 and 0 where R = 0". In those two cases the list of counts is empty, and V is R itself.
unfoldable pub vertex_count : ℕ → List ℕ → ℕ
vertex_count R counts = get_or counts 0 R

module _ (b : List ℕ) where
  -- Reads the next w bits. Refusal 1 comes where "a field isn't whole".
  unfoldable pub bits : ℕ → Reader ℕ
  bits w i = elim (leb (i + w) (8 * length b)) [ true ↦ Ok (field b i w, i + w) | false ↦ Err CutSheet ]

  -- Reads the field "R, 3 bits", with the limit "R 0 to 5".
  unfoldable pub rank : Reader ℕ
  rank = do
    n ← bits 3
    judge Format (leb n max_rank)
    done n

  -- Reads the field "dimension D, 3", with the limit "D 0 to 4".
  unfoldable pub dimension : Reader ℕ
  dimension = do
    n ← bits 3
    judge Format (leb n max_dimension)
    done n

  -- Reads the field "for each proper rank its count, 12", with the limit "counts 1 to 2,048".
  unfoldable pub count : Reader ℕ
  count = do
    n ← bits 12
    judge Format (ltb 0 n && leb n max_count)
    done n

  -- A coordinate has "64 bits each (binary64)". Refusal 3 comes where it is "not finite or too large".
  unfoldable pub coordinate : Reader Float
  coordinate = do
    n ← bits 64
    judge OffTheBoard (in_range (of_bits binary64 n))
    done (of_bits binary64 n)

  -- Reads the fields "subs, 11 each". There are n of them, all below c, the first at least `low` and each more than the one before. Otherwise refusal
  -- 4 comes.
  unfoldable pub sub_list : ℕ → ℕ → ℕ → Reader (List ℕ)
  sub_list c zero low = done []
  sub_list c (suc n) low = do
    x ← bits 11
    judge BadList (ltb x c && leb low x)
    l ← sub_list c n (suc x)
    done (x ∷ l)

  -- Reads the fields of "each element's list: length, 12 bits; subs", with "at most 8,192 list entries a rank", of which `used` came before. The
  -- count of the rank below is c.
  unfoldable pub list : ℕ → ℕ → Reader (List ℕ)
  list c used = do
    n ← bits 12
    judge Format (leb (used + n) max_entries)
    judge BadList (ltb 0 n)
    sub_list c n 0

  -- Reads the lists of n elements of one rank.
  unfoldable pub lists_at : ℕ → ℕ → ℕ → Reader (List (List ℕ))
  lists_at c zero used = done []
  lists_at c (suc n) used = do
    l ← list c used
    ls ← lists_at c n (used + length l)
    done (l ∷ ls)

  -- Reads the lists "for ranks 2 to R−1", by the counts of ranks 1 to R - 1.
  unfoldable pub lists : List ℕ → Reader (List (List (List ℕ)))
  lists [] = done []
  lists (c ∷ []) = done []
  lists (c ∷ d ∷ counts) = do
    ls ← lists_at c d 0
    more ← lists (d ∷ counts)
    done (ls ∷ more)

  -- Reads the end of the sheet. Refusal 1 comes where "bytes follow, or a filling bit is 1".
  unfoldable pub end : Reader (Unit {0})
  end i = judge CutSheet (ltb (8 * length b - i) 8 && eqb (field b i (8 * length b - i)) 0) i

  -- Reads the whole sheet: "R, 3 bits; dimension D, 3; for each proper rank its count, 12. Then each vertex's D coordinates .. Then .. each element's
  -- list".
  unfoldable pub sheet : Reader Parsed
  sheet = do
    R ← rank
    D ← dimension
    counts ← times (R - 1) count
    points ← times (vertex_count R counts) (times D coordinate)
    ls ← lists counts
    end
    done (record { rank = R; dimension = D; counts = counts; points = points; lists = ls })

unfoldable pub read_sheet : List ℕ → Judged Parsed
read_sheet b = elim (sheet b 0) [ Err why ↦ Err why | Ok x ↦ Ok x.0 ]
