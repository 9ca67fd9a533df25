-- Judging a sheet answers with a refusal of the preflight answers 1 to 4 or, for a sheet that passes, with what it says apart from its coordinates and
-- lists.
-- Assumes nothing.
use Rattle.std.specs.Prelude.{ℕ, ◌-◌, List, map, ◌++◌, length, replicate, Err, Ok}
use Rattle.spec.specs.Limits.{max_rank}
use Rattle.spec.specs.Lists.{sum}
use Rattle.spec.specs.Judged.{Judged}
use Rattle.spec.specs.Sheet.{Parsed}
use Rattle.sheet.specs.declared.Header.{Header}

-- Gives f of the value that is passed, and the same refusal where there is none.
abbrev pub map_ok : {A B : Type 0} → (A → B) → Judged A → Judged B
map_ok f (Err why) = Err why
map_ok f (Ok x) = Ok (f x)

-- Counts the proper ranks of a sheet of the greatest R.
abbrev pub proper : ℕ
proper = max_rank - 1

-- Fills the counts up with zeros to the number of proper ranks of the greatest R.
unfoldable pub padded : List ℕ → List ℕ
padded counts = counts ++ replicate (proper - length counts) 0

-- These count the entries that the lists of one rank have, and then those that the lists of all ranks have.
unfoldable pub rank_entries : List (List ℕ) → ℕ
rank_entries ls = sum (map length ls)

unfoldable pub all_entries : List (List (List ℕ)) → ℕ
all_entries lists = sum (map rank_entries lists)

-- Gives R, D and the counts, and the two numbers that refusal 7 uses: "E counts proper elements, I stored list entries".
unfoldable pub header_of : Parsed → Header
header_of p = record {
  rank = p.rank;
  dimension = p.dimension;
  counts = padded p.counts;
  elements = sum p.counts;
  entries = all_entries p.lists;
}
