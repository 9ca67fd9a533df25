-- This file says where everything lies in the lent words and floats. The words hold the solid's lists, behind them the type of each element, and
-- behind these what a step or a search needs for itself. The floats hold the vertices' coordinates, behind them the listed distances, of which there
-- are at most as many as proper elements, and behind these the distance class of each proper element.
-- Assumes nothing.
use Rattle.std.specs.Prelude.{ℕ, zero, suc, ◌+◌, ◌-◌, ◌*◌, ◌/◌, List, take, drop, Float}
use Rattle.ranked.specs.declared.Shape.{Shape}
use Rattle.ranked.specs.Words.{first_at, size_at, total, lists_of, abs_in}
use Rattle.spec.specs.Lists.{parts}
use Rattle.spec.specs.Solid.{Concrete}
use Rattle.spec.specs.Types.{Solid}

-- Counts the proper elements, which are those from rank 1 on and below the top: "E counts proper elements".
abbrev pub proper : Shape → ℕ
proper sh = first_at sh sh.rank - first_at sh 1

-- Counts the proper elements that lie below rank r.
abbrev pub before : Shape → ℕ → ℕ
before sh r = first_at sh r - first_at sh 1

-- ---- words

-- Counts the subs that all elements have together, where the sheet's lists have I entries: each vertex has one, and the top has the rank below it.
unfoldable pub sub_entries : Shape → ℕ → ℕ
sub_entries sh I = elim sh.rank [ zero ↦ 0 | suc q ↦ elim q [ zero ↦ 1 | suc z ↦ size_at sh 1 + I + size_at sh (suc z) ] ]

-- Gives the word from which on the subs' entries stand, behind the starts and lengths, which take four words for each element.
abbrev pub sub_entries_at : Shape → ℕ
sub_entries_at sh = 4 * total sh

-- Counts the words that the solid takes: those below the entries, and one for each entry of its subs and of its sups, of which there are as many.
unfoldable pub low_of : Shape → ℕ → ℕ
low_of sh I = sub_entries_at sh + 2 * sub_entries sh I

-- Gives the shape with the number of its words, where the sheet's lists have I entries.
unfoldable pub sized : Shape → ℕ → Shape
sized sh I = record { rank = sh.rank; dimension = sh.dimension; first = sh.first; low = low_of sh I }

-- Gives the word from which on the sups' entries stand: low = 4 n + 2 s for n elements that have s subs together, and as many sups. It goes by `low`,
-- since the shape does not keep the number of the sheet's entries.
abbrev pub sup_entries_at : Shape → ℕ
sup_entries_at sh = 2 * total sh + sh.low / 2

-- Gives the words below the sups' entries, in which the solid stands with its subs alone.
abbrev pub sub_lists_of : Shape → List ℕ → List ℕ
sub_lists_of sh ws = take (sup_entries_at sh) ws

-- Gives the word from which on the types of rank r's elements stand.
abbrev pub types_at : Shape → ℕ → ℕ
types_at sh r = sh.low + first_at sh r

-- Gives the first word behind the types.
abbrev pub scratch_at : Shape → ℕ
scratch_at sh = sh.low + total sh

-- Gives the word from which on the fingerprints of rank r's elements stand.
abbrev pub fingerprints_at : Shape → ℕ → ℕ
fingerprints_at sh r = scratch_at sh + first_at sh r

-- ---- floats

-- Counts the floats that the coordinates take.
abbrev pub coordinates : Shape → ℕ
coordinates sh = size_at sh 1 * sh.dimension

-- Gives the float from which on the classes stand.
abbrev pub classes_at : Shape → ℕ
classes_at sh = coordinates sh + proper sh

-- Gives the float that holds the class of element e of rank r.
abbrev pub class_at : Shape → ℕ → ℕ → ℕ
class_at sh r e = classes_at sh + (before sh r + e)

-- Gives the classes of the proper elements, by rising rank and number.
abbrev pub classes_in : Shape → List Float → List Float
classes_in sh fs = take (proper sh) (drop (classes_at sh) fs)

-- ---- the solid

-- Gives the solid that the lists w hold, with the coordinates that the floats start with.
abbrev pub solid_on : Shape → List ℕ → List Float → Concrete
solid_on sh w fs = record { dimension = sh.dimension; points = parts (size_at sh 1) sh.dimension (take (coordinates sh) fs); abs = abs_in sh w }

-- Gives the abstract solid in the workspace, whose lists stand in the first words.
abbrev pub abstract_in : Shape → List ℕ → Solid
abstract_in sh ws = abs_in sh (lists_of sh ws)

-- Gives the solid that lies in the workspace, whose lists stand in the first words.
abbrev pub solid_in : Shape → List ℕ → List Float → Concrete
solid_in sh ws fs = solid_on sh (lists_of sh ws) fs
