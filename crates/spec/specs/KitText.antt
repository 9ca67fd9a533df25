-- This file says what the program `kit` prints for its standard input.
-- Assumes nothing.
use Rattle.std.specs.Prelude.{ℕ, zero, suc, ◌+◌, ◌*◌, ◌/◌, ◌%◌, true, false, List, [], ◌∷◌, ◌++◌, map, length, ltb, Err, Ok}
use Rattle.spec.specs.declared.Refusal.{Refusal}
use Rattle.spec.specs.declared.Refusal.TheVariants.{CutSheet}
use Rattle.spec.specs.Refusal.{number}
use Rattle.spec.specs.Lists.{sum, join}
use Rattle.spec.specs.Types.{ElementType}
use Rattle.spec.specs.Judged.{Judged}
use Rattle.spec.specs.Search.{Member, rotations_of}
use Rattle.spec.specs.Calls.{Given, types_given, Room, Outcome, outcome, members_in}
use Rattle.spec.specs.Ascii.{ascii}

-- These are the decimal digits of n, of which at most k are written.
unfoldable pub digits : ℕ → ℕ → List ℕ
digits zero n = []
digits (suc k) n = elim (ltb n 10) [ true ↦ (48 + n) ∷ [] | false ↦ digits k (n / 10) ++ ((48 + n % 10) ∷ []) ]

unfoldable pub decimal : ℕ → List ℕ
decimal n = digits (suc n) n

-- "A refusal prints `refused` and its number."
unfoldable pub refused_line : Refusal → List ℕ
refused_line why = ascii "refused " ++ decimal (number why) ++ ascii "\n"

-- The line of a type has "rank, type, example, count".
unfoldable pub type_line : ElementType → List ℕ
type_line k = decimal k.rank ++ ascii " " ++ decimal k.number ++ ascii " " ++ decimal k.example ++ ascii " " ++ decimal k.count ++ ascii "\n"

-- "The first line counts types", and a line for each type follows it.
unfoldable pub types_lines : List ElementType → List ℕ
types_lines ks = ascii "types " ++ decimal (length ks) ++ ascii "\n" ++ join (map type_line ks)

-- The last line counts "the members, those marked 1, and those of determinant above 0".
unfoldable pub members_line : List Member → List ℕ
members_line ms =
    ascii "members " ++ decimal (length ms)
    ++ ascii " confirmed " ++ decimal (sum (map (λ x. x.mark) ms))
    ++ ascii " rotations " ++ decimal (length (rotations_of ms)) ++ ascii "\n"

unfoldable pub last_line : Outcome → List ℕ
last_line f = elim f.answer [ Ok n ↦ members_line f.members | Err r ↦ refused_line r.why ]

-- ---- what `kit` lends, each number once

-- `kit` lends "space for 256 elements' types and 256 types", and a type takes four cells.
abbrev pub element_cells : ℕ
element_cells = 256

abbrev pub type_records : ℕ
type_records = 4 * 256

-- `kit` lends "1,024 matrix floats, 8,192 row entries, 512 marks".
abbrev pub lent : Room
lent = record { floats = 1024; entries = 8192; marks = 512 }

-- `kit` lends "a workspace of 4,096 words and 2,048 floats".
abbrev pub work_words : ℕ
work_words = 4096

abbrev pub work_floats : ℕ
work_floats = 2048

-- This is the longest input that is read: "input past 8,192 bytes is refused 1".
abbrev pub longest : ℕ
longest = 8192

-- ---- the text

-- "A refusal prints `refused` and its number, after the types if they stood."
unfoldable pub after_types : Judged Given → List ℕ → List ℕ
after_types (Err why) b = refused_line why
after_types (Ok g) b = types_lines g.types ++ last_line (outcome (members_in b work_words work_floats) lent)

-- "The program `kit` reads a sheet from standard input and prints" these bytes.
unfoldable pub kit_text : List ℕ → List ℕ
kit_text b = elim (ltb longest (length b)) [ true ↦ refused_line CutSheet | false ↦ after_types (types_given b work_words work_floats element_cells type_records) b ]
