-- The table that a types call fills is read back from the four cells of each type.
-- Assumes nothing.
use Rattle.std.specs.Prelude.{List, [], ◌∷◌, map, ℕ, ◌*◌, take}
use Rattle.spec.specs.Lists.{join}
use Rattle.spec.specs.Types.{ElementType}
use Rattle.spec.specs.KitText.{type_line}
use Rattle.text.specs.declared.lines.TypeRecord.{TypeRecord}

-- Gives the type that the program has as a record.
abbrev pub element_type_of : TypeRecord → ElementType
element_type_of r = record { rank = r.rank; number = r.number; example = r.example; count = r.count }

-- Lists the types whose cells these are.
unfoldable pub types_from : List ℕ → List ElementType
types_from [] = []
types_from (r ∷ []) = []
types_from (r ∷ t ∷ []) = []
types_from (r ∷ t ∷ e ∷ []) = []
types_from (r ∷ t ∷ e ∷ c ∷ l) = record { rank = r; number = t; example = e; count = c } ∷ types_from l

-- Gives the lines of the first n types of a table.
unfoldable pub lines_to : List ℕ → ℕ → List ℕ
lines_to t n = join (map type_line (types_from (take (4 * n) t)))
