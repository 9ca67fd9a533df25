-- This file has section 2: the solid that a sheet says, and the preflight answers 7, 5 and 6.
-- Assumes nothing.
use Rattle.std.specs.Prelude.{ℕ, zero, suc, ◌+◌, ◌-◌, ◌*◌, Bool, ◌&&◌, List, [], ◌∷◌, ◌++◌, map, length, get_or, replicate, leb, ltb, eqb, Float, Ok}
use Rattle.spec.specs.declared.Refusal.TheVariants.{Loose, Mitre, Bench}
use Rattle.spec.specs.Lists.{holds, range, keep, sum, every}
use Rattle.spec.specs.Types.{Solid, top, size, subs, sups, proper_ranks, elements}
use Rattle.spec.specs.Judged.{Judged, ◌>>=◌, ◌>>◌, judge}
use Rattle.spec.specs.Sheet.{Parsed, read_sheet}

-- These are the lists of the proper ranks: "A vertex has the least element as sub", and ranks 2 to R - 1 have the sheet's lists.
unfoldable pub proper_lists : List ℕ → List (List (List ℕ)) → List (List (List ℕ))
proper_lists [] lists = []
proper_lists (n ∷ counts) lists = replicate n (0 ∷ []) ∷ lists

-- This is the solid with one rank more, which has one element: "the top has all of rank R−1".
unfoldable pub with_top : Solid → Solid
with_top s = s ++ ((range 0 (size s (top s)) ∷ []) ∷ [])

-- "Rank 0 holds one least element, rank 1 the vertices, the top rank R one element". Where R = 0 the least element is the top, and where R = 1 the
-- vertex is.
unfoldable pub solid_of : Parsed → Solid
solid_of p = elim p.rank [ zero ↦ ([] ∷ []) ∷ [] | suc r ↦ with_top (([] ∷ []) ∷ proper_lists p.counts p.lists) ]

-- "I stored list entries" counts those of ranks 2 to R - 1.
unfoldable pub entries : Solid → ℕ
entries s = sum (map (λ r. sum (map length (get_or s r []))) (range 2 (top s - 2)))

-- These are the words and floats that a solid of E proper elements and I stored entries needs: refusal 7 comes at a "workspace under 16 times (E+I+4)
-- 32-bit words or 8 times (E+8) floats".
abbrev pub words_for : ℕ → ℕ → ℕ
words_for E I = 16 * (E + I + 4)

abbrev pub floats_for : ℕ → ℕ
floats_for E = 8 * (E + 8)

-- Tells whether the workspace is large enough. Refusal 7 is the contrary.
unfoldable pub roomy : Solid → ℕ → ℕ → Bool
roomy s words floats = leb (words_for (elements s) (entries s)) words && leb (floats_for (elements s)) floats

-- Tells whether every proper element below rank R−1 is in a list. Refusal 5, "a proper element below rank R−1 is in no list", is the contrary.
unfoldable pub bound : Solid → Bool
bound s = every (λ r. every (λ e. ltb 0 (length (sups s r e))) (range 0 (size s r))) (range 1 (top s - 2))

-- Lists the elements of rank r between g, one rank above, and h, one rank below.
unfoldable pub between : Solid → ℕ → ℕ → ℕ → List ℕ
between s r g h = keep (λ f. holds eqb h (subs s r f)) (subs s (suc r) g)

-- Tells whether there are always two elements between. Refusal 6, "not exactly two elements between an element and a sub of its sub", is the
-- contrary; the top and the least element are included.
unfoldable pub diamond : Solid → Bool
diamond s = every (λ r. every (λ g. every (λ f. every (λ h. eqb (length (between s r g h)) 2) (subs s r f)) (subs s (suc r) g)) (range 0 (size s (suc r)))) (proper_ranks s)

-- A solid goes together with its vertices' coordinates in D dimensions.
pub record Concrete : Type 0 where
  pub dimension : ℕ
  pub points : List (List Float)
  pub abs : Solid

-- This is the solid of a sheet that no refusal stops: "then 1 for the end, 7, 5, 6".
unfoldable pub preflight : List ℕ → ℕ → ℕ → Judged Concrete
preflight b words floats = do
  p ← read_sheet b
  c ← Ok (record { dimension = p.dimension; points = p.points; abs = solid_of p })
  judge Bench (roomy c.abs words floats)
  judge Loose (bound c.abs)
  judge Mitre (diamond c.abs)
  Ok c
