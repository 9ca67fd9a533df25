-- This file has section 2's solids as plain lists, and section 4: the types of a solid's elements, by steps and sweeps.
-- Assumes nothing.
use Rattle.std.specs.Prelude.{◌≡◌, ℕ, zero, suc, pred, ◌+◌, ◌-◌, ◌<◌, Bool, true, false, ◌&&◌, List, [], ◌∷◌, ◌++◌, map, reverse, length, get_or, set, replicate, eqb, ltb, None, Option, Some}
use Rattle.spec.specs.Lists.{distinct, place, renumber, count, holds, eq_list, range, keep, sum, join, in_order}

-- ---- solids

-- A solid has, for each rank from 0 to R and each of its elements, the list of the element's subs by their numbers: "Subs of an element lie one rank
-- below, sups one above".
abbrev pub Solid : Type 0
Solid = List (List (List ℕ))

-- This is the number of "the top rank R".
abbrev pub top : Solid → ℕ
top s = length s - 1

-- Counts the elements of a rank.
abbrev pub size : Solid → ℕ → ℕ
size s r = length (get_or s r [])

unfoldable pub subs : Solid → ℕ → ℕ → List ℕ
subs s r e = get_or (get_or s r []) e []

-- Lists the elements one rank above that have e as a sub: "Sups are derived, rising".
unfoldable pub sups : Solid → ℕ → ℕ → List ℕ
sups s r e = keep (λ f. holds eqb e (subs s (suc r) f)) (range 0 (size s (suc r)))

-- This is the list of the proper ranks: "ranks 1 to R−1 are proper".
unfoldable pub proper_ranks : Solid → List ℕ
proper_ranks s = range 1 (top s - 1)

-- This is the number E: "E counts proper elements".
unfoldable pub elements : Solid → ℕ
elements s = sum (map (λ r. size s r) (proper_ranks s))

-- "An element's vertices are those met by going down its subs rank by rank until vertices are reached. They are used in rising order."
unfoldable pub reach : Solid → ℕ → ℕ → List ℕ
reach s zero e = []
reach s (suc zero) e = e ∷ []
reach s (suc (suc r)) e = join (map (λ f. reach s (suc r) f) (subs s (suc (suc r)) e))

unfoldable pub vertices : Solid → ℕ → ℕ → List ℕ
vertices s r e = in_order (size s 1) (reach s r e)

-- Lists the vertex sets of a rank's elements.
unfoldable pub vertex_sets : Solid → ℕ → List (List ℕ)
vertex_sets s r = map (vertices s r) (range 0 (size s r))

-- This is the distance class of each element (section 3) as a number, by rank and then by element. Only those of proper elements are read.
abbrev pub Classes : Type 0
Classes = ℕ → ℕ → ℕ

-- ---- states

-- A state is "a type number for each element", by rank and then by element.
abbrev pub State : Type 0
State = List (List ℕ)

abbrev pub types_at : State → ℕ → List ℕ
types_at S r = get_or S r []

abbrev pub type_of : State → ℕ → ℕ → ℕ
type_of S r e = get_or (types_at S r) e 0

-- Counts the types over the proper ranks, which is "the number of types" that sweeps compare. Ranks 0 and R always have one type each, so they need
-- not be counted.
unfoldable pub type_count : Solid → State → ℕ
type_count s S = sum (map (λ r. length (distinct eqb (types_at S r))) (proper_ranks s))

-- Counts the types that a rank's elements have.
unfoldable pub in_use : State → ℕ → ℕ
in_use S r = length (distinct eqb (types_at S r))

-- The types of the rank r are numbered as section 4 says: "numbers go from 0 in each rank by first appearance".
pub record Numbered (s : Solid) (S : State) (r : ℕ) : Type 0 where
  -- There is one type for each element.
  pub each : length (types_at S r) ≡ size s r
  pub low : (e : ℕ) → e < size s r → type_of S r e < in_use S r
  -- The types by first appearance are 0, 1, 2 and so on.
  pub first : distinct eqb (types_at S r) ≡ range 0 (in_use S r)

-- ---- start

abbrev pub is_proper : Solid → ℕ → Bool
is_proper s r = ltb 0 r && ltb r (top s)

-- The start goes by "Start: elements of a proper rank share a type exactly when they share a distance class"; "ranks 0 and R have type 0 only";
-- "numbers go from 0 in each rank by first appearance, at the start too".
unfoldable pub start_at : Solid → Classes → ℕ → List ℕ
start_at s cls r = elim (is_proper s r) [ true ↦ renumber eqb (map (cls r) (range 0 (size s r))) | false ↦ replicate (size s r) 0 ]

unfoldable pub start : Solid → Classes → State
start s cls = map (start_at s cls) (range 0 (length s))

-- ---- steps

-- A step is either "Step up at proper rank r" or "Step down".
pub data Step : Type 0 where
  up : ℕ → Step
  down : ℕ → Step

-- These are the rank that a step is at; then the rank that it looks to, r−1 or r+1; and then an element's neighbours there, which are its subs or its
-- sups.
abbrev pub at : Step → ℕ
at (up r) = r
at (down r) = r

abbrev pub next : Step → ℕ
next (up r) = pred r
next (down r) = suc r

abbrev pub neighbours : Solid → Step → ℕ → List ℕ
neighbours s (up r) e = subs s r e
neighbours s (down r) e = sups s r e

-- This is what a step tells elements apart by: "two elements there still share a type exactly when they shared one and, for every type of rank r−1,
-- have as many subs of it. Step down: the same with sups and rank r+1". For an element of type t with the neighbours es this is t and, for every type
-- in the list `types`, which holds the types of the rank looked to, how many of es have that type.
unfoldable pub key : List ℕ → ℕ → List ℕ → List ℕ
key types t es = t ∷ map (λ k. count eqb k (map (λ e. get_or types e 0) es)) (distinct eqb types)

-- These are the keys of the elements of the step's rank, and then the state after it: "Other ranks keep theirs; numbers go from 0 in each rank by
-- first appearance".
unfoldable pub keys : Solid → State → Step → List (List ℕ)
keys s S x = map (λ e. key (types_at S (next x)) (type_of S (at x) e) (neighbours s x e)) (range 0 (size s (at x)))

unfoldable pub step : Solid → State → Step → State
step s S x = set S (at x) (renumber eq_list (keys s S x))

-- This is the state after steps that are taken one after another.
unfoldable pub play : Solid → State → List Step → State
play s S [] = S
play s S (x ∷ xs) = play s (step s S x) xs

-- ---- sweeps

-- "A sweep is up at 1 to R−1, then down at R−1 to 1."
unfoldable pub sweep_steps : Solid → List Step
sweep_steps s = map up (proper_ranks s) ++ map down (reverse (proper_ranks s))

unfoldable pub sweep : Solid → State → State
sweep s S = play s S (sweep_steps s)

-- "Sweeps end when one leaves the number of types unchanged." This is the state that such a sweep gives, or `None` where n sweeps are done before one
-- does.
unfoldable pub settle : Solid → ℕ → State → Option State
settle s zero S = None
settle s (suc n) S =
    let S' = sweep s S in
    elim (eqb (type_count s S') (type_count s S)) [ true ↦ Some S' | false ↦ settle s n S' ]

-- The first sweep is done before any is compared, because "the first never" ends them. `None` is refusal 15, "E + 2 sweeps done, still changing".
unfoldable pub result : Solid → Classes → Option State
result s cls = settle s (elements s + 1) (sweep s (start s cls))

-- ---- what is given out

-- "The result gives the type of each proper element, by rising rank and index."
unfoldable pub given : Solid → State → List ℕ
given s z = join (map (types_at z) (proper_ranks s))

-- The result gives these "and for each type its example (lowest element) and count", here with its rank and number.
pub record ElementType : Type 0 where
  pub rank : ℕ
  pub number : ℕ
  pub example : ℕ
  pub count : ℕ

unfoldable pub element_types_at : State → ℕ → List ElementType
element_types_at z r = map (λ t. record { rank = r; number = t; example = place eqb t (types_at z r); count = count eqb t (types_at z r) }) (distinct eqb (types_at z r))

unfoldable pub element_types : Solid → State → List ElementType
element_types s z = join (map (element_types_at z) (proper_ranks s))
