-- The terms of demand 3, and what it says of a state and the result. Crate `laws` proves it of the state after any list of steps.
-- Assumes nothing.
use Rattle.std.specs.Prelude.{◌≡◌, ◌≢◌, ◌↔◌, true, ℕ, suc, pred, ◌-◌, ◌<◌, List, [], ◌∷◌, map, get_or}
use Rattle.spec.specs.Lists.{In, range}
use Rattle.spec.specs.Mark.{marked, goes}
use Rattle.spec.specs.Types.{Solid, top, size, subs, Classes, State, type_of, Step, at, step}

-- Every number of the list is greater than the one before it, and the first is greater than x.
abbrev pub RisingAbove : ℕ → List ℕ → Type 0
RisingAbove x [] = Unit {0}
RisingAbove x (y ∷ l) = (x < y) × RisingAbove y l

-- Every number of the list is greater than the one before it.
abbrev pub Rising : List ℕ → Type 0
Rising [] = Unit {0}
Rising (x ∷ l) = RisingAbove x l

-- This is what section 2 asks of a solid, as far as its types depend on it.
pub record Sound (s : Solid) : Type 0 where
  -- Rank 0 holds one least element, which has no subs.
  pub least : get_or s 0 [] ≡ [] ∷ []
  -- Subs lie one rank below, and they are listed strictly rising.
  pub below : (r e x : ℕ) → In x (subs s (suc r) e) → x < size s r
  pub rising : (r e : ℕ) → Rising (subs s r e)
  -- The top rank holds one element, which has all of the rank below as subs.
  pub one : size s (top s) ≡ 1
  pub all : 0 < top s → subs s (top s) 0 ≡ range 0 (size s (top s - 1))

-- The rank r is proper: "ranks 1 to R−1 are proper".
abbrev pub Proper : Solid → ℕ → Type 0
Proper s r = (0 < r) × (r < top s)

-- Every step of the list is at a proper rank.
abbrev pub AllProper : Solid → List Step → Type 0
AllProper s [] = Unit {0}
AllProper s (x ∷ xs) = Proper s (at x) × AllProper s xs

-- "A step parts two elements that share a type before it and not after it": the step x parts the elements e and f of rank r.
abbrev pub Parts : Solid → State → Step → ℕ → ℕ → ℕ → Type 0
Parts s S x r e f = (type_of S r e ≡ type_of S r f) × (type_of (step s S x) r e ≢ type_of (step s S x) r f)

-- No step at a proper rank parts any two elements of the state S.
abbrev pub Steady : Solid → State → Type 0
Steady s S = (x : Step) → Proper s (at x) → (r e f : ℕ) → e < size s r → f < size s r → ¬ Parts s S x r e f

-- If no step parts anything in the state S, the numbers of S are those of the result z.
abbrev pub Final : Solid → State → State → Type 0
Final s S z = Steady s S → (r e : ℕ) → Proper s r → e < size s r → type_of S r e ≡ type_of z r e

-- The map of elements keeps rank and class, never takes two elements to one, and takes subs exactly onto subs.
pub record Carries (s : Solid) (cls : Classes) (σ : ℕ → ℕ → ℕ) : Type 0 where
  pub ranks : (r e : ℕ) → e < size s r → σ r e < size s r
  pub classes : (r e : ℕ) → Proper s r → e < size s r → cls r (σ r e) ≡ cls r e
  pub apart : (r e f : ℕ) → e < size s r → f < size s r → σ r e ≡ σ r f → e ≡ f
  pub onto : (r e : ℕ) → Proper s r → e < size s r → (x : ℕ) → In x (subs s r (σ r e)) ↔ In x (map (σ (pred r)) (subs s r e))
  pub least : σ 0 0 ≡ 0
  pub peak : σ (top s) 0 ≡ 0

-- This is what demand 3 says of a state S and the result z.
pub record Agree (s : Solid) (cls : Classes) (S z : State) : Type 0 where
  -- (a) What S tells apart, the result tells apart.
  pub finer : (r e f : ℕ) → e < size s r → f < size s r → type_of S r e ≢ type_of S r f → type_of z r e ≢ type_of z r f
  -- (b) A state that no step can part any further has the result's numbers.
  pub final : Final s S z
  -- (c) A confirmed row carries every element to one of its own rank and type, in S and in the result.
  pub confirmed : (row : List ℕ) → marked s cls row ≡ true → (r e : ℕ) → e < size s r
      → (goes s row r e < size s r) × (type_of S r (goes s row r e) ≡ type_of S r e) × (type_of z r (goes s row r e) ≡ type_of z r e)
  -- So does any map of elements that keeps rank and class, never takes two elements to one, and takes subs exactly onto subs.
  pub carried : (σ : ℕ → ℕ → ℕ) → Carries s cls σ → (r e : ℕ) → e < size s r → (type_of S r (σ r e) ≡ type_of S r e) × (type_of z r (σ r e) ≡ type_of z r e)
