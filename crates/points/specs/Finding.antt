-- The answers of the code that looks for something in a list are given here in terms of document 01's numbers.
-- Assumes nothing.
use Rattle.std.specs.Prelude.{true, false, List, [], ◌∷◌, ℕ, ltb, Option, Some, None}

-- The definitions of `spec` give the number k of what is found in a list of n, and n itself where nothing is found. This is the answer for such a
-- number, so that `Some k` stands for a number k below n, and `None` for n.
unfoldable pub found_at : ℕ → ℕ → Option ℕ
found_at n k = elim (ltb k n) as (λ _. Option ℕ) [ true ↦ Some k | false ↦ None ]

-- Gives the answer of a scan that ends at the first of the numbers that pass.
abbrev pub first_of : List ℕ → Option ℕ
first_of [] = None
first_of (k ∷ ks) = Some k
