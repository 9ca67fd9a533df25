-- The tests of 8, 10 and 11 stand beside the definitions.
-- Assumes nothing.
use Rattle.std.specs.Prelude.{None, Option, Some}
use Rattle.std.specs.Option.{MatchOption}
use mathlib.Core.Path.{◌≡◌, refl, sym, ap, ◌∙◌}
use mathlib.Core.Logic.{inl, inr}
use Prim.Native.Nat.{ℕ, zero, suc, ◌-◌, ◌≤◌, ◌<◌}
use mathlib.Core.Bool.{Bool, true, false, ◌&&◌}
use Rattle.laws.proofs.Options.{none-ne-some, some-injective}
use mathlib.Core.List.{List, [], ◌∷◌}
use native.Mathlib.Omega.{arith}
use lib.ListN.{length, get_or, take, drop, drop_of_length-le}
use lib.Seq.{drop-cons}
use lib.Dec.{leb, eqb}
use lib.Ieee.{Float, lt}
use Rattle.spec.specs.Lists.{In, range}
use Rattle.spec.specs.Types.{top, size}
use Rattle.spec.specs.Float.{eps}
use Rattle.spec.specs.Solid.{Concrete}
use Rattle.spec.specs.Classes.{distance_of}
use Rattle.spec.specs.Search.{first_far, full}
use Rattle.laws.proofs.Lists.{length-range, get_d_range, of_range}
use Rattle.ranked.specs.declared.Shape.{Shape}
use Rattle.ranked.specs.Words.{size_at, lists_of, abs_in}
use Rattle.ranked.specs.declared.solid.Realized.{Realized}
use Rattle.ranked.specs.Layout.{coordinates, solid_in}
use Rattle.ranked.specs.Lying.{concrete_of}
use Rattle.ranked.proofs.Solids.{top_is, size_is}

-- ---- the solid in words and floats

-- The solid stays while its lists and its coordinates do.
pub solid-kept : (sh : Shape) (ws vs : List ℕ) (fs gs : List Float) → lists_of sh vs ≡ lists_of sh ws
    → take (coordinates sh) gs ≡ take (coordinates sh) fs → solid_in sh vs gs ≡ solid_in sh ws fs
solid-kept sh ws vs fs gs e p = rw (e, p)

-- The test behind refusal 8 reads rank and dimension from the shape.
pub full_is : (sh : Shape) (ws : List ℕ) (fs : List Float) → full (solid_in sh ws fs) ≡ leb 2 sh.rank && eqb sh.dimension (sh.rank - 1)
unfolding full
full_is sh ws fs = rw (top_is sh (lists_of sh ws))

-- The facets are as many as the shape says.
pub facets_are : (sh : Shape) (w : List ℕ) → 2 ≤ sh.rank → size (abs_in sh w) (top (abs_in sh w) - 1) ≡ size_at sh (sh.rank - 1)
facets_are sh w h = rw (top_is sh w) (size_is sh w (sh.rank - 1) (omega arith))

-- ---- 10

module _ (c : Concrete) where
  abbrev pub far : ℕ → Bool
  far f = lt eps (distance_of c (top c.abs - 1) f)

  far_here : (f : ℕ) (fs : List ℕ) → far f ≡ true → first_far c (f ∷ fs) ≡ Some f
  unfolding first_far
  far_here f fs e = rw (e, first_far)

  far_past : (f : ℕ) (fs : List ℕ) → far f ≡ false → first_far c (f ∷ fs) ≡ first_far c fs
  unfolding first_far
  far_past f fs e = rw (e, first_far)

  -- After k facets, those left give what all give.
  abbrev FarKept : ℕ → ℕ → Type 0
  FarKept n k = first_far c (drop k (range 0 n)) ≡ first_far c (range 0 n)

  module _ (n k : ℕ) (h : k < n) (inv : FarKept n k) where
    next : drop k (range 0 n) ≡ k ∷ drop (suc k) (range 0 n)
    next =
        let at : get_or (range 0 n) k 0 ≡ k = get_d_range 0 n 0 k h ∙ omega arith in
        rw at at (drop-cons (range 0 n) k 0 (rw length-range h))

    far-found : far k ≡ true → Some k ≡ first_far c (range 0 n)
    unfolding next
    far-found e = sym (ap (first_far c) next ∙ far_here k (drop (suc k) (range 0 n)) e) ∙ inv

    far-next : far k ≡ false → FarKept n (suc k)
    unfolding next
    far-next e = sym (ap (first_far c) next ∙ far_past k (drop (suc k) (range 0 n)) e) ∙ inv

  far-end : (n k : ℕ) → n ≤ k → FarKept n k → None ≡ first_far c (range 0 n)
  unfolding first_far
  far-end n k h inv = let l : length (range 0 n) ≤ k = omega (arith, length-range 0 n) in rw (drop_of_length-le (range 0 n) {i = k} l) at inv

  far-kept : (n k : ℕ) → k ≤ n → ((j : ℕ) → 0 ≤ j → j < k → far j ≡ false) → FarKept n k
  far-kept n zero h p = refl
  far-kept n (suc k) h p = far-next n k (omega arith) (far-kept n k (omega arith) (λ j l m. p j l (omega arith))) (p k (omega arith) (omega arith))

  -- What the library finds is the first facet that is far.
  pub far-first : (n : ℕ) (r : Option ℕ)
      → MatchOption r ((k : ℕ) → 0 ≤ k → k < n → far k ≡ false) (λ i. (0 ≤ i) × (i < n) × (far i ≡ true) × ((k : ℕ) → 0 ≤ k → k < i → far k ≡ false))
      → r ≡ first_far c (range 0 n)
  far-first n None p = far-end n n (omega arith) (far-kept n n (omega arith) p)
  far-first n (Some i) (z, m, t, p) = far-found n i m (far-kept n i (omega arith) p) t

  -- The facet that is found is one of those asked for.
  far_in : (fs : List ℕ) (f : ℕ) → first_far c fs ≡ Some f → In f fs
  unfolding first_far
  far_in [] f e = absurd (none-ne-some f e)
  far_in (g ∷ fs) f e = go (far g) e (λ k. far_in fs f k)
    where
      go : (b : Bool) → elim b as (λ z. Option ℕ) [ true ↦ Some g | false ↦ first_far c fs ] ≡ Some f → (first_far c fs ≡ Some f → In f fs) → In f (g ∷ fs)
      go true q k = inl (sym (some-injective g f q))
      go false q k = inr (k q)

  pub far-low : (n f : ℕ) → first_far c (range 0 n) ≡ Some f → f < n
  far-low n f e = omega (arith, (of_range 0 n f (far_in (range 0 n) f e)).1)

-- The test is as the program makes it.
pub test_is : (s : Realized) (f : ℕ) (x : Float) (b : Bool) → x ≡ distance_of (concrete_of s) (s.solid.shape.rank - 1) f → lt eps x ≡ b → far (concrete_of s) f ≡ b
test_is s f x b e t = rw (top_is s.solid.shape s.solid.lists.now, ← e) t
