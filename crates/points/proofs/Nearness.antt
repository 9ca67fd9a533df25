-- In the loops that compare a point with another, axis by axis, and with the points of a list, one by one, what is left gives what the whole gives.
-- Assumes nothing.
use mathlib.Core.Path.{◌≡◌, refl, sym, ap, ap₂, ◌∙◌}
use mathlib.Core.Bool.{Bool, true, false, ◌&&◌}
use mathlib.Core.List.{List, [], ◌∷◌}
use Prim.Native.Nat.{ℕ, zero, suc, ◌+◌, ◌*◌, ◌≤◌, ◌<◌}
use native.Mathlib.Nat.{add-zero}
use native.Mathlib.Numerals.{add-one}
use native.Mathlib.Omega.{arith}
use lib.ListN.{length, get_or, take, drop, length-drop}
use lib.Seq.{drop-cons, drop-length, get_or-take, get_or-drop, length-take-le}
use lib.Ieee.{Float, nan, inf, fin, of_bits, le}
use Rattle.std.specs.List.{list_all, zip}
use Rattle.spec.specs.Limits.{max_magnitude}
use Rattle.spec.specs.Lists.{place}
use Rattle.spec.specs.Float.{eps, abs_f, minus, finite, in_range}
use Rattle.spec.specs.Matrix.{Vector}
use Rattle.spec.specs.Points.{near, find}
use Rattle.points.specs.Guesses.{within}

-- What is not finite is not at most the largest magnitude.
pub in_range_is : (x : Float) → le (abs_f x) max_magnitude ≡ in_range x
unfolding in_range finite abs_f le max_magnitude of_bits
in_range_is nan = refl
in_range_is (inf s) = refl
in_range_is (fin s m e) = refl

-- ---- one point

-- Document 01's test is the one with EPS.
pub near_within : (p q : Vector) → near p q ≡ within eps p q
unfolding near within
near_within [] ys = refl
near_within (x ∷ xs) [] = refl
near_within (x ∷ xs) (y ∷ ys) = ap (λ (r : Bool). elim (le (abs_f (minus x y)) eps) as (λ _. Bool) [ true ↦ r | false ↦ false ]) (near_within xs ys)

-- Tells whether two numbers are within w.
abbrev pub axis_within : Float → Float × Float → Bool
axis_within w z = le (abs_f (minus z.0 z.1)) w

pub within_pairs : (w : Float) (p q : Vector) → list_all (axis_within w) (zip p q) ≡ within w p (take (length p) q)
unfolding within
within_pairs w [] q = refl
within_pairs w (x ∷ p) [] = refl
within_pairs w (x ∷ p) (y ∷ q) = go (le (abs_f (minus x y)) w) (within_pairs w p q)
  where
    go : (b : Bool) → list_all (axis_within w) (zip p q) ≡ within w p (take (length p) q)
        → (b && list_all (axis_within w) (zip p q)) ≡ elim b as (λ _. Bool) [ true ↦ within w p (take (length p) q) | false ↦ false ]
    go true e = e
    go false e = refl

-- Points are not within w where their first axes are not.
first-axis-not : (w : Float) (p q : Vector) → 0 < length p → 0 < length q → le (abs_f (minus (get_or p 0 nan) (get_or q 0 nan))) w ≡ false → false ≡ within w p q
unfolding within
first-axis-not w [] q h k e = absurd (omega arith)
first-axis-not w (x ∷ p) [] h k e = absurd (omega arith)
first-axis-not w (x ∷ p) (y ∷ q) h k e = rw (e, within)

-- ---- the lowest of a list

-- None of the points before k is near.
pub record FoundFrom (ps : List Vector) (q : Vector) (k : ℕ) : Type 0 where
  pub is : k + find (drop k ps) q ≡ find ps q

module _ {ps : List Vector} {q : Vector} where
  pub found_none : FoundFrom ps q 0
  found_none = record { is = omega arith }

  module _ {k : ℕ} (h : k < length ps) (s : FoundFrom ps q k) where
    at : find (drop k ps) q ≡ elim (near (get_or ps k []) q) as (λ _. ℕ) [ true ↦ zero | false ↦ suc (find (drop (suc k) ps) q) ]
    unfolding find place
    at = rw (drop-cons ps k [] h)

    pub found_here : near (get_or ps k []) q ≡ true → k ≡ find ps q
    found_here t = sym (add-zero k) ∙ sym (ap (λ (j : ℕ). k + j) (rw t at at)) ∙ s.is

    pub found_on : near (get_or ps k []) q ≡ false → FoundFrom ps q (k + 1)
    found_on t = rw add-one (record { is = let e : find (drop k ps) q ≡ suc (find (drop (suc k) ps) q) = rw t at at in omega (arith, s.is) })

  -- A list's points are gone through one by one, down to the first.
  pub found_from : (k : ℕ) → k ≤ length ps → ((j : ℕ) → j < k → near (get_or ps j []) q ≡ false) → FoundFrom ps q k
  found_from zero h n = found_none
  found_from (suc k) h n = rw add-one at (found_on (omega arith) (found_from k (omega arith) (λ j g. n j (omega arith))) (n k (omega arith)))

  pub found-end : {k : ℕ} → k ≤ length ps → length ps ≤ k → FoundFrom ps q k → length ps ≡ find ps q
  unfolding find place
  found-end {k} g h s =
      let e : k ≡ length ps = omega arith in
      sym (add-zero (length ps)) ∙ (rw (e, drop-length) at s.is)

-- ---- the parts of a slice

-- Point k is d wide.
pub part-wide : (d : ℕ) (l : Vector) (k : ℕ) → k * d + d ≤ length l → length (take d (drop (k * d) l)) ≡ d
part-wide d l k h = length-take-le d (drop (k * d) l) (omega (arith, length-drop (k * d) l))

-- Point k, of one axis at least, is not near where its first axis is not.
pub first_not : (d : ℕ) (l q : Vector) (k : ℕ) → 1 ≤ d → d ≤ length q → k * d + d ≤ length l →
    le (abs_f (minus (get_or l (k * d) nan) (get_or q 0 nan))) eps ≡ false → false ≡ near (take d (drop (k * d) l)) (take d q)
first_not d l q k low wide h t =
    let p = take d (drop (k * d) l) in
    let long : length p ≡ d = part-wide d l k h in
    let first : get_or p 0 nan ≡ get_or l (k * d) nan = get_or-take d (drop (k * d) l) 0 nan low ∙ get_or-drop (k * d) l 0 nan ∙ ap (λ (i : ℕ). get_or l i nan) (add-zero (k * d)) in
    first-axis-not eps p (take d q) (omega (arith, long)) (omega (arith, length-take-le d q wide))
    (ap₂ (λ (x y : Float). le (abs_f (minus x y)) eps) first (get_or-take d q 0 nan low) ∙ t)
    ∙ sym (near_within p (take d q))

-- Points of no axes are near all.
pub near_flat : (d : ℕ) (p q : Vector) → d ≡ 0 → near (take d p) (take d q) ≡ true
unfolding near
near_flat d p q e = rw e

-- A comparison with a slice tells this of point k.
pub within-part : (w : Float) (d : ℕ) (l q : Vector) (k : ℕ) (p : Vector) → k * d + d ≤ length l → p ≡ take d (drop (k * d) l) →
    within w p (take (length p) q) ≡ within w (take d (drop (k * d) l)) (take d q)
within-part w d l q k p h e =
    let long : length p ≡ d = ap length e ∙ part-wide d l k h in
    ap (λ (n : ℕ). within w p (take n q)) long ∙ ap (λ (v : Vector). within w v (take d q)) e
