-- This file says where an element's distance class stands among all, and which elements share one.
-- Assumes nothing.
use mathlib.Core.Path.{◌≡◌, refl, ap, ap₂, ◌∙◌}
use mathlib.Core.List.{List, [], ◌∷◌, map}
use Prim.Native.Nat.{ℕ, zero, suc, ◌+◌, ◌-◌, ◌≤◌, ◌<◌}
use native.Mathlib.Nat.{add-zero}
use native.Mathlib.Omega.{arith}
use lib.ListN.{length, get_or, take, drop, length-append}
use lib.Seq.{drop-drop, get_or-drop, get_or-take}
use lib.Dec.{eqb}
use lib.Ieee.{nan}
use Rattle.spec.specs.Lists.{range, sum, join}
use Rattle.spec.specs.Types.{top, size, proper_ranks, elements}
use Rattle.spec.specs.Hull.{classes, class_numbers}
use Rattle.spec.specs.Solid.{Concrete}
use Rattle.spec.specs.Classes.{distance_of, distances, by_rank, class_table, by_table}
use Rattle.laws.proofs.Lists.{length_table}
use Rattle.ranked.specs.declared.Shape.{Shape}
use Rattle.ranked.specs.Words.{abs_in, Held}
use Rattle.ranked.specs.Layout.{before}
use Rattle.geometry.specs.Classes.{same_class}
use Rattle.geometry.proofs.ClassNumbers.{share_class}
use Rattle.geometry.specs.Solids.{before_in}
use Rattle.ranked.proofs.Counted.{sizes_sum}

-- ---- parts one after another

-- Part k of a list, cut into parts of the sizes that f gives from a on, follows the parts before it.
part_of : {A : Type 0} (f : ℕ → ℕ) (a n k : ℕ) (l : List A) → k < n
    → get_or (by_rank (map f (range a n)) l) k [] ≡ take (f (a + k)) (drop (sum (map f (range a k))) l)
unfolding by_rank range sum
part_of f a zero k l h = absurd (omega arith)
part_of f a (suc n) zero l h = rw (add-zero a)
part_of f a (suc n) (suc k) l h =
    let e : suc a + k ≡ a + suc k = omega arith in
    part_of f (suc a) n k (drop (f a) l) (omega arith) ∙ rw (e, drop-drop (sum (map f (range (suc a) k))) (f a) l)

sum_below : (f : ℕ → ℕ) (a n k : ℕ) → k < n → sum (map f (range a k)) + f (a + k) ≤ sum (map f (range a n))
unfolding range sum
sum_below f a zero k h = absurd (omega arith)
sum_below f a (suc n) zero h = rw (add-zero a) (omega arith)
sum_below f a (suc n) (suc k) h =
    let e : suc a + k ≡ a + suc k = omega arith in
    let i = sum_below f (suc a) n k (omega arith) in
    omega (arith, ap f e)

length-join : {A : Type 0} (g : ℕ → List A) (f : ℕ → ℕ) → ((r : ℕ) → length (g r) ≡ f r) → (l : List ℕ) → length (join (map g l)) ≡ sum (map f l)
unfolding join sum
length-join g f h [] = refl
length-join g f h (r ∷ l) = length-append (g r) (join (map g l)) ∙ ap₂ ◌+◌ (h r) (length-join g f h l)

-- ---- a solid's elements

module _ (c : Concrete) where
  pub length-distances : length (distances c) ≡ elements c.abs
  unfolding distances elements
  length-distances = length-join (λ r. map (distance_of c r) (range 0 (size c.abs r))) (λ r. size c.abs r) (λ r. length_table (distance_of c r) (size c.abs r)) (proper_ranks c.abs)

  module _ (r : ℕ) (low : 1 ≤ r) (high : r < top c.abs) where
    lies : (e : ℕ) → e < size c.abs r → before_in c.abs r + e < length (distances c)
    unfolding before_in elements proper_ranks
    lies e h =
        let q : 1 + (r - 1) ≡ r = omega arith in
        let k = sum_below (λ i. size c.abs i) 1 (top c.abs - 1) (r - 1) (omega arith) in
        omega (arith, length-distances, rw q at k)

    number_at : (e : ℕ) → e < size c.abs r → by_table (class_table c) r e ≡ get_or (class_numbers (distances c)) (before_in c.abs r + e) 0
    unfolding class_table before_in proper_ranks
    number_at e h =
        let q : suc (r - 1) ≡ r = omega arith in
        let q1 : 1 + (r - 1) ≡ r = omega arith in
        let ns = class_numbers (distances c) in
        let b = sum (map (λ i. size c.abs i) (range 1 (r - 1))) in
        let p : get_or (class_table c) (suc (r - 1)) [] ≡ take (size c.abs (1 + (r - 1))) (drop b ns) =
        part_of (λ i. size c.abs i) 1 (top c.abs - 1) (r - 1) ns (omega arith) in
        let p' : get_or (class_table c) r [] ≡ take (size c.abs r) (drop b ns) = rw (q, q1) at p in
        ap (λ (l : List ℕ). get_or l e 0) p' ∙ get_or-take (size c.abs r) (drop b ns) e 0 h ∙ get_or-drop b ns e 0

-- Two elements of a proper rank share a class exactly when their class cells are one class.
pub same_class-at : (c : Concrete) (r e g : ℕ) → 1 ≤ r → r < top c.abs → e < size c.abs r → g < size c.abs r
    → eqb (by_table (class_table c) r e) (by_table (class_table c) r g)
    ≡ same_class (get_or (classes (distances c)) (before_in c.abs r + e) nan) (get_or (classes (distances c)) (before_in c.abs r + g) nan)
same_class-at c r e g low high he hg =
    ap₂ eqb (number_at c r low high e he) (number_at c r low high g hg)
    ∙ share_class (distances c) (before_in c.abs r + e) (before_in c.abs r + g) (lies c r low high e he) (lies c r low high g hg)

-- The offsets say how many lie below a rank.
pub before_is : (sh : Shape) (w : List ℕ) → Held sh w → (r : ℕ) → 1 ≤ r → r ≤ suc sh.rank → before_in (abs_in sh w) r ≡ before sh r
unfolding before_in
before_is sh w h r low high =
    let q : 1 + (r - 1) ≡ r = omega arith in
    rw q at (sizes_sum sh w h 1 (r - 1) (omega arith))
