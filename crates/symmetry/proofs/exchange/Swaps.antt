-- Words and lists change places, and this file says what stands where then.
-- Assumes nothing.
use mathlib.Core.Path.{◌≡◌, ◌∙◌, ap}
use mathlib.Core.Logic.{◌≢◌}
use Prim.Native.Nat.{ℕ, ◌+◌, ◌*◌, ◌<◌}
use mathlib.Core.List.{List}
use native.Mathlib.Omega.{arith}
use native.Mathlib.Decide.{ℕ_discrete}
use lib.ListN.{length, get_or, set, take, drop, length-set}
use lib.Seq.{get_or-set_same, get_or-set_other, take-set-lt, drop-set-lt, get_or-take}
use Rattle.symmetry.specs.Swapping.{swapped, swapped_lists}

-- ---- two words

module _ (w : List ℕ) (i j : ℕ) where
  swapped-length : length (swapped w i j) ≡ length w
  unfolding swapped
  swapped-length = length-set (set w i (get_or w j 0)) j (get_or w i 0) ∙ length-set w i (get_or w j 0)

  other : (p : ℕ) → p ≢ i → p ≢ j → get_or (swapped w i j) p 0 ≡ get_or w p 0
  unfolding swapped
  other p a b = get_or-set_other (set w i (get_or w j 0)) j p (get_or w i 0) 0 b ∙ get_or-set_other w i p (get_or w j 0) 0 a

  second : j < length w → get_or (swapped w i j) j 0 ≡ get_or w i 0
  unfolding swapped
  second h = get_or-set_same (set w i (get_or w j 0)) j (get_or w i 0) 0 (rw length-set h)

  first : i < length w → j < length w → get_or (swapped w i j) i 0 ≡ get_or w j 0
  unfolding swapped
  first h k = go (ℕ_discrete i j)
    where
      go : Dec (i ≡ j) → get_or (swapped w i j) i 0 ≡ get_or w j 0
      go (yes p) = ap (λ (q : ℕ). get_or (swapped w i j) q 0) p ∙ second k ∙ ap (λ (q : ℕ). get_or w q 0) p
      go (no n) = get_or-set_other (set w i (get_or w j 0)) j i (get_or w i 0) 0 n ∙ get_or-set_same w i (get_or w j 0) 0 h

  module _ (n : ℕ) (hi : i < n) (hj : j < n) where
    swapped-drop : drop n (swapped w i j) ≡ drop n w
    unfolding swapped
    swapped-drop = drop-set-lt n (set w i (get_or w j 0)) j (get_or w i 0) hj ∙ drop-set-lt n w i (get_or w j 0) hi

    swapped-take : take n (swapped w i j) ≡ swapped (take n w) i j
    unfolding swapped
    swapped-take =
        take-set-lt n (set w i (get_or w j 0)) j (get_or w i 0) hj
        ∙ rw (take-set-lt n w i (get_or w j 0) hi, get_or-take n w i 0 hi, get_or-take n w j 0 hj)

-- ---- two lists

-- Element k of w' has the start and the length that element j of w has.
abbrev pub CameFrom : List ℕ → List ℕ → ℕ → ℕ → Type 0
CameFrom w w' k j = (get_or w' (4 * k) 0 ≡ get_or w (4 * j) 0) × (get_or w' (4 * k + 1) 0 ≡ get_or w (4 * j + 1) 0)

module _ (w : List ℕ) (g h : ℕ) where
  abbrev one : List ℕ
  one = swapped w (4 * g) (4 * h)

  pub lists_length : length (swapped_lists w (4 * g) (4 * h)) ≡ length w
  unfolding swapped_lists
  lists_length = swapped-length one (4 * g + 1) (4 * h + 1) ∙ swapped-length w (4 * g) (4 * h)

  pub stays : (k : ℕ) → k ≢ g → k ≢ h → CameFrom w (swapped_lists w (4 * g) (4 * h)) k k
  unfolding swapped_lists
  stays k a b = (
    other one (4 * g + 1) (4 * h + 1) (4 * k) (λ q. omega arith) (λ q. omega arith)
        ∙ other w (4 * g) (4 * h) (4 * k) (λ q. a (omega arith)) (λ q. b (omega arith)),
    other one (4 * g + 1) (4 * h + 1) (4 * k + 1) (λ q. a (omega arith)) (λ q. b (omega arith))
        ∙ other w (4 * g) (4 * h) (4 * k + 1) (λ q. omega arith) (λ q. omega arith),
  )

  module _ (hg : 4 * g + 1 < length w) (hh : 4 * h + 1 < length w) where
    pub comes_first : CameFrom w (swapped_lists w (4 * g) (4 * h)) g h
    unfolding swapped_lists
    comes_first =
        let n = swapped-length w (4 * g) (4 * h) in (
          other one (4 * g + 1) (4 * h + 1) (4 * g) (λ q. omega arith) (λ q. omega arith) ∙ first w (4 * g) (4 * h) (omega arith) (omega arith),
          first one (4 * g + 1) (4 * h + 1) (omega arith) (omega arith) ∙ other w (4 * g) (4 * h) (4 * h + 1) (λ q. omega arith) (λ q. omega arith),
        )

    pub comes_second : CameFrom w (swapped_lists w (4 * g) (4 * h)) h g
    unfolding swapped_lists
    comes_second =
        let n = swapped-length w (4 * g) (4 * h) in (
          other one (4 * g + 1) (4 * h + 1) (4 * h) (λ q. omega arith) (λ q. omega arith) ∙ second w (4 * g) (4 * h) (omega arith),
          second one (4 * g + 1) (4 * h + 1) (omega arith) ∙ other w (4 * g) (4 * h) (4 * g + 1) (λ q. omega arith) (λ q. omega arith),
        )

  module _ (n : ℕ) (hg : 4 * g + 1 < n) (hh : 4 * h + 1 < n) where
    pub lists-drop : drop n (swapped_lists w (4 * g) (4 * h)) ≡ drop n w
    unfolding swapped_lists
    lists-drop = swapped-drop one (4 * g + 1) (4 * h + 1) n hg hh ∙ swapped-drop w (4 * g) (4 * h) n (omega arith) (omega arith)

    pub lists-take : take n (swapped_lists w (4 * g) (4 * h)) ≡ swapped_lists (take n w) (4 * g) (4 * h)
    unfolding swapped_lists
    lists-take =
        swapped-take one (4 * g + 1) (4 * h + 1) n hg hh
        ∙ ap (λ (v : List ℕ). swapped v (4 * g + 1) (4 * h + 1)) (swapped-take w (4 * g) (4 * h) n (omega arith) (omega arith))

-- One swap comes after the other.
pub lists_are : (w w₁ w₂ : List ℕ) (i j : ℕ) → w₁ ≡ swapped w i j → w₂ ≡ swapped w₁ (i + 1) (j + 1) → w₂ ≡ swapped_lists w i j
unfolding swapped_lists
lists_are w w₁ w₂ i j e₁ e₂ = rw (← e₁) e₂
