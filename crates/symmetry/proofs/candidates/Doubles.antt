-- The points after one are the parts of what is left of the slice, so that they are points of their own.
-- Assumes nothing.
use Rattle.std.specs.Prelude.{Option, None, Some, is_some}
use mathlib.Core.Path.{◌≡◌, refl, sym, ap, ◌∙◌}
use mathlib.Core.Bool.{Bool, true, false, not, false≢true}
use mathlib.Core.List.{List, []}
use Prim.Native.Nat.{ℕ, zero, suc, ◌+◌, ◌-◌, ◌*◌, ◌≤◌, ◌<◌}
use native.Mathlib.Nat.{zero-add, suc-add, zero-mul, suc-mul, add_comm, add-mul}
use native.Mathlib.Numerals.{add-one}
use native.Mathlib.Omega.{arith}
use lib.ListN.{length, get_or, take, drop, length-drop}
use lib.Seq.{drop-drop, take_all}
use lib.Ieee.{Float}
use Rattle.spec.specs.Matrix.{Vector}
use Rattle.spec.specs.Lists.{range, every, holds, no_repeats, parts}
use Rattle.spec.specs.Points.{near, found, find}
use Rattle.laws.proofs.Lists.{of_range}
use Rattle.ranked.proofs.Agree.{every_same}
use Rattle.points.specs.Finding.{found_at}
use Rattle.points.proofs.Parts.{length-parts, part_at}
use Rattle.points.proofs.Finding.{is_found, is_missing}
use Rattle.symmetry.proofs.Apart.{alone_all}

-- ---- in the slice

-- The parts of what follows the first k parts are the parts from part k on.
later : {A : Type 0} (k n d : ℕ) (l : List A) → parts n d (drop (k * d) l) ≡ drop k (parts (k + n) d l)
unfolding parts
later zero n d l = rw (zero-mul, zero-add) refl
later (suc k) n d l =
    rw (suc-mul k d, add_comm (k * d) d, ← drop-drop (k * d) d l, suc-add k n) (later k n d (drop d l))

module _ (n d i : ℕ) (l : List Float) (h : i < n) (f : n * d ≤ length l) where
  -- This is what is left of the slice.
  abbrev rest : List Float
  rest = take (length l - (i + 1) * d) (drop ((i + 1) * d) l)

  rest_is : rest ≡ drop ((i + 1) * d) l
  rest_is = take_all (length l - (i + 1) * d) (drop ((i + 1) * d) l) (rw length-drop (omega arith))

  pub later_fits : (n - (i + 1)) * d ≤ length rest
  later_fits =
      let k = n - (i + 1) in
      let e : k + (i + 1) ≡ n = omega arith in
      rw rest_is (omega (arith, length-drop ((i + 1) * d) l, f, ap (λ z. z * d) e, add-mul k (i + 1) d))

  later_is : parts (n - (i + 1)) d rest ≡ drop (suc i) (parts n d l)
  later_is = rw rest_is (go (n - (i + 1)) (omega arith))
    where
      go : (k : ℕ) → suc i + k ≡ n → parts k d (drop ((i + 1) * d) l) ≡ drop (suc i) (parts n d l)
      go k e = rw (add-one i) (later (suc i) k d l ∙ ap (λ (x : ℕ). drop (suc i) (parts x d l)) e)

  -- The code's answer for point i among the later ones is that of `find`.
  module _ (q : Vector) (is : take d q ≡ take d (drop (i * d) l)) (r : Option ℕ) (e : r ≡ found_at (n - (i + 1)) (find (parts (n - (i + 1)) d rest) (take d q))) where
    same : found_at (n - (i + 1)) (find (drop (suc i) (parts n d l)) (get_or (parts n d l) i [])) ≡ r
    same =
        sym
        (e
        ∙ ap (λ (ps : List Vector). found_at (n - (i + 1)) (find ps (take d q))) later_is
        ∙ ap (λ (p : Vector). found_at (n - (i + 1)) (find (drop (suc i) (parts n d l)) p)) (is ∙ sym (part_at n d l i h)))

    many : length (drop (suc i) (parts n d l)) ≡ n - (i + 1)
    many = length-drop (suc i) (parts n d l) ∙ omega (arith, length-parts n d l)

    pub single_is : (b : Bool) → is_some r ≡ not b → b ≡ not (holds near (take d (drop (i * d) l)) (drop (suc i) (parts n d l)))
    unfolding found
    single_is b z = go r refl b z ∙ ap (λ (p : Vector). not (holds near p (drop (suc i) (parts n d l)))) (part_at n d l i h)
      where
        go : (o : Option ℕ) → r ≡ o → (t : Bool) → is_some o ≡ not t → t ≡ not (holds near (get_or (parts n d l) i []) (drop (suc i) (parts n d l)))
        go (Some k) q false y = ap not (sym (is_found _ _ many (same ∙ q)))
        go (Some k) q true y = absurd (false≢true (sym y))
        go None q false y = absurd (false≢true y)
        go None q true y = ap not (sym (is_missing _ _ many (same ∙ q)))

-- No point is near a later one exactly where each is single.
pub singles_are : (n d : ℕ) (l : List Float) → every (λ i. not (holds near (take d (drop (i * d) l)) (drop (suc i) (parts n d l)))) (range 0 n) ≡ no_repeats near (parts n d l)
singles_are n d l =
    every_same _ _ (range 0 n) (λ i m. ap (λ (p : Vector). not (holds near p (drop (suc i) (parts n d l)))) (sym (part_at n d l i (omega (arith, of_range 0 n i m)))))
    ∙ alone_all near [] (parts n d l) 0 n (omega (arith, length-parts n d l))
