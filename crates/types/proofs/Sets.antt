-- This file has lists one after another, and cells that are written one after another.
-- Assumes nothing.
use mathlib.Core.Path.{◌≡◌, refl, sym, ap, ◌∙◌}
use mathlib.Core.List.{List, [], ◌∷◌, ◌++◌, append_assoc}
use Prim.Native.Nat.{ℕ, zero, suc, ◌+◌, ◌≤◌, ◌<◌}
use native.Mathlib.Omega.{arith}
use native.Mathlib.Nat.{add-zero}
use lib.ListN.{length, get_or, take, drop, set, length-append, get_or-append}
use lib.Seq.{sets, sets-eq, set-set, set_comm, get_or-append-add, length-take-le}
use Rattle.spec.specs.Lists.{join, written}

module _ {A : Type 0} where
  pub join-append : (a b : List (List A)) → join (a ++ b) ≡ join a ++ join b
  unfolding join
  join-append [] b = refl
  join-append (l ∷ a) b = ap (λ (x : List A). l ++ x) (join-append a b) ∙ sym (append_assoc l (join a) (join b))

  -- More cells are written behind them.
  pub sets_append : (l : List A) (i : ℕ) (a b : List A) → sets l i (a ++ b) ≡ sets (sets l i a) (i + length a) b
  sets_append l i [] b = rw add-zero refl
  sets_append l i (x ∷ a) b =
      let e : suc i + length a ≡ i + suc (length a) = omega arith in
      sets_append (set l i x) (suc i) a b ∙ ap (λ (k : ℕ). sets (sets (set l i x) (suc i) a) k b) e

  set_below : (l : List A) (k : ℕ) (vs : List A) (i : ℕ) (x : A) → i < k → set (sets l k vs) i x ≡ sets (set l i x) k vs
  set_below l k [] i x h = refl
  set_below l k (v ∷ vs) i x h =
      set_below (set l k v) (suc k) vs i x (omega arith) ∙ ap (λ (z : List A). sets z (suc k) vs) (set_comm l k i v x (λ (e : k ≡ i). omega arith))

  -- One of the cells is written anew.
  pub set_sets : (l : List A) (i : ℕ) (a : List A) (j : ℕ) (x : A) → j < length a → set (sets l i a) (i + j) x ≡ sets l i (set a j x)
  set_sets l i [] j x h = absurd (omega arith)
  set_sets l i (y ∷ a) zero x h =
      rw add-zero (set_below (set l i y) (suc i) a i x (omega arith) ∙ ap (λ (z : List A). sets z (suc i) a) (set-set l i y x))
  set_sets l i (y ∷ a) (suc j) x h =
      let e : i + suc j ≡ suc i + j = omega arith in
      ap (λ (k : ℕ). set (sets (set l i y) (suc i) a) k x) e ∙ set_sets (set l i y) (suc i) a j x (omega arith)

  pub get_d_sets : (l : List A) (i : ℕ) (a : List A) (j : ℕ) (d : A) → j < length a → i + length a ≤ length l → get_or (sets l i a) (i + j) d ≡ get_or a j d
  get_d_sets l i a j d h k =
      let n : length (take i l) ≡ i = length-take-le i l (omega arith) in
      let e : length (take i l) + j ≡ i + j = omega arith in
      ap (λ (z : List A). get_or z (i + j) d) (sets-eq a l i k)
      ∙ get_or-append (take i l ++ a) (drop (i + length a) l) d (i + j) (rw length-append (omega arith))
      ∙ ap (λ (z : ℕ). get_or (take i l ++ a) z d) (sym e)
      ∙ get_or-append-add (take i l) a j d

  -- Cells set from the first on are written over the list.
  pub sets_written : (l a : List A) → length a ≤ length l → sets l 0 a ≡ written a l
  unfolding written
  sets_written l a h =
      let e : 0 + length a ≡ length a = omega arith in
      sets-eq a l 0 (omega arith) ∙ ap (λ (k : ℕ). a ++ drop k l) e
