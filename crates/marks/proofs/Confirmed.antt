-- The mark's clauses are those that the program asks for.
-- Assumes nothing.
use mathlib.Core.Path.{◌≡◌, refl}
use mathlib.Core.Bool.{Bool, true, false, ◌&&◌, false≢true}
use mathlib.Core.List.{List}
use Prim.Native.Nat.{ℕ}
use lib.ListN.{length}
use lib.Dec.{eqb, ltb}
use borrow.Author.Tests.{eq-eqb}
use Rattle.spec.specs.Lists.{range, every, no_repeats}
use Rattle.spec.specs.Types.{Solid, size, proper_ranks, Classes}
use Rattle.spec.specs.Mark.{sets_apart, carries_element, marked}
use Rattle.spec.specs.Search.{mark_of}
use Rattle.laws.proofs.Counts.{numbers}
use Rattle.marks.specs.Rows.{permutes}

-- Tells whether the row carries every element of rank r.
abbrev pub carries_at : Solid → Classes → List ℕ → ℕ → Bool
carries_at s cls row r = every (carries_element s cls row r) (range 0 (size s r))

-- Tells whether it carries every proper element.
abbrev pub carries_all : Solid → Classes → List ℕ → Bool
carries_all s cls row = every (carries_at s cls row) (proper_ranks s)

second : (a b c d e : Bool) → a && b && c && d && e ≡ true → b ≡ true
second true true c d e h = refl
second true false c d e h = h
second false b c d e h = absurd (false≢true h)

-- A confirmed row has an entry for each vertex.
pub marked-full : (s : Solid) (cls : Classes) (row : List ℕ) → marked s cls row ≡ true → length row ≡ size s 1
unfolding marked
marked-full s cls row ok = numbers.sound (length row) (size s 1) (second (sets_apart s) _ _ _ _ ok)

regroup : (a c d e : Bool) → (a && true && c && d && e) ≡ (a && (c && d) && e)
regroup true c d e = refl
regroup false c d e = refl

module _ (s : Solid) (cls : Classes) (row : List ℕ) (full : length row ≡ size s 1) where
  pub marked_is : marked s cls row ≡ (sets_apart s && permutes row && carries_all s cls row)
  unfolding marked permutes
  marked_is =
      rw (eq-eqb (length row) (size s 1) full, ← full)
      (regroup (sets_apart s) (every (λ v. ltb v (length row)) row) (no_repeats eqb row) (carries_all s cls row))

  pub no_sets : sets_apart s ≡ false → 0 ≡ mark_of s cls row
  unfolding mark_of
  no_sets e = rw (mark_of, marked_is, e)

  module _ (apart : sets_apart s ≡ true) where
    pub no_row : permutes row ≡ false → 0 ≡ mark_of s cls row
    unfolding mark_of
    no_row e = rw (mark_of, marked_is, apart, e)

    -- A test that passes counts as 1, and one that fails as 0.
    pub all_else : permutes row ≡ true → (b : Bool) → b ≡ carries_all s cls row → elim b [ true ↦ 1 | false ↦ 0 ] ≡ mark_of s cls row
    unfolding mark_of
    all_else e b q = rw (mark_of, marked_is, apart, e, q)
