-- This file goes from words to the solid that they hold, with one law each for lists, subs, sups, sizes and the top.
-- Assumes nothing.
use mathlib.Core.Path.{◌≡◌, refl, sym, ◌∙◌, ap}
use mathlib.Core.Logic.{◌⊎◌, inl, inr}
use mathlib.Core.Bool.{false}
use mathlib.Core.List.{List, [], ◌∷◌, map}
use Prim.Native.Nat.{ℕ, suc, ◌+◌, ◌*◌, ◌≤◌, ◌<◌}
use native.Mathlib.Omega.{arith}
use lib.ListN.{length, get_or, get_or-eq_default}
use lib.Dec.{eqb}
use borrow.Author.Tests.{ne_eqb}
use Rattle.spec.specs.Lists.{In, range, holds}
use Rattle.spec.specs.Types.{top, size, subs, sups}
use Rattle.laws.proofs.Lists.{get_d_table, length_table}
use Rattle.ranked.specs.declared.Shape.{Shape}
use Rattle.ranked.specs.Words.{first_at, size_at, total, list_at, subs_in, sups_in, abs_in, Held, subs_word, sups_word}
use Rattle.ranked.specs.Layout.{coordinates}
use Rattle.ranked.specs.Reading.{Lies}
use Rattle.ranked.proofs.Between.{sup_means}
use Rattle.ranked.proofs.Starts.{lt_or_le, first_rises}

-- ---- a list

-- A list does not hold what all its entries are below.
pub none_larger : (n x : ℕ) → n ≤ x → (l : List ℕ) → ((k : ℕ) → get_or l k 0 < n) → holds eqb x l ≡ false
unfolding holds
none_larger n x h [] f = refl
none_larger n x h (y ∷ l) f = rw (ne_eqb y x (λ e. omega (arith, e, f 0)), holds) (none_larger n x h l (λ k. f (suc k)))

-- ---- the solid

module _ (sh : Shape) (w : List ℕ) where
  pub top_is : top (abs_in sh w) ≡ sh.rank
  unfolding abs_in
  top_is = rw length_table (omega arith)

  rank_is : (r : ℕ) → r ≤ sh.rank → get_or (abs_in sh w) r [] ≡ map (subs_in sh w r) (range 0 (size_at sh r))
  unfolding abs_in
  rank_is r h = get_d_table (λ q. map (subs_in sh w q) (range 0 (size_at sh q))) [] (suc sh.rank) r (omega arith)

  pub size_is : (r : ℕ) → r ≤ sh.rank → size (abs_in sh w) r ≡ size_at sh r
  size_is r h = ap length (rank_is r h) ∙ length_table (subs_in sh w r) (size_at sh r)

  -- No rank stands above the top.
  pub size_past : (r : ℕ) → sh.rank < r → size (abs_in sh w) r ≡ 0
  unfolding abs_in
  size_past r h = ap length (get_or-eq_default (abs_in sh w) [] (rw (length_table (λ q. map (subs_in sh w q) (range 0 (size_at sh q)))) h))

  pub subs_is : (r e : ℕ) → r ≤ sh.rank → e < size_at sh r → subs (abs_in sh w) r e ≡ subs_in sh w r e
  unfolding subs
  subs_is r e h k = ap (λ (l : List (List ℕ)). get_or l e []) (rank_is r h) ∙ get_d_table (subs_in sh w r) [] (size_at sh r) e k

module _ (sh : Shape) (w : List ℕ) (h : Held sh w) where
  -- A rank above the top has no elements, in the solid and by its starts.
  pub sizes_are : (r : ℕ) → size (abs_in sh w) r ≡ size_at sh r
  sizes_are r = go (lt_or_le sh.rank r)
    where
      go : (sh.rank < r) ⊎ (r ≤ sh.rank) → size (abs_in sh w) r ≡ size_at sh r
      go (inr q) = size_is sh w r q
      go (inl q) = omega (arith, size_past sh w r q, h.rest (suc r) (omega arith))

  -- The coordinates take as many floats as the solid's vertices need.
  pub coordinates_are : size (abs_in sh w) 1 * sh.dimension ≡ coordinates sh
  coordinates_are = ap (λ (n : ℕ). n * sh.dimension) (sizes_are 1)

  -- The ranks lie one after another.
  pub in_order_lem : (a b : ℕ) → a ≤ b → b ≤ suc sh.rank → first_at sh a ≤ first_at sh b
  in_order_lem = first_rises sh h.some

  -- An element's number over all ranks is below the number of all elements.
  pub number_in : (r e : ℕ) → r ≤ sh.rank → e < size_at sh r → first_at sh r + e < total sh
  number_in r e q k = omega (arith, in_order_lem (suc r) (suc sh.rank) (omega arith) (omega arith))

  pub subs_lie : (r e : ℕ) → r ≤ sh.rank → e < size_at sh r → Lies w (subs_word (first_at sh r) e)
  subs_lie r e q k =
      let n = number_in r e q k in
      record { head = omega (arith, h.room); inside = h.subs_inside (first_at sh r + e) n }

  pub sups_lie : (r e : ℕ) → r ≤ sh.rank → e < size_at sh r → Lies w (sups_word (first_at sh r) e)
  sups_lie r e q k =
      let n = number_in r e q k in
      record { head = omega (arith, h.room); inside = h.sups_inside (first_at sh r + e) n }

  -- The lists in the words are those of the solid.
  pub subs-listed : (r e : ℕ) → r ≤ sh.rank → e < size_at sh r → list_at w (subs_word (first_at sh r) e) ≡ subs (abs_in sh w) r e
  unfolding subs_in
  subs-listed r e q k = sym (subs_is sh w r e q k)

  pub sups-listed : (r e : ℕ) → r ≤ sh.rank → e < size_at sh r → list_at w (sups_word (first_at sh r) e) ≡ sups (abs_in sh w) r e
  unfolding sups_in
  sups-listed r e q k = h.derived r e q k

  -- "Subs of an element lie one rank below, sups one above."
  pub sub_in : (r e x : ℕ) → suc r ≤ sh.rank → In x (subs (abs_in sh w) (suc r) e) → x < size_at sh r
  sub_in r e x q m = rw (size_is sh w r (omega arith)) at (h.sound.below r e x m)

  pub sup_in : (r e x : ℕ) → suc r ≤ sh.rank → In x (sups (abs_in sh w) r e) → x < size_at sh (suc r)
  sup_in r e x q m = rw (size_is sh w (suc r) q) at (sup_means (abs_in sh w) r x e m).0
