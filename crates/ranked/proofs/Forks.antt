-- The elements between two elements are met going down from the upper or up from the lower.
-- Assumes nothing.
use mathlib.Core.Path.{◌≡◌, sym, ◌∙◌, ap}
use mathlib.Core.List.{List}
use Prim.Native.Nat.{ℕ, suc, ◌+◌, ◌-◌, ◌<◌}
use native.Mathlib.Numerals.{add-one}
use native.Mathlib.Omega.{arith}
use lib.Dec.{eqb}
use Rattle.spec.specs.Lists.{In, holds, keep}
use Rattle.spec.specs.Types.{Solid, subs, sups}
use Rattle.spec.specs.Solid.{between}
use Rattle.ranked.specs.declared.Shape.{Shape}
use Rattle.ranked.specs.Words.{size_at, abs_in, Held}
use Rattle.ranked.proofs.Solids.{size_is, sub_in, sup_in}
use Rattle.ranked.proofs.Between.{upward, between-upward}

-- Rank r has a rank below it and one above, and the lists l are read at an element of one of the three.
module _ (sh : Shape) (w : List ℕ) (h : Held sh w) (r : ℕ) (a : 0 < r) (b : r < sh.rank) where
  abbrev s : Solid
  s = abs_in sh w

  up-one : suc (r - 1) ≡ r
  up-one = omega arith

  -- What is read in a list of subs lies one rank below, and what is read in a list of sups one above.
  pub sub_above : (g : ℕ) (l : List ℕ) → l ≡ subs s (r + 1) g → (y : ℕ) → In y l → y < size_at sh r
  sub_above g l e y m = sub_in sh w h r g y b (rw (e, add-one) at m)

  pub sub_under : (f : ℕ) (l : List ℕ) → l ≡ subs s r f → (x : ℕ) → In x l → x < size_at sh (r - 1)
  sub_under f l e x m = sub_in sh w h (r - 1) f x (omega arith) (rw up-one (rw e at m))

  pub sup_under : (x : ℕ) (l : List ℕ) → l ≡ sups s (r - 1) x → (y : ℕ) → In y l → y < size_at sh r
  sup_under x l e y m = rw up-one at (sup_in sh w h (r - 1) x y (omega arith) (rw e at m))

  -- Going down from g and going up from x, the same elements between are met, in the same order.
  pub down_is : (g x : ℕ) (l : List ℕ) → l ≡ subs s (r + 1) g → keep (λ y. holds eqb x (subs s r y)) l ≡ between s r g x
  unfolding between
  down_is g x l e = ap (keep (λ y. holds eqb x (subs s r y))) (rw add-one at e)

  pub up_is : (g x : ℕ) (l : List ℕ) → g < size_at sh (suc r) → l ≡ sups s (r - 1) x → keep (λ y. holds eqb g (sups s r y)) l ≡ between s r g x
  unfolding upward
  up_is g x l k e =
      let same : between s (suc (r - 1)) g x ≡ upward s (r - 1) g x =
      between-upward s h.sound (r - 1) g x (rw (up-one, size_is sh w (suc r) b) k) in
      ap (keep (λ y. holds eqb g (sups s r y))) e ∙ sym (rw up-one at same)
