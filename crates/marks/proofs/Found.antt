-- The element whose subs are the images of an element's own is looked for among those over the image of its first sub.
-- Assumes nothing.
use Rattle.std.specs.Prelude.{Some}
use Rattle.std.specs.List.{find}
use mathlib.Core.Path.{◌≡◌, refl, ◌∙◌}
use mathlib.Core.Bool.{Bool, true, false, cond}
use mathlib.Core.List.{List, [], ◌∷◌}
use Prim.Native.Nat.{ℕ, suc, ◌+◌, ◌≤◌, ◌<◌}
use native.Mathlib.Numerals.{add-one}
use lib.ListN.{length, get_or}
use lib.Dec.{eqb}
use borrow.Author.Tests.{eq-eqb, ne_eqb}
use Rattle.spec.specs.Lists.{In, holds, keep, every}
use Rattle.spec.specs.Types.{Solid, subs, sups}
use Rattle.laws.proofs.Lists.{in_get_d}
use Rattle.points.specs.Finding.{first_of}
use Rattle.ranked.specs.declared.solid.Solid as declared
use Rattle.ranked.specs.Words.{size_at}
use Rattle.ranked.specs.Lying.{abs_of}
use Rattle.ranked.proofs.Solids.{size_is, sub_in, sup_in}
use Rattle.marks.specs.Rises.{onto, rises_to}

-- ---- exactly onto

module _ (to : ℕ → ℕ) (es gs : List ℕ) where
  pub onto_not : (length es ≡ length gs → ⊥) → false ≡ onto to es gs
  unfolding onto
  onto_not h = rw (ne_eqb (length es) (length gs) h)

  pub onto_is : length es ≡ length gs → (b : Bool) → b ≡ every (λ f. holds eqb (to f) gs) es → b ≡ onto to es gs
  unfolding onto
  onto_is h b e = rw (eq-eqb (length es) (length gs) h) e

-- ---- the first that passes

find_first : (p : ℕ → Bool) (l : List ℕ) → find p l ≡ first_of (keep p l)
unfolding keep
find_first p [] = refl
find_first p (x ∷ l) = go (p x) (find_first p l)
  where
    go : (b : Bool) → find p l ≡ first_of (keep p l) → cond b (Some x) (find p l) ≡ first_of (elim b [ true ↦ x ∷ keep p l | false ↦ keep p l ])
    go true e = refl
    go false e = e

-- ---- an element and its subs' images

-- The subs es of element e of rank r + 1, of which the first goes to y, and the elements ups over y.
module _ (s : Solid) (to : ℕ → ℕ) (r e : ℕ) (es ups : List ℕ) (es-is : es ≡ subs s (r + 1) e) (y : ℕ) (y-is : y ≡ to (get_or es 0 0)) (ups-is : ups ≡ sups s r y) where
  pub rises : find (λ g. onto to es (subs s (r + 1) g)) ups ≡ rises_to s to r e
  unfolding rises_to
  rises = find_first (λ g. onto to es (subs s (r + 1) g)) ups ∙ rw (ups-is, y-is, es-is, add-one r) refl

module _ (s : declared.Solid) (r e : ℕ) (high : suc r ≤ s.shape.rank) (he : e < size_at s.shape (suc r)) (es : List ℕ) (es-is : es ≡ subs (abs_of s) (r + 1) e) where
  pub some_sub : 0 < length es
  some_sub = rw (es-is, add-one r) (s.held.filled r e (rw (size_is s.shape s.lists.now (suc r) high) he))

  pub sub_low : (f : ℕ) → In f es → f < size_at s.shape r
  sub_low f m = sub_in s.shape s.lists.now s.held r e f high (rw (es-is, add-one r) at m)

  pub first_low : get_or es 0 0 < size_at s.shape r
  first_low = sub_low (get_or es 0 0) (in_get_d 0 es 0 some_sub)

-- What lies over an element of rank r is an element of rank r + 1.
pub over-low : (s : declared.Solid) (r y : ℕ) → suc r ≤ s.shape.rank → (ups : List ℕ) → ups ≡ sups (abs_of s) r y → (g : ℕ) → In g ups → g < size_at s.shape (r + 1)
over-low s r y high ups is g m = rw add-one (sup_in s.shape s.lists.now s.held r y g high (rw is at m))
