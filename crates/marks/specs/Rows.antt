-- The row of a member stands beside the solid that lent lists hold, and its entries permute the vertices.
-- Assumes nothing.
use Rattle.std.specs.Prelude.{◌≡◌, ℕ, ◌+◌, ◌≤◌, ◌<◌, Bool, true, ◌&&◌, List, length, get_or, eqb, ltb, Float}
use Rattle.std.specs.Float.{nan}
use Rattle.spec.specs.Lists.{every, no_repeats}
use Rattle.spec.specs.Types.{Classes}
use Rattle.spec.specs.Mark.{sets_apart}
use Rattle.spec.specs.Hull.{classes}
use Rattle.spec.specs.Classes.{distances}
use Rattle.ranked.specs.declared.Shape.{Shape}
use Rattle.ranked.specs.Words.{size_at, abs_in, Held}
use Rattle.ranked.specs.Layout.{proper, classes_at, solid_on, classes_in}
use Rattle.geometry.specs.Classes.{same_class}

-- Tells whether the row's entries are all vertices, of which there are as many as entries, and none is there twice.
unfoldable pub permutes : List ℕ → Bool
permutes row = every (λ v. ltb v (length row)) row && no_repeats eqb row

-- The class of each proper element stands in the floats, behind the coordinates and the list of distances.
pub record ClassesIn (sh : Shape) (w : List ℕ) (fs : List Float) : Type 0 where
  pub room : classes_at sh + proper sh ≤ length fs
  pub cells : classes_in sh fs ≡ classes (distances (solid_on sh w fs))

-- The cells hold the classes of the n elements of rank r: two of these share a class exactly when their cells are one class.
abbrev pub ClassesOf : Classes → ℕ → ℕ → List Float → Type 0
ClassesOf cls r n cells = (e g : ℕ) → e < n → g < n → eqb (cls r g) (cls r e) ≡ same_class (get_or cells g nan) (get_or cells e nan)

-- The row permutes the vertices of a solid that has no vertex set twice in a rank.
pub record Row (sh : Shape) (w row : List ℕ) : Type 0 where
  pub held : Held sh w
  pub apart : sets_apart (abs_in sh w) ≡ true
  pub full : length row ≡ size_at sh 1
  pub permuted : permutes row ≡ true
