-- This file says what the parts of the call hand back, in terms of document 01's definitions.
-- Assumes nothing.
use Rattle.std.specs.Prelude.{◌≡◌, ℕ, ◌≤◌, ◌<◌, true, false, List, [], ◌∷◌, ◌++◌, length, take, Float, Option, Some, None}
use Rattle.spec.specs.Lists.{join, parts, written}
use Rattle.spec.specs.Matrix.{Vector, Matrix}
use Rattle.spec.specs.Copying.{spread}
use Rattle.spec.specs.Points.{found}

-- Adds one image more to the copies, unless the image is found among them.
unfoldable pub with_image : List Vector → Vector → List Vector
with_image cs q = elim (found cs q) [ true ↦ cs | false ↦ cs ++ q ∷ [] ]

-- Adds the images of one point more to the copies, unless the point is found among them.
unfoldable pub with_point : List Matrix → List Vector → Vector → List Vector
with_point ms cs p = elim (found cs p) [ true ↦ cs | false ↦ spread ms p cs ]

-- A buffer holds `all`, which are n points of d floats, from its first cell on. There are at most `limit`, and the cells past them are as they were.
pub record Fitting (d limit : ℕ) (all : List Vector) (before after : List Float) (n : ℕ) : Type 0 where
  pub room : n ≤ limit
  pub read : parts n d after ≡ all
  pub is : after ≡ written (join all) before

-- There are more than `limit` points, and a buffer holds the first `limit` of them.
pub record Overfull (limit : ℕ) (all : List Vector) (before after : List Float) : Type 0 where
  pub more : limit < length all
  pub is : after ≡ written (join (take limit all)) before

-- Says what a buffer holds by the answer, which is the number of the copies or that there is no room for them. Here `all` are the copies, and at most
-- `limit` of them are kept.
abbrev pub CopiesKept : (d limit : ℕ) (all : List Vector) (before after : List Float) → Option ℕ → Type 0
CopiesKept d limit all before after (Some n) = Fitting d limit all before after n
CopiesKept d limit all before after None = Overfull limit all before after
