-- While flags are tried, the vertices' coordinates lie in the floats, and are the searched solid's points.
-- Assumes nothing.
use mathlib.Core.Path.{◌≡◌, sym, ap, ◌∙◌}
use mathlib.Core.List.{List}
use Prim.Native.Nat.{ℕ, ◌≤◌}
use native.Mathlib.Omega.{arith}
use lib.ListN.{length, take}
use lib.Ieee.{Float}
use Rattle.spec.specs.Limits.{max_count}
use Rattle.spec.specs.Types.{size}
use Rattle.spec.specs.Lists.{parts}
use Rattle.ranked.specs.declared.Shape.{Shape}
use Rattle.ranked.specs.Words.{size_at, lists_of, abs_in}
use Rattle.ranked.specs.Layout.{coordinates, solid_in}
use Rattle.ranked.proofs.Solids.{size_is}
use Rattle.preflight.proofs.Benches.{points_in}
use Rattle.points.proofs.Parts.{length-parts, parts-take}
use Rattle.symmetry.specs.Searching.{Searching}

module _ (sh : Shape) (ws : List ℕ) (fs : List Float) where
  pub points-many : length (solid_in sh ws fs).points ≡ size_at sh 1
  points-many = length-parts (size_at sh 1) sh.dimension (take (coordinates sh) fs)

  -- The points are v in number, as the code reads them.
  pub points-read : (v : ℕ) → v ≡ size_at sh 1 → (solid_in sh ws fs).points ≡ parts v sh.dimension fs
  points-read v many = parts-take (size_at sh 1) sh.dimension fs ∙ ap (λ n. parts n sh.dimension fs) (sym many)

module _ {sh : Shape} {ws : List ℕ} {fs : List Float} (h : Searching sh ws fs) where
  pub vertices_are : size (abs_in sh (lists_of sh ws)) 1 ≡ size_at sh 1
  vertices_are = size_is sh (lists_of sh ws) 1 (omega (arith, h.tall))

  pub vertices_few : size_at sh 1 ≤ max_count
  vertices_few = h.bench.held.few 1 (omega (arith, h.tall))

  pub coordinates_in : coordinates sh ≤ length fs
  coordinates_in = rw vertices_are at (points_in h.bench)
