-- The hull is that of the first point and of those that were gone through, and k counts its vectors.
-- Assumes nothing.
use mathlib.Core.List.{map}
use mathlib.Core.Path.{◌≡◌}
use Prim.Native.Nat.{◌≤◌}
use Rattle.points.specs.Listed.{listed_at}
use Rattle.geometry.specs.Reading.{hull_in}
use Rattle.geometry.proofs.Gathered.{Gathered}
use Rattle.geometry.proofs.distance.distance_of.Given as goal

abbrev pub invariant-loop-v : goal.invariant-loop-v
invariant-loop-v l =
    let d = l.points.dimension in
    (l.k ≡ l.hull.count) × (l.k ≤ d) × Gathered d (map (listed_at l.points) l.v-items) (hull_in d l.initial.hull) (hull_in d l.hull) l.v-index
