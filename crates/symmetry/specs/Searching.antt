-- While flags are tried, the workspace holds the solid searched, its types, and the fingerprints of its vertex sets.
-- Assumes nothing.
use Rattle.std.specs.Prelude.{◌≡◌, ℕ, ◌≤◌, Bool, true, ◌&&◌, List, length, ltb, Float, Result}
use Rattle.spec.specs.Lists.{every, no_repeats}
use Rattle.spec.specs.Types.{State}
use Rattle.spec.specs.Matrix.{Matrix}
use Rattle.spec.specs.Points.{near, row_of}
use Rattle.spec.specs.Solid.{Concrete}
use Rattle.spec.specs.Flags.{flags}
use Rattle.spec.specs.Search.{Setting, examples_go}
use Rattle.spec.specs.Calls.{Room}
use Rattle.matrix.specs.Reading.{corner}
use Rattle.ranked.specs.declared.Shape.{Shape}
use Rattle.preflight.specs.Bench.{Bench}
use Rattle.ranked.specs.Layout.{solid_in, abstract_in}
use Rattle.element_types.specs.State.{state_in, Countable}
use Rattle.symmetry.specs.Fingerprints.{Fingerprinted}
use Rattle.symmetry.specs.declared.listing.Full.{Full}
use Rattle.symmetry.specs.Tails.{setting_of}
use Rattle.symmetry.specs.Listing.{MembersListed}

-- Neither 8 nor 9 applies: there is an axis, and no vertex is near a later one.
pub record Parted (d : Concrete) : Type 0 where
  pub axes : 1 ≤ d.dimension
  pub distinct : no_repeats near d.points ≡ true

pub record Searching (sh : Shape) (words : List ℕ) (floats : List Float) : Type 0 where
  pub bench : Bench sh words floats
  pub tall : 2 ≤ sh.rank
  pub counted : Countable sh words
  pub fingerprints : Fingerprinted sh words
  pub parted : Parted (solid_in sh words floats)

-- Tells whether the candidate m passes in the solid d with the types z: every vertex's image is found, and the images of the examples are vertex
-- sets.
unfoldable pub passing : Concrete → State → Matrix → Bool
passing d z m = every (λ v. ltb v (length d.points)) (row_of d.points m) && examples_go d.abs z (row_of d.points m)

-- ---- what the functions promise

-- Gives what stands once every refusal is past, where the solid in the workspace is searched with this inverse. The solid as read is c.
abbrev pub setting_in : Shape → List ℕ → List Float → List (List Float) → Concrete → Setting
setting_in sh words floats inverse c = setting_of c (solid_in sh words floats) (state_in sh words) (corner sh.dimension inverse)

-- Gives the room that the outputs have for members, where there are so many marks.
abbrev pub room_for : List Float → List ℕ → ℕ → Room
room_for ms rs marks = record { floats = length ms; entries = length rs; marks = marks }

-- The members that the flags of the solid in the workspace give are listed, where there are so many marks. Here ms and rs are the outputs before, and
-- ms' and rs' after. The solid as read is of no account, so the promise is for each.
abbrev pub SolidListed : Shape → List ℕ → List Float → List (List Float) → Bool → ℕ → Result ℕ Full → List Float → List Float → List ℕ → List ℕ → Type 0
SolidListed sh words floats inverse rotations marks r ms ms' rs rs' =
    (c : Concrete) → MembersListed (setting_in sh words floats inverse c) rotations (room_for ms rs marks) (flags (abstract_in sh words)) r ms ms' rs rs'
