-- This file says what trying a candidate or a flag promises. In all that follows, so many marks are left, ms and rs are what was left of the outputs,
-- and ms' and rs' are what they are now. The solid as read is of no account, and for a candidate neither is the inverse, so each promise is for all of
-- them.
-- Assumes nothing.
use Rattle.std.specs.Prelude.{ℕ, List, Float, Result}
use Rattle.spec.specs.Matrix.{Matrix}
use Rattle.spec.specs.Solid.{Concrete}
use Rattle.spec.specs.Search.{tested}
use Rattle.matrix.specs.Reading.{corner}
use Rattle.ranked.specs.Words.{size_at}
use Rattle.ranked.specs.Layout.{solid_in}
use Rattle.element_types.specs.State.{state_in}
use Rattle.flag.specs.declared.Flag.{Flag}
use Rattle.flag.specs.Reading.{flag_in}
use Rattle.symmetry.specs.declared.listing.Tried.{Tried}
use Rattle.symmetry.specs.declared.listing.Full.{Full}
use Rattle.symmetry.specs.declared.listing.Search.{Search}
use Rattle.symmetry.specs.Tails.{setting_of}
use Rattle.symmetry.specs.Listing.{listed_if, gives, Came}
use Rattle.symmetry.specs.Searching.{setting_in, SolidListed}

-- Gives the solid that is searched.
abbrev pub searched_in : Search → Concrete
searched_in x = solid_in x.prepared.shape x.prepared.words.now x.prepared.floats.now

-- Trying the candidate m came to t.
abbrev pub CandidateTried : Search → ℕ → List (List Float) → Tried → List Float → List Float → List ℕ → List ℕ → Type 0
CandidateTried x left m t ms ms' rs rs' =
    let sh = x.prepared.shape in
    (c : Concrete) (i : Matrix) → Came sh.dimension (size_at sh 1) left
    (listed_if x.rotations (tested (setting_of c (searched_in x) (state_in sh x.prepared.words.now) i) (corner sh.dimension m))) t ms ms' rs rs'

-- Trying the flag came to t.
abbrev pub FlagTried : Search → Flag → ℕ → Tried → List Float → List Float → List ℕ → List ℕ → Type 0
FlagTried x flag left t ms ms' rs rs' =
    let sh = x.prepared.shape in
    (c : Concrete) → Came sh.dimension (size_at sh 1) left
    (gives (setting_in sh x.prepared.words.now x.prepared.floats.now x.inverse c) x.rotations (flag_in sh.rank flag)) t ms ms' rs rs'

-- All flags were tried, and the members that they give are listed.
abbrev pub AllTried : Search → ℕ → Result ℕ Full → List Float → List Float → List ℕ → List ℕ → Type 0
AllTried x left r ms ms' rs rs' = SolidListed x.prepared.shape x.prepared.words.now x.prepared.floats.now x.inverse x.rotations left r ms ms' rs rs'
