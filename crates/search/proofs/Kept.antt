-- The members that are listed, and their marks, go from what the flags' loop leaves to the call's outputs.
-- Assumes nothing.
use Rattle.std.specs.Prelude.{Ok, Result}
use Rattle.std.specs.Result.{is_err}
use mathlib.Core.Path.{◌≡◌, refl, ap, ◌∙◌}
use Prim.Native.Nat.{ℕ, ◌*◌, ◌≤◌}
use mathlib.Core.Bool.{Bool}
use mathlib.Core.List.{List}
use lib.ListN.{length, take}
use lib.Ieee.{Float}
use Rattle.spec.specs.Refusal.{Answer}
use Rattle.spec.specs.Lists.{parts, written}
use Rattle.spec.specs.Solid.{Concrete}
use Rattle.spec.specs.Flags.{flags}
use Rattle.spec.specs.Search.{exchanged}
use Rattle.spec.specs.Calls.{SearchOut, room_of}
use Rattle.matrix.specs.Reading.{corner}
use Rattle.points.proofs.Parts.{length-parts}
use Rattle.ranked.specs.declared.Shape.{Shape}
use Rattle.ranked.specs.Words.{size_at}
use Rattle.ranked.specs.Layout.{scratch_at, solid_in}
use Rattle.element_types.specs.State.{state_in, Countable}
use Rattle.symmetry.specs.declared.listing.Full.{Full}
use Rattle.symmetry.specs.Tails.{call_from, out_of}
use Rattle.symmetry.specs.Listing.{MembersListed, number_of, answer_of}
use Rattle.symmetry.specs.Searching.{setting_in, SolidListed}
use Rattle.marks.specs.Marking.{marks_in}
use Rattle.search.proofs.Tested.{solid-kept}
use Rattle.search.proofs.Benched.{lists-kept, state_kept}
use Rattle.search.proofs.Steps.{marks_in_lem, ended}

-- The words are ws before the fingerprints are written, and vs after.
module _ (sh : Shape) (ws vs : List ℕ) (long : length vs ≡ length ws) (e : take (scratch_at sh) vs ≡ take (scratch_at sh) ws) (k : Countable sh ws) (fs : List Float) (f : ℕ)
    (i : List (List Float)) (rot : Bool) (old : SearchOut) (r : Result ℕ Full) (ms : List Float) (rs : List ℕ)
    (l : SolidListed sh vs fs i rot (length old.marks) r old.matrices ms old.rows rs) where
  abbrev solid : Concrete
  solid = solid_in sh ws fs

  same_solid : solid_in sh vs fs ≡ solid
  same_solid = solid-kept sh ws vs fs fs (lists-kept sh ws vs long e) refl

  listed : MembersListed (setting_in sh ws fs i (exchanged solid f)) rot (room_of old) (flags solid.abs) r old.matrices ms old.rows rs
  unfolding room_of
  listed = rw (lists-kept sh ws vs long e, state_kept sh ws vs long e k) at (l (exchanged solid f))

  many : length solid.points ≡ size_at sh 1
  many = length-parts (size_at sh 1) sh.dimension _

  pub marks_asked : length rs ≡ length old.rows → (number_of r * size_at sh 1 ≤ length rs) × (number_of r ≤ length old.marks)
  unfolding room_of
  marks_asked n =
      let h = marks_in_lem solid f (state_in sh ws) (corner sh.dimension i) rot old r ms rs listed (size_at sh 1) many in
      (rw n h.rows, h.marks)

  -- The marks are those of the rows that are listed, in the solid as read.
  pub all_listed : (a : Answer) → a ≡ answer_of (is_err r) (number_of r) → (ks : List ℕ)
      → ks ≡ written (marks_in (exchanged (solid_in sh vs fs) f) (parts (number_of r) (size_at sh 1) rs)) old.marks
      → (a, out_of ms rs ks) ≡ call_from rot (exchanged solid f) (Ok (setting_in sh ws fs i (exchanged solid f))) old
  all_listed a q ks w =
      ended solid f (state_in sh ws) (corner sh.dimension i) rot old r ms rs listed (size_at sh 1) many a q ks
      (w ∙ ap (λ (d : Concrete). written (marks_in (exchanged d f) (parts (number_of r) (size_at sh 1) rs)) old.marks) same_solid)
