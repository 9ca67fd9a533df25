-- The outcome goes by whether the candidate is wanted, whether it passes, and whether there is room.
-- Assumes nothing.
use mathlib.Core.Path.{◌≡◌, sym, ap, ◌∙◌}
use mathlib.Core.Logic.{◌⊎◌, inl, inr}
use mathlib.Core.Bool.{true, false}
use native.Mathlib.Omega.{arith}
use Prim.Native.Nat.{◌*◌, ◌≤◌}
use lib.ListN.{length, take, drop}
use lib.Seq.{length-take-le}
use mathlib.Core.List.{◌++◌}
use lib.Ieee.{lt}
use Rattle.spec.specs.Limits.{max_count}
use Rattle.spec.specs.Float.{zero_f}
use Rattle.spec.specs.Matrix.{determinant}
use Rattle.spec.specs.Lists.{written}
use Rattle.matrix.specs.Reading.{corner}
use Rattle.ranked.specs.Words.{size_at}
use Rattle.element_types.specs.State.{state_in}
use Rattle.symmetry.specs.Listing.{fits}
use Rattle.symmetry.specs.Searching.{passing}
use Rattle.symmetry.specs.Tried.{searched_in}
use Rattle.symmetry.proofs.Bounds.{vertices_few}
use Rattle.symmetry.proofs.Trying.{fits_means, candidate_not, candidate-turned, candidate_short, candidate_added}
use Rattle.symmetry.proofs.listing.Search.try_candidate.Goals.{After-has_room, Else-not-has_room, Else-not-passes}
use Rattle.symmetry.proofs.listing.Search.try_candidate.Goals.{else-self-via-then-self+else-not-determinant, else-self-via-else-self}
use Rattle.symmetry.proofs.listing.Search.try_candidate.Goals as goal

-- The candidate is wanted.
wanted : (j : Else-not-passes) → let s = j.args.self.now in (s.rotations ≡ false) ⊎ (lt zero_f (determinant (corner s.prepared.shape.dimension j.args.m)) ≡ true)
unfolding zero_f
wanted j =
    elim j.else-self.branch [
      | else-self-via-then-self+else-not-determinant w ↦ inr (ap (lt zero_f) (sym w.determinant.ensures) ∙ w.if-not-determinant.false)
      | else-self-via-else-self w ↦ inl w.if-self.false
    ]

-- The candidate passes.
passed : (e : Else-not-passes) → let s = e.args.self.now in true ≡ passing (searched_in s) (state_in s.prepared.shape s.prepared.words.now) (corner s.prepared.shape.dimension e.args.m)
passed e = sym e.if-not-passes.false ∙ e.passes.ensures.value

-- The answer says whether there is room.
room : (c : After-has_room) → let s = c.args.self.now in c.has_room.result ≡ fits s.prepared.shape.dimension (size_at s.prepared.shape 1) (length c.args.matrices.now) (length c.args.rows.now) c.args.marks_left
room c =
    c.has_room.ensures ∙ ap (λ n. fits c.args.self.now.prepared.shape.dimension n (length c.args.matrices.now) (length c.args.rows.now) c.args.marks_left) c.vertices-v.ensures

pub returns-then-not-determinant : goal.returns-then-not-determinant
unfolding zero_f
returns-then-not-determinant c x i =
    let a = c.args in
    candidate-turned a.self.now a.m a.marks_left a.matrices.now a.rows.now x i c.if-self.true (ap (lt zero_f) (sym c.determinant.ensures) ∙ c.if-not-determinant.true)

pub returns-then-not-passes : goal.returns-then-not-passes
returns-then-not-passes c x i =
    let a = c.args in candidate_not a.self.now a.m a.marks_left a.matrices.now a.rows.now x i (sym c.if-not-passes.true ∙ c.passes.ensures.value)

pub returns-then-not-has_room : goal.returns-then-not-has_room
returns-then-not-has_room c x i =
    let a = c.args in let on = (goal.at.returns-then-not-has_room c).Else-not-passes in
    candidate_short a.self.now a.m a.marks_left a.matrices.now a.rows.now x i (passed on) (wanted on)
    (sym (room (goal.at.returns-then-not-has_room c).After-has_room) ∙ c.if-not-has_room.true)

-- What is written fits the parts of the outputs and stands in the row.
fit : (e : Else-not-has_room) → let s = e.args.self.now in
    (s.prepared.shape.dimension * s.prepared.shape.dimension ≤ length e.args.matrices.now) × (e.vertices-v.result ≤ length e.args.rows.now) × (e.vertices-v.result ≤ max_count)
fit e =
    let s = e.args.self.now in
    let free = fits_means s.prepared.shape.dimension e.vertices-v.result (length e.args.matrices.now) (length e.args.rows.now) e.args.marks_left (sym e.has_room.ensures ∙ e.if-not-has_room.false) in
    (free.0, free.1, omega (arith, e.vertices-v.ensures, vertices_few s.prepared.searching))

pub put_matrix-requires : goal.put_matrix-requires
put_matrix-requires c = (c.args.self.now.prepared.searching.bench.held.wide, (fit (goal.at.put_matrix-requires c).Else-not-has_room).0)

pub slice_bounds-copy_from_slice-end : goal.slice_bounds-copy_from_slice-end
slice_bounds-copy_from_slice-end c = omega (arith, (fit (goal.at.slice_bounds-copy_from_slice-end c).Else-not-has_room).1)

pub slice_bounds-copy_from_slice-end-2 : goal.slice_bounds-copy_from_slice-end-2
slice_bounds-copy_from_slice-end-2 c = sym (length-take-le c.vertices-v.result c.args.rows.now (fit (goal.at.slice_bounds-copy_from_slice-end-2 c).Else-not-has_room).1)

pub copy_from_slice-requires : goal.copy_from_slice-requires
copy_from_slice-requires c =
    let f = fit (goal.at.copy_from_slice-requires c).Else-not-has_room in
    length-take-le c.vertices-v.result c.args.rows.now f.1 ∙ sym (length-take-le c.vertices-v.result c.passes.new.row (omega (arith, c.passes.auto.row, f.2)))

pub returns : goal.returns
unfolding written
returns c x i =
    let a = c.args in let on = (goal.at.returns c).Else-not-passes in
    let v = c.vertices-v.result in let row = c.passes.new.row in
    let w : take v row ≡ _ = ap (λ n. take n row) c.vertices-v.ensures ∙ c.passes.ensures.row_after c.if-not-passes.false in
    let put : c.copy_from_slice.new.self ++ drop v a.rows.now ≡ written (take v row) a.rows.now =
    rw (c.copy_from_slice.ensures.after, length-take-le v row (omega (arith, c.passes.auto.row, (fit (goal.at.returns c).Else-not-has_room).2))) in
    candidate_added a.self.now a.m a.marks_left a.matrices.now a.rows.now x i (passed on) (wanted on) (sym (room (goal.at.returns c).After-has_room) ∙ c.if-not-has_room.false)
    c.put_matrix.new.out _ c.put_matrix.ensures.cells (put ∙ ap (λ l. written l a.rows.now) w)
