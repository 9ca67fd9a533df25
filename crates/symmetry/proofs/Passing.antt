-- A candidate's test goes by the row that is found and the examples that go under it.
-- Assumes nothing.
use mathlib.Core.Path.{◌≡◌, sym, ap, ap₂, subst, ◌∙◌}
use mathlib.Core.Bool.{Bool, true, false, ◌&&◌}
use mathlib.Core.List.{List}
use Prim.Native.Nat.{ℕ}
use lib.ListN.{length, take}
use lib.Dec.{ltb}
use lib.Ieee.{Float}
use Rattle.spec.specs.Lists.{every, parts}
use Rattle.spec.specs.Types.{Solid, size, State}
use Rattle.spec.specs.Matrix.{Matrix, Vector}
use Rattle.spec.specs.Points.{row_of}
use Rattle.spec.specs.Search.{examples_go}
use Rattle.ranked.specs.declared.Shape.{Shape}
use Rattle.ranked.specs.Words.{size_at}
use Rattle.ranked.specs.Layout.{abstract_in}
use Rattle.matrix.specs.Reading.{corner}
use Rattle.points.specs.Listed.{listed}
use Rattle.element_types.specs.State.{state_in}
use Rattle.points.specs.Cells.{Tabled}
use Rattle.points.proofs.Parts.{length-parts}
use Rattle.points.proofs.Filled.{all_found, row_read}
use Rattle.symmetry.specs.declared.listing.Search.{Search}
use Rattle.symmetry.specs.Searching.{passing}
use Rattle.symmetry.specs.Tried.{searched_in}
use Rattle.symmetry.proofs.Bounds.{vertices_are, points-many, points-read}

module _ (x : Search) (m : List (List Float)) where
  abbrev sh : Shape
  sh = x.prepared.shape

  abbrev fs : List Float
  fs = x.prepared.floats.now

  abbrev v : ℕ
  v = x.lookup.points.count

  abbrev M : Matrix
  M = corner sh.dimension m

  abbrev s : Solid
  s = abstract_in sh x.prepared.words.now

  abbrev z : State
  z = state_in sh x.prepared.words.now

  abbrev found : List ℕ
  found = row_of (searched_in x).points M

  same_row : row_of (parts v sh.dimension fs) M ≡ found
  same_row = ap (λ (ps : List Vector). row_of ps M) (sym (points-read sh x.prepared.words.now fs v x.many))

  module _ (before cells : List ℕ) (r : Bool) (row : Tabled v (row_of (listed x.lookup.points) (corner x.lookup.points.dimension m)) before cells r) where
    table : Tabled v (row_of (parts v sh.dimension fs) M) before cells r
    table =
        subst (λ n. Tabled v (row_of (parts v n fs) (corner n m)) before cells r) x.axes
        (subst (λ (l : List Float). Tabled v (row_of (parts v x.lookup.points.dimension l) (corner x.lookup.points.dimension m)) before cells r) x.same_floats row)

    passed : r ≡ every (λ u. ltb u (length (searched_in x).points)) found
    passed =
        all_found (parts v sh.dimension fs) M v (length-parts v sh.dimension fs) before cells r table
        ∙ ap₂ (λ (n : ℕ) (l : List ℕ). every (λ u. ltb u n) l) (x.many ∙ sym (points-many sh x.prepared.words.now fs)) same_row

    pub row_is : r ≡ true → take (size_at sh 1) cells ≡ found
    row_is e = ap (λ n. take n cells) (sym x.many) ∙ row_read (parts v sh.dimension fs) M v (length-parts v sh.dimension fs) (rw e at table) ∙ same_row

    pub passes_not : r ≡ false → r ≡ passing (searched_in x) z M
    unfolding passing
    passes_not e = e ∙ ap (λ b. b && examples_go s z found) (sym e ∙ passed)

    pub passes_is : r ≡ true → (b : Bool) → b ≡ examples_go s z (take (size s 1) cells) → b ≡ passing (searched_in x) z M
    unfolding passing
    passes_is e b q =
        q ∙ ap (examples_go s z) (ap (λ n. take n cells) (vertices_are x.prepared.searching) ∙ row_is e) ∙ ap (λ t. t && examples_go s z found) (sym e ∙ passed)
