-- A part of lent cells, and that the floats' part for a rank says who shares a class.
-- Assumes nothing.
use mathlib.Core.Path.{◌≡◌, sym, ◌∙◌, ap, ap₂}
use mathlib.Core.List.{List}
use Prim.Native.Nat.{ℕ, suc, ◌+◌, ◌-◌, ◌≤◌, ◌<◌}
use native.Mathlib.Omega.{arith}
use lib.ListN.{length, get_or, take, drop, length-drop}
use lib.Seq.{take_all, get_or-take, get_or-drop}
use lib.Ieee.{nan}
use Rattle.spec.specs.Hull.{classes}
use Rattle.spec.specs.Classes.{distances}
use Rattle.ranked.specs.declared.Shape.{Shape}
use Rattle.ranked.specs.Words.{size_at, abs_in, Held}
use Rattle.ranked.specs.Layout.{proper, before, classes_at, class_at}
use Rattle.ranked.proofs.Solids.{top_is, sizes_are, in_order_lem}
use Rattle.geometry.specs.Classes.{same_class}
use Rattle.geometry.specs.Solids.{before_in}
use Rattle.geometry.proofs.elements.ClassCells.{same_class-at, before_is}
use Rattle.marks.specs.declared.Markable.{Markable}
use Rattle.marks.specs.Rows.{ClassesOf}
use Rattle.marks.specs.Carrying.{concrete_in, classes_of}

-- The part of a list from a place on, as the program lends it.
abbrev pub part_from : {A : Type 0} → List A → ℕ → List A
part_from l from = take (length l - from) (drop from l)

part_is : {A : Type 0} (l : List A) (from : ℕ) → part_from l from ≡ drop from l
part_is l from = take_all (length l - from) (drop from l) (omega (arith, length-drop from l))

pub part_at : {A : Type 0} (d : A) (l : List A) (from k : ℕ) → get_or (part_from l from) k d ≡ get_or l (from + k) d
part_at {A} d l from k = ap (λ (m : List A). get_or m k d) (part_is l from) ∙ get_or-drop from l k d

-- ---- classes

module _ (m : Markable) (r : ℕ) (low : 1 ≤ r) (high : r < m.solid.shape.rank) where
  abbrev sh : Shape
  sh = m.solid.shape

  abbrev w : List ℕ
  w = m.solid.lists.now

  h : Held sh w
  h = m.solid.held

  place_in : (e : ℕ) → e < size_at sh r → before sh r + e < proper sh
  place_in e k = omega (arith, in_order_lem sh w h 1 r low (omega arith), in_order_lem sh w h (suc r) sh.rank high (omega arith), h.some r (omega arith))

  cell : (k : ℕ) → k < size_at sh r → get_or (classes (distances (concrete_in m))) (before_in (abs_in sh w) r + k) nan ≡ get_or m.floats.now (class_at sh r k) nan
  cell k hk =
      rw (before_is sh w h r low (omega arith), ← m.classes.cells)
      (get_or-take (proper sh) (drop (classes_at sh) m.floats.now) (before sh r + k) nan (place_in k hk) ∙ get_or-drop (classes_at sh) m.floats.now (before sh r + k) nan)

  -- The part of the floats that starts with the rank's classes says who shares a class.
  pub cells_share : (from : ℕ) → from ≡ class_at sh r 0 → ClassesOf (classes_of m) r (size_at sh r) (part_from m.floats.now from)
  cells_share from is e g he hg =
      let n = sizes_are sh w h r in
      same_class-at (concrete_in m) r g e low (omega (arith, top_is sh w)) (rw n hg) (rw n he) ∙ ap₂ same_class (cell g hg ∙ here g) (cell e he ∙ here e)
    where
      here : (k : ℕ) → get_or m.floats.now (class_at sh r k) nan ≡ get_or (part_from m.floats.now from) k nan
      here k =
          let q : class_at sh r k ≡ from + k = omega arith in
          ap (λ (i : ℕ). get_or m.floats.now i nan) q ∙ sym (part_at nan m.floats.now from k)
