-- All rows have their marks once each has been written, and there is room for where all elements go.
-- Assumes nothing.
use mathlib.Core.Path.{◌≡◌, refl, sym, ap, ◌∙◌}
use Prim.Native.Nat.{ℕ, zero, suc, ◌+◌, ◌*◌, ◌≤◌, ◌<◌}
use mathlib.Core.List.{List, []}
use native.Mathlib.Nat.{le_refl}
use native.Mathlib.Omega.{arith}
use lib.ListN.{length, length-map}
use lib.Seq.{ext_get_or}
use Rattle.spec.specs.Limits.{max_count, max_elements}
use Rattle.spec.specs.Lists.{parts}
use Rattle.spec.specs.Types.{size}
use Rattle.spec.specs.Search.{mark_of}
use Rattle.spec.specs.Demand3Calls.{row_at}
use Rattle.laws.proofs.Lists.{get_or-map}
use Rattle.points.proofs.Parts.{length-parts, part_at}
use Rattle.ranked.specs.declared.Shape.{Shape}
use Rattle.ranked.specs.declared.solid.Solid as declared
use Rattle.ranked.specs.Words.{first_at, size_at, total, abs_in, Held}
use Rattle.ranked.specs.Lying.{abs_of}
use Rattle.ranked.proofs.Solids.{top_is, size_is}
use Rattle.marks.specs.declared.Markable.{Markable}
use Rattle.marks.specs.Carrying.{concrete_in, classes_of}
use Rattle.marks.specs.Marking.{marks_in, MarkedTo}

pub marks_are : (m : Markable) (v n : ℕ) (rows marks : List ℕ) → length marks ≡ n → MarkedTo m v rows marks n → marks ≡ marks_in (concrete_in m) (parts n v rows)
unfolding row_at
marks_are m v n rows marks l all =
    let mark = mark_of (abs_of m.solid) (classes_of m) in
    let long : length (parts n v rows) ≡ n = length-parts n v rows in
    ext_get_or 0 marks (marks_in (concrete_in m) (parts n v rows)) (l ∙ sym (length-map (parts n v rows) mark ∙ long))
    (λ j k. all j (omega arith) ∙ sym (get_or-map mark [] 0 (parts n v rows) j (omega arith) ∙ ap mark (part_at n v rows j (omega arith))))

-- ---- the number of elements

module _ (s : declared.Solid) where
  abbrev sh : Shape
  sh = s.shape

  abbrev w : List ℕ
  w = s.lists.now

  h : Held sh w
  h = s.held

  first_one : first_at sh 1 ≡ 1
  first_one =
      let n : size_at sh 0 ≡ 1 = sym (size_is sh w 0 (omega arith)) ∙ ap length h.sound.least in
      omega (arith, n, h.start)

  below_few : (k : ℕ) → k < sh.rank → first_at sh (suc k) ≤ 1 + k * max_count
  below_few zero l = omega (arith, first_one)
  below_few (suc k) l = omega (arith, below_few k (omega arith), h.few (suc k) (omega arith))

  -- There is room for where all elements go.
  pub elements_few : total sh ≤ max_elements
  elements_few = go sh.rank refl
    where
      go : (R : ℕ) → sh.rank ≡ R → total sh ≤ max_elements
      go zero e =
          let t : total sh ≡ first_at sh 1 = ap (λ (r : ℕ). first_at sh (suc r)) e in
          omega (arith, t, first_one)
      go (suc q) e =
          let f : first_at sh sh.rank ≡ first_at sh (suc q) = ap (λ (r : ℕ). first_at sh r) e in
          let n : size_at sh sh.rank ≡ 1 = sym (size_is sh w sh.rank (le_refl sh.rank)) ∙ ap (size (abs_in sh w)) (sym (top_is sh w)) ∙ h.sound.one in
          omega (arith, f, n, below_few q (omega arith), h.tall)
