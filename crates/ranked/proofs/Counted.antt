-- The elements of the solid that the words hold are counted by the starts of its ranks.
-- Assumes nothing.
use mathlib.Core.Path.{◌≡◌, refl, sym, ◌∙◌, ap}
use mathlib.Core.List.{List, map}
use Prim.Native.Nat.{ℕ, zero, suc, ◌+◌, ◌-◌, ◌≤◌, ◌<◌}
use native.Mathlib.Nat.{add-zero}
use native.Mathlib.Omega.{arith}
use lib.ListN.{length}
use Rattle.spec.specs.Lists.{range, sum}
use Rattle.spec.specs.Types.{Solid, size, top, proper_ranks, elements}
use Rattle.ranked.specs.declared.Shape.{Shape}
use Rattle.ranked.specs.Words.{first_at, total, abs_in, Held}
use Rattle.ranked.specs.Layout.{proper}
use Rattle.ranked.proofs.Solids.{top_is, size_is, size_past, sizes_are, in_order_lem}

module _ (sh : Shape) (w : List ℕ) (h : Held sh w) where
  abbrev s : Solid
  s = abs_in sh w

  pub sizes_sum : (a n : ℕ) → a + n ≤ suc sh.rank → sum (map (λ r. size s r) (range a n)) ≡ first_at sh (a + n) - first_at sh a
  unfolding sum range
  sizes_sum a zero k = rw (add-zero a) (omega arith)
  sizes_sum a (suc n) k =
      let e : a + suc n ≡ suc a + n = omega arith in
      let z = sizes_are sh w h a in
      let i = sizes_sum (suc a) n (omega arith) in
      let p = in_order_lem sh w h a (suc a) (omega arith) (omega arith) in
      let q = in_order_lem sh w h (suc a) (suc a + n) (omega arith) (omega arith) in
      rw (e, z, i) (omega arith)

  -- "E counts proper elements."
  pub proper_is : proper sh ≡ elements s
  unfolding elements proper_ranks range sum
  proper_is = go sh.rank (top_is sh w) (omega arith)
    where
      go : (n : ℕ) → top s ≡ n → n ≤ sh.rank → first_at sh n - first_at sh 1 ≡ elements s
      go zero e k = rw (e, h.start) (omega arith)
      go (suc n) e k =
          let f : suc n - 1 ≡ n = omega arith in
          let g : 1 + n ≡ suc n = omega arith in
          rw (e, f) (sym (rw g at (sizes_sum 1 n (omega arith))))

  top_one : size s sh.rank ≡ 1
  top_one = rw (top_is sh w) at h.sound.one

  -- All elements are the E proper ones, the least, and the top.
  pub total_few : total sh ≤ elements s + 2
  total_few =
      let least : size s 0 ≡ 1 = ap length h.sound.least in
      omega (arith, h.start, size_is sh w 0 (omega arith), size_is sh w sh.rank (omega arith), top_one, proper_is)

  -- A proper rank's elements are among E.
  pub proper_few : (r : ℕ) → 0 < r → r < sh.rank → size s r ≤ elements s
  proper_few r a b =
      omega (
        arith,
        size_is sh w r (omega arith),
        in_order_lem sh w h 1 r (omega arith) (omega arith),
        in_order_lem sh w h (suc r) sh.rank (omega arith) (omega arith),
        proper_is,
      )

  pub vertices_few : size s 1 ≤ elements s + 1
  vertices_few = go sh.rank refl
    where
      go : (Q : ℕ) → sh.rank ≡ Q → size s 1 ≤ elements s + 1
      go zero e = omega (arith, size_past sh w 1 (omega arith))
      go (suc zero) e = let one : size s 1 ≡ 1 = sym (ap (size s) e) ∙ top_one in omega arith
      go (suc (suc z)) e = omega (arith, proper_few 1 (omega arith) (omega arith))
