-- A look at an element's vertices, or at its fingerprint, needs this of the words.
-- Assumes nothing.
use mathlib.Core.Path.{◌≡◌, sym, ap, ◌∙◌}
use mathlib.Core.List.{List, map}
use Prim.Native.Nat.{ℕ, suc, ◌+◌, ◌-◌, ◌≤◌, ◌<◌}
use native.Mathlib.Omega.{arith}
use lib.ListN.{length, get_or, take, drop, length-drop}
use lib.Seq.{length-take-le, get_or-drop, get_or-take}
use Rattle.std.specs.List.{enumerate_from}
use Rattle.std.proofs.lemmas.List.FromFn.{fill_by_all, length-enumerate_from, get_or-enumerate_from}
use Rattle.ranked.proofs.Chains.{range_is}
use Rattle.spec.specs.Limits.{max_count}
use Rattle.spec.specs.Lists.{range}
use Rattle.spec.specs.Types.{size, vertices}
use Rattle.ranked.specs.declared.Shape.{Shape}
use Rattle.ranked.specs.Words.{first_at, size_at, abs_in, Held}
use Rattle.ranked.specs.Marks.{Front}
use Rattle.ranked.proofs.Solids.{size_is, in_order_lem}
use Rattle.symmetry.specs.Fingerprints.{fingerprint_of, ProperElement, FingerprintsStand}
use Rattle.symmetry.proofs.vertex_sets.Sets.{listed, list_long, list_few}

-- ---- in the words that hold the solid

module _ {sh : Shape} {w : List ℕ} (h : Held sh w) {r e : ℕ} (m : ProperElement sh r e) where
  -- There is room for an element's vertices.
  pub few_vertices : size (abs_in sh w) 1 ≤ max_count
  few_vertices = let k : 1 ≤ sh.rank = omega (arith, m.above, m.under) in rw (size_is sh w 1 k) (h.few 1 k)

  -- The vertices of an element are as a buffer holds them.
  module _ {old list : List ℕ} {n : ℕ} (f : Front (vertices (abs_in sh w) r e) old list n) where
    pub list_is : take n list ≡ vertices (abs_in sh w) r e
    list_is = listed (abs_in sh w) r e n old list f

    pub list_short : length (take n list) ≤ max_count
    list_short = omega (arith, length-take-le n list (list_long (abs_in sh w) r e n old list f), list_few (abs_in sh w) r e n old list f, few_vertices)

-- ---- beside the solid

-- The fingerprints of a rank are those of its elements' vertices.
module _ {sh : Shape} {lists prints : List ℕ} (h : Held sh lists) (a : FingerprintsStand sh lists prints) (r : ℕ) (above : 1 ≤ r) (under : r < sh.rank) where
  abbrev pub of_rank : List ℕ
  of_rank = take (size_at sh r) (drop (first_at sh r) prints)

  many : size (abs_in sh lists) r ≡ size_at sh r
  many = size_is sh lists r (omega arith)

  pub length-of_rank : length of_rank ≡ size (abs_in sh lists) r
  length-of_rank =
      length-take-le (size_at sh r) (drop (first_at sh r) prints) (omega (arith, length-drop (first_at sh r) prints, in_order_lem sh lists h (suc r) (suc sh.rank) (omega arith) (omega arith), h.some r (omega arith), a.room))
      ∙ sym many

  pub of_rank_is : (from : ℕ) → from ≤ size_at sh r
      → drop from of_rank ≡ map (λ e. fingerprint_of (vertices (abs_in sh lists) r (from + e))) (range 0 (size (abs_in sh lists) r - from))
  of_rank_is from k =
      fill_by_all (λ e. fingerprint_of (vertices (abs_in sh lists) r (from + e))) (drop from of_rank) (size (abs_in sh lists) r - from) 0
      (length-drop from of_rank ∙ ap (λ n. n - from) length-of_rank)
      (λ e i.
      get_or-drop from of_rank e 0 ∙ get_or-take (size_at sh r) (drop (first_at sh r) prints) (from + e) 0 (omega (arith, many)) ∙ get_or-drop (first_at sh r) prints (from + e) 0
      ∙ a.stand r (from + e) (record { above = above; under = under; inside = omega (arith, many) }))
      ∙ ap (map (λ e. fingerprint_of (vertices (abs_in sh lists) r (from + e)))) (range_is 0 (size (abs_in sh lists) r - from))

  -- What is numbered from 0 among those from `from` on is an element of the rank.
  pub inside : (from : ℕ) (prints : List ℕ) → prints ≡ of_rank → (e k d : ℕ) → k < length (enumerate_from 0 (drop from prints)) → e ≡ (get_or (enumerate_from 0 (drop from prints)) k (e, d)).0 → from + e < size_at sh r
  inside from prints is e k d h at =
      let long = length-enumerate_from 0 (drop from prints) in
      omega (
        arith,
        at ∙ ap (λ (p : ℕ × ℕ). p.0) (get_or-enumerate_from 0 (drop from prints) k (e, d) (omega (arith, h, long))),
        h,
        long,
        length-drop from prints,
        ap length is,
        length-of_rank,
        many,
      )
