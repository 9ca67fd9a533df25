-- All elements of a solid together have as many subs as the shape and the entries of its lists say.
-- Assumes nothing.
use mathlib.Core.Path.{◌≡◌, refl, sym, ◌∙◌, ap, fun_ext}
use mathlib.Core.Logic.{inl, inr}
use Prim.Native.Nat.{ℕ, zero, suc, ◌+◌, ◌-◌, ◌<◌}
use mathlib.Core.List.{List, [], ◌∷◌, map}
use native.Mathlib.Omega.{arith}
use lib.ListN.{length, get_or, length-append}
use lib.Seq.{take-length}
use Rattle.spec.specs.Lists.{In, range, sum, join}
use Rattle.spec.specs.Types.{Solid, top, size, subs}
use Rattle.spec.specs.Demand.{Rising, Sound}
use Rattle.spec.specs.Solid.{entries}
use Rattle.laws.proofs.Lists.{length-range}
use Rattle.ranked.specs.declared.Shape.{Shape}
use Rattle.ranked.specs.Words.{abs_in}
use Rattle.ranked.specs.Layout.{sub_entries}
use Rattle.ranked.proofs.Low.{entries_0, entries_1}
use Rattle.ranked.proofs.Low.{sub-entries_is}
use Rattle.ranked.specs.Shapes.{running}
use Rattle.preflight.specs.Derive.{rank_pairs, pairs_to, pairs}
use Rattle.ranked.proofs.Solids.{top_is, size_is}
use Rattle.preflight.proofs.store.Flat.{rank-length}
use Rattle.preflight.proofs.store.SheetSolid.{sum_lengths}
use Rattle.preflight.proofs.store.Whole.{sum-before}

-- ---- lists

-- Lists of one entry each have as many entries as there are lists.
ones : (ls : List (List ℕ)) → ((e : ℕ) → e < length ls → length (get_or ls e []) ≡ 1) → length (join ls) ≡ length ls
unfolding join
ones [] h = refl
ones (l ∷ ls) h = omega (arith, length-append l (join ls), h 0 (omega arith), ones ls (λ e k. h (suc e) (omega arith)))

single : (ls : List (List ℕ)) → length ls ≡ 1 → length (join ls) ≡ length (get_or ls 0 [])
unfolding join
single [] h = absurd (omega arith)
single (l ∷ []) h = omega (arith, length-append l [])
single (l ∷ m ∷ ls) h = absurd (omega arith)

one-sub : (l : List ℕ) → Rising l → ((x : ℕ) → In x l → x < 1) → 0 < length l → length l ≡ 1
one-sub [] r b h = absurd (omega arith)
one-sub (x ∷ []) r b h = refl
one-sub (x ∷ y ∷ l) r b h = absurd (omega (arith, r.0, b y (inr (inl refl))))

-- ---- the solid

module _ (sh : Shape) (w : List ℕ) (v : Sound (abs_in sh w)) (full : (r e : ℕ) → e < size (abs_in sh w) (suc r) → 0 < length (subs (abs_in sh w) (suc r) e)) where
  abbrev s : Solid
  s = abs_in sh w

  -- Counts the subs of a rank's elements.
  abbrev count : ℕ → ℕ
  count r = length (join (get_or s r []))

  none : count 0 ≡ 0
  unfolding join
  none = ap (λ (l : List (List ℕ)). length (join l)) v.least

  pairs-run : (n : ℕ) → length (pairs_to sh s n) ≡ running 0 count (suc n)
  unfolding pairs_to running
  pairs-run zero = omega (arith, none)
  pairs-run (suc n) =
      let ls = get_or s (suc n) [] in
      omega (arith, length-append (pairs_to sh s n) (rank_pairs sh s n (length ls)), rank-length sh s n (length ls) (omega arith), ap (λ (l : List (List ℕ)). length (join l)) (take-length ls), pairs-run n)

  vertices : count 1 ≡ size s 1
  unfolding subs
  vertices =
      ones (get_or s 1 []) λ e k.
      one-sub (get_or (get_or s 1 []) e []) (v.rising 1 e) (λ x m. omega (arith, v.below 0 e x m, ap length v.least)) (full 0 e k)

  top-all : 0 < sh.rank → count sh.rank ≡ size s (sh.rank - 1)
  unfolding subs
  top-all h =
      let t = top_is sh w in
      let one : size s sh.rank ≡ 1 = rw t at v.one in
      let all = v.all (omega arith) in
      single (get_or s sh.rank []) one
      ∙ ap length (rw t at all)
      ∙ length-range 0 (size s (sh.rank - 1))

  stored_are : (z : ℕ) → sh.rank ≡ suc (suc z) → entries s ≡ sum (map count (range 2 z))
  unfolding entries
  stored_are z e =
      let k : top s - 2 ≡ z = omega (arith, top_is sh w) in
      ap (λ (g : ℕ → ℕ). sum (map g (range 2 (top s - 2)))) (fun_ext (λ r. sum_lengths (get_or s r []))) ∙ ap (λ (n : ℕ). sum (map count (range 2 n))) k

  pub pairs_are : length (pairs sh s) ≡ sub_entries sh (entries s)
  unfolding running
  pairs_are = pairs-run sh.rank ∙ go sh.rank refl
    where
      go : (Q : ℕ) → sh.rank ≡ Q → running 0 count (suc sh.rank) ≡ sub_entries sh (entries s)
      go zero e =
          let q = entries_0 sh (entries s) e in
          ap (λ (n : ℕ). running 0 count (suc n)) e ∙ omega (arith, q, none)
      go (suc zero) e =
          let q = entries_1 sh (entries s) e in
          let t : top s ≡ 1 = top_is sh w ∙ e in
          let one : size s 1 ≡ 1 = sym (ap (size s) t) ∙ v.one in
          ap (λ (n : ℕ). running 0 count (suc n)) e ∙ omega (arith, q, none, vertices)
      go (suc (suc z)) e =
          let q = sub-entries_is sh (entries s) z e in
          let a : 2 + z ≡ suc (suc z) = omega arith in
          let b : running 0 count 2 + sum (map count (range 2 z)) ≡ running 0 count (suc (suc z)) = rw a at (sum-before count 2 z) in
          let d : sh.rank - 1 ≡ suc z = omega arith in
          let t : count (suc (suc z)) ≡ size s (suc z) = ap count (sym e) ∙ top-all (omega arith) ∙ ap (size s) d in
          ap (λ (n : ℕ). running 0 count (suc n)) e
          ∙ omega (arith, q, b, t, none, vertices, stored_are z e, size_is sh w 1 (omega arith), size_is sh w (suc z) (omega arith))
