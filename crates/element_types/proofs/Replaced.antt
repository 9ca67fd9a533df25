-- The types of one rank are replaced, and the lists and the types of the other ranks stay as they were.
-- Assumes nothing.
use mathlib.Core.Path.{◌≡◌, refl, sym, ◌∙◌, ap}
use mathlib.Core.Logic.{◌≢◌}
use mathlib.Core.Bool.{Bool, true, false}
use mathlib.Core.List.{List}
use Prim.Native.Nat.{ℕ, suc, ◌+◌, ◌≤◌, ◌<◌}
use native.Mathlib.Omega.{arith}
use borrow.Author.Tests.{ltb-true, ltb-false}
use lib.ListN.{length, take, drop, length-take}
use lib.Seq.{take-take, take_at, length-take-le}
use lib.Dec.{ltb}
use Rattle.ranked.specs.declared.Shape.{Shape}
use Rattle.ranked.specs.Words.{first_at, size_at, total, lists_of, Held}
use Rattle.ranked.specs.Layout.{types_at, scratch_at}
use Rattle.ranked.proofs.Solids.{in_order_lem}
use Rattle.element_types.specs.Runs.{over}
use Rattle.element_types.specs.State.{types_in}
use Rattle.element_types.proofs.Parts.{run_take, length_over, take-over, drop_here, drop_past}

module _ (sh : Shape) (w : List ℕ) (h : Held sh (lists_of sh w)) where
  pub rank-within : (q : ℕ) → q ≤ sh.rank → first_at sh q + size_at sh q ≤ total sh
  rank-within q k = omega (arith, h.some q k, in_order_lem sh (lists_of sh w) h (suc q) (suc sh.rank) (omega arith) (omega arith))

  module _ (room : scratch_at sh ≤ length w) (r : ℕ) (within : r ≤ sh.rank) where
    abbrev out : ℕ
    out = scratch_at sh

    abbrev from : ℕ
    from = types_at sh r

    abbrev n : ℕ
    n = size_at sh r

    module _ (v R : List ℕ) (many : length R ≡ n) (e : take out v ≡ over (take out w) from (from + n) R) where
      W : List ℕ
      W = take out w

      W_long : length W ≡ out
      unfolding W
      W_long = length-take-le out w room

      part : from + length R ≡ from + n
      part = ap (λ (k : ℕ). from + k) many

      part_in : from + n ≤ length W
      part_in = omega (arith, W_long, rank-within r within)

      v_long : out ≤ length v
      unfolding W
      v_long = omega (arith, sym (length-take out v) ∙ ap length e ∙ length_over W from (from + n) R part part_in ∙ W_long)

      rank_new : (q : ℕ) → q ≤ sh.rank → types_in sh v q ≡ take (size_at sh q) (drop (types_at sh q) (over W from (from + n) R))
      unfolding types_in W
      rank_new q k =
          sym (run_take v out (types_at sh q) (size_at sh q) v_long (omega (arith, rank-within q k))) ∙ ap (λ (l : List ℕ). take (size_at sh q) (drop (types_at sh q) l)) e

      rank_old : (q : ℕ) → q ≤ sh.rank → take (size_at sh q) (drop (types_at sh q) W) ≡ types_in sh w q
      unfolding types_in W
      rank_old q k = run_take w out (types_at sh q) (size_at sh q) room (omega (arith, rank-within q k))

      pub replaced : types_in sh v r ≡ R
      replaced = rank_new r within ∙ ap (take n) (drop_here W from (from + n) R part part_in) ∙ take_at R (drop (from + n) W) n many

      below : (q : ℕ) → q < r → types_in sh v q ≡ types_in sh w q
      below q k =
          let c : types_at sh q + size_at sh q ≤ from = omega (arith, in_order_lem sh (lists_of sh w) h (suc q) r k (omega arith), h.some q (omega arith)) in
          let z : from ≤ length (over W from (from + n) R) = omega (arith, length_over W from (from + n) R part part_in, part_in) in
          rank_new q (omega arith)
          ∙ sym (run_take (over W from (from + n) R) from (types_at sh q) (size_at sh q) z c)
          ∙ ap (λ (l : List ℕ). take (size_at sh q) (drop (types_at sh q) l)) (take-over W from (from + n) R part part_in from (omega arith))
          ∙ run_take W from (types_at sh q) (size_at sh q) (omega (arith, part_in)) c
          ∙ rank_old q (omega arith)

      above : (q : ℕ) → q ≤ sh.rank → r < q → types_in sh v q ≡ types_in sh w q
      above q b k =
          let c = in_order_lem sh (lists_of sh w) h (suc r) q k (omega arith) in
          rank_new q b ∙ ap (take (size_at sh q)) (drop_past W from (from + n) R part part_in (types_at sh q) (omega (arith, h.some r within))) ∙ rank_old q b

      pub other : (q : ℕ) → q ≤ sh.rank → q ≢ r → types_in sh v q ≡ types_in sh w q
      other q b k = go (ltb q r) refl
        where
          go : (a : Bool) → ltb q r ≡ a → types_in sh v q ≡ types_in sh w q
          go true c = below q (ltb-true q r c)
          go false c = above q b (omega (arith, ltb-false q r c))

      pub lists-kept : lists_of sh v ≡ lists_of sh w
      unfolding W
      lists-kept =
          sym (take-take sh.low out v (omega arith)) ∙ ap (lists_of sh) e
          ∙ take-over W from (from + n) R part part_in sh.low (omega arith) ∙ take-take sh.low out w (omega arith)
