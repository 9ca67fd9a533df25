-- A step reads the words below the free ones, numbers the elements of a rank in the free ones, and puts the numbers over the types.
-- Assumes nothing.
use borrow.Rule.Slice.PartMut.{put_mid}
use mathlib.Core.Path.{◌≡◌, refl, sym, ◌∙◌, ap, ap₂}
use mathlib.Core.List.{List, ◌++◌}
use Prim.Native.Nat.{ℕ, ◌+◌, ◌-◌, ◌≤◌}
use native.Mathlib.Omega.{arith}
use lib.ListN.{length, take, drop, length-append, length-take, length-drop}
use lib.Seq.{take_at, take-take}
use Rattle.ranked.specs.declared.Shape.{Shape}
use Rattle.ranked.specs.Words.{size_at, lists_of}
use Rattle.ranked.specs.Layout.{types_at, scratch_at}
use Rattle.element_types.specs.Runs.{over}
use Rattle.element_types.specs.Numbers.{numbers_of, Numberable}
use Rattle.element_types.specs.State.{types_in, Stepping, stepped_at}
use Rattle.element_types.proofs.Parts.{run_take, length_over, put_over}
use Rattle.element_types.proofs.Replaced.{rank-within}

-- The words w are the parts H and F, where F is free.
module _ (sh : Shape) (w : List ℕ) (r base next : ℕ) (s : Stepping sh w r base next) (H F : List ℕ) (w_is : w ≡ H ++ F) (H_long : length H ≡ scratch_at sh) where
  room : scratch_at sh ≤ length w
  room = omega (arith, s.room)

  front : take (scratch_at sh) w ≡ H
  front = ap (take (scratch_at sh)) w_is ∙ take_at H F (scratch_at sh) H_long

  lists-same : lists_of sh H ≡ lists_of sh w
  lists-same = ap (lists_of sh) (sym front) ∙ take-take sh.low (scratch_at sh) w (omega arith)

  types-same : (q : ℕ) → q ≤ sh.rank → types_in sh H q ≡ types_in sh w q
  unfolding types_in
  types-same q k =
      ap (λ (l : List ℕ). take (size_at sh q) (drop (types_at sh q) l)) (sym front)
      ∙ run_take w (scratch_at sh) (types_at sh q) (size_at sh q) room (omega (arith, rank-within sh w s.held q k))

  many : length (types_in sh H r) ≡ size_at sh r
  unfolding types_in
  many = simp (length-take, length-drop) (omega (arith, H_long, rank-within sh w s.held r s.within))

  -- In the code's terms, this is what it read, and the parts of the free words.
  module _ (l own beside : List ℕ) (l_is : l ≡ lists_of sh H) (own_is : own ≡ types_in sh H r) (beside_is : beside ≡ types_in sh H next) where
    module _ (numbers rest places keys : List ℕ) (n : ℕ) (n_is : n ≡ size_at sh r) (F_is : F ≡ numbers ++ rest) (a : length numbers ≡ n) (rest_is : rest ≡ places ++ keys) (b : length places ≡ n) where
      pub numberable : Numberable l base own beside numbers places keys
      numberable = rw (l_is, own_is, beside_is) record {
        neighbours = rw (lists-same, types-same r s.within, types-same next s.beside) s.ready;
        numbered = a ∙ n_is ∙ sym many;
        placed = omega (arith, b, n_is, many);
        room = rw (lists-same, many)
            (omega (arith, s.room, many, H_long, n_is, a, b, ap length w_is ∙ length-append H F, ap length F_is ∙ length-append numbers rest, ap length rest_is ∙ length-append places keys));
      }

    pub stepped_at_lem : (N G : List ℕ) → N ≡ numbers_of l base own beside → (n from : ℕ) → n ≡ size_at sh r → from ≡ types_at sh r → length N ≡ n
        → take (scratch_at sh) (put_mid from (from + n - from) H N ++ G) ≡ stepped_at sh w r base next
    unfolding stepped_at
    stepped_at_lem N G N_is n from n_is from_is long =
        let e : put_mid from (from + n - from) H N ≡ over H from (from + n) N = put_over H from (from + n - from) (from + n) N (omega (arith, long)) (omega arith) in
        let fits : from + n ≤ length H = omega (arith, H_long, n_is, from_is, rank-within sh w s.held r s.within) in
        let f : numbers_of l base own beside ≡ numbers_of (lists_of sh w) base (types_in sh w r) (types_in sh w next) =
        rw (l_is ∙ lists-same, own_is ∙ types-same r s.within, beside_is ∙ types-same next s.beside) refl in
        take_at (put_mid from (from + n - from) H N) G (scratch_at sh) (ap length e ∙ length_over H from (from + n) N (omega (arith, long)) fits ∙ H_long)
        ∙ e ∙ ap₂ (λ (h x : List ℕ). over h from (from + n) x) (sym front) (N_is ∙ f)
        ∙ ap₂ (λ (m k : ℕ). over (take (scratch_at sh) w) k (k + m) (numbers_of (lists_of sh w) base (types_in sh w r) (types_in sh w next))) n_is from_is
