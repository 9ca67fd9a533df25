-- This file is about the part of a buffer from a cell to its end: what a loop writes at its front, and the buffer as it is back from the call.
-- Assumes nothing.
use mathlib.Core.Path.{◌≡◌, sym, ap, ap₂, ◌∙◌}
use mathlib.Core.List.{List, [], ◌++◌, map, append-nil, append_assoc}
use Prim.Native.Nat.{ℕ, ◌+◌, ◌-◌, ◌≤◌}
use native.Mathlib.Omega.{arith}
use lib.ListN.{length, take, drop, length-append, length-drop, drop_of_length-le}
use lib.Seq.{take_all, drop-drop, take-append_seam, drop-append_seam}
use borrow.Rule.Slice.PartMut.{mid_of, post_of, put_mid}
use Rattle.spec.specs.Lists.{range, written}
use Rattle.laws.proofs.Lists.{length_table}
use Rattle.float.proofs.Written.{Written, whole}

module _ {A : Type 0} (l ys : List A) (k : ℕ) (h : k ≤ length l) where
  pub tail_is : mid_of k (length l - k) l ≡ drop k l
  tail_is = take_all (length l - k) (drop k l) (omega (arith, length-drop k l))

  pub tail_back : put_mid k (length l - k) l ys ≡ take k l ++ ys
  tail_back =
      let post : post_of k (length l - k) l ≡ [] = drop_of_length-le (drop k l) {i = length l - k} (omega (arith, length-drop k l)) in
      rw (post, append-nil)

  -- The w cells `new` are written at the front of the part.
  pub tail_written : (w : ℕ) (new : List A) → length new ≡ w → ys ≡ written new (mid_of k (length l - k) l) → put_mid k (length l - k) l ys ≡ take k l ++ (new ++ drop w (drop k l))
  unfolding written
  tail_written w new n e = tail_back ∙ ap (λ (y : List A). take k l ++ y) (e ∙ ap₂ (λ (a : ℕ) (b : List A). new ++ drop a b) n tail_is)

-- A loop that writes a cell a turn, from the first on, has written them over the front of an output that may be longer.
module _ {A : Type 0} {old out : List A} {i : ℕ} (n : ℕ) (p : i ≤ n) (q : n ≤ i) where
  pub front_written : {g : ℕ → A} → Written (λ x. x) g old out i → out ≡ written (map g (range 0 n)) old
  unfolding written
  front_written {g} w = whole n p q w ∙ ap (λ (k : ℕ). map g (range 0 n) ++ drop k old) (sym (length_table g n))

-- The list `cells` stands in the output, and `new` is written to the part after it.
written_after : {A : Type 0} (cells new old : List A) → take (length cells) (written cells old) ++ written new (drop (length cells) (written cells old)) ≡ written (cells ++ new) old
unfolding written
written_after cells new old =
    rw (take-append_seam cells (drop (length cells) old), drop-append_seam cells (drop (length cells) old), drop-drop (length new) (length cells) old, length-append cells new)
    (sym (append_assoc cells new (drop (length cells + length new) old)))

-- The same holds of a part that was lent and is back.
pub part-written : {A : Type 0} (cells new old now part : List A) (k : ℕ) → length cells ≡ k → k ≤ length now → now ≡ written cells old
    → part ≡ written new (mid_of k (length now - k) now) → put_mid k (length now - k) now part ≡ written (cells ++ new) old
part-written cells new old now part k l h z e =
    tail_back now part k h ∙ ap (λ u. take k now ++ u) (e ∙ ap (λ u. written new u) (tail_is now part k h)) ∙ rw (z, ← l) (written_after cells new old)
