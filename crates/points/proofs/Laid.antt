-- Pieces of one length are laid one after another from the front of a buffer.
-- Assumes nothing.
use mathlib.Core.Path.{◌≡◌, refl, sym, ap, ◌∙◌}
use mathlib.Core.List.{List, [], ◌∷◌, ◌++◌, append-nil, append_assoc}
use Prim.Native.Nat.{ℕ, ◌+◌, ◌-◌, ◌*◌, ◌≤◌, ◌<◌}
use native.Mathlib.Nat.{zero-mul, suc-mul}
use native.Mathlib.Numerals.{add-one}
use native.Mathlib.Omega.{arith}
use lib.ListN.{length, get_or, take, length-append}
use lib.Seq.{take_all, take-suc}
use borrow.Rule.Slice.PartMut.{mid_of, put_mid}
use Rattle.spec.specs.Lists.{join, written}
use Rattle.points.proofs.Tails.{part-written}

module _ {A : Type 0} where
  pub join-append : (a b : List (List A)) → join (a ++ b) ≡ join a ++ join b
  unfolding join
  join-append [] b = refl
  join-append (l ∷ a) b = ap (λ (x : List A). l ++ x) (join-append a b) ∙ sym (append_assoc l (join a) (join b))

  -- The first k pieces, w cells each, are in place.
  pub record PiecesLaid (w : ℕ) (pieces : List (List A)) (before buffer : List A) (k : ℕ) : Type 0 where
    pub long : length (join (take k pieces)) ≡ k * w
    pub is : buffer ≡ written (join (take k pieces)) before

  pub laid_none : (w : ℕ) (pieces : List (List A)) (before : List A) → PiecesLaid w pieces before before 0
  unfolding join written
  laid_none w pieces before = record { long = sym (zero-mul w); is = refl }

  joined_more : (pieces : List (List A)) (k : ℕ) → k < length pieces → join (take (k + 1) pieces) ≡ join (take k pieces) ++ get_or pieces k []
  unfolding join
  joined_more pieces k h =
      let x = get_or pieces k [] in
      ap (λ (i : ℕ). join (take i pieces)) (add-one k)
      ∙ ap join (take-suc pieces k [] h)
      ∙ join-append (take k pieces) (x ∷ [])
      ∙ ap (λ (l : List A). join (take k pieces) ++ l) (append-nil x)

  module _ {w : ℕ} {pieces : List (List A)} {before buffer : List A} {k : ℕ} (l : PiecesLaid w pieces before buffer k) where
    -- The next piece is written to the part after them.
    pub laid_next : {part : List A} → k < length pieces → length (get_or pieces k []) ≡ w → k * w ≤ length buffer
        → part ≡ written (get_or pieces k []) (mid_of (k * w) (length buffer - k * w) buffer)
        → PiecesLaid w pieces before (put_mid (k * w) (length buffer - k * w) buffer part) (k + 1)
    laid_next {part} h n f e =
        let old = join (take k pieces) in
        let new = get_or pieces k [] in
        record {
          long = ap length (joined_more pieces k h) ∙ length-append old new ∙ omega (arith, l.long, n, rw (← add-one) at (suc-mul k w));
          is = part-written old new before buffer part (k * w) l.long f l.is e ∙ ap (λ (x : List A). written x before) (sym (joined_more pieces k h));
        }

    pub laid_all : k ≡ length pieces → (length (join pieces) ≡ length pieces * w) × (buffer ≡ written (join pieces) before)
    laid_all e =
        let all = take_all k pieces (omega arith) in
        (rw (all, e) at l.long, rw all at l.is)
