-- A table is written from its first cell on, piece by piece, until a piece holds the number of an image that is not found.
-- Assumes nothing.
use mathlib.Core.Path.{◌≡◌, refl, sym, ap, ap₂, ◌∙◌}
use mathlib.Core.Bool.{Bool, true, false, not, ◌||◌, or-true}
use mathlib.Core.List.{List, [], ◌∷◌, ◌++◌, append_assoc}
use Prim.Native.Nat.{ℕ, suc, ◌+◌, ◌-◌, ◌≤◌, ◌<◌}
use native.Mathlib.Numerals.{add-one}
use native.Mathlib.Decide.{ℕ_discrete}
use native.Mathlib.Omega.{arith}
use lib.ListN.{length, get_or, set, take, drop, length-map, take-append-drop}
use lib.Seq.{take_at, drop_at, take-add, take-length, drop-cons, drop-drop, drop-append-le, set_split, length-take-le}
use lib.Dec.{eqb, ltb}
use borrow.Author.Tests.{eq-eqb, ne_eqb, lt-ltb, le-ltb}
use Rattle.spec.specs.Lists.{holds, every, written}
use Rattle.spec.specs.Matrix.{Vector, Matrix, mul_vec}
use Rattle.spec.specs.Points.{find, found, row_of}
use Rattle.laws.proofs.Lists.{get_or-map}
use Rattle.laws.proofs.CopyLaws.{found-near, not_found}
use Rattle.points.specs.Cells.{AllFound, SomeMissing, Tabled}

-- ---- a number in a list

module _ (x : ℕ) where
  held_append : (a b : List ℕ) → holds eqb x (a ++ b) ≡ (holds eqb x a || holds eqb x b)
  unfolding holds
  held_append [] b = refl
  held_append (y ∷ a) b = go (eqb y x) (held_append a b)
    where
      go : (t : Bool) → holds eqb x (a ++ b) ≡ (holds eqb x a || holds eqb x b)
          → ◌≡◌ {A = Bool} (elim t [ true ↦ true | false ↦ holds eqb x (a ++ b) ]) ((elim t as (λ _. Bool) [ true ↦ true | false ↦ holds eqb x a ]) || holds eqb x b)
      go true e = refl
      go false e = e

  none-append : (a b : List ℕ) → holds eqb x a ≡ false → holds eqb x b ≡ false → holds eqb x (a ++ b) ≡ false
  none-append a b e f = held_append a b ∙ ap₂ ◌||◌ e f

  left_held : (a b : List ℕ) → holds eqb x a ≡ true → holds eqb x (a ++ b) ≡ true
  left_held a b e = held_append a b ∙ ap (λ (t : Bool). t || holds eqb x b) e

  right_held : (a b : List ℕ) → holds eqb x b ≡ true → holds eqb x (a ++ b) ≡ true
  right_held a b e = held_append a b ∙ ap (λ (t : Bool). holds eqb x a || t) e ∙ or-true (holds eqb x a)

  pub one_held : (y : ℕ) → y ≡ x → holds eqb x (y ∷ []) ≡ true
  unfolding holds
  one_held y e = rw (eq-eqb y x e, holds)

  pub one-other : (y : ℕ) → (y ≡ x → ⊥) → holds eqb x (y ∷ []) ≡ false
  unfolding holds
  one-other y e = rw (ne_eqb y x e, holds)

-- ---- the loop's invariant: k cells are written, and none is x

pub record CellsFilled (x : ℕ) (new before buffer : List ℕ) (k : ℕ) : Type 0 where
  pub within : k ≤ length new
  pub is : buffer ≡ take k new ++ drop k before
  pub none : holds eqb x (take k new) ≡ false

-- A piece is w cells of `new`, from cell k on.
pub record Piece (new : List ℕ) (k w : ℕ) (piece : List ℕ) : Type 0 where
  pub fits : k + w ≤ length new
  pub is : piece ≡ take w (drop k new)

module _ {x : ℕ} {new before : List ℕ} where
  pub filled_none : CellsFilled x new before before 0
  unfolding holds
  filled_none = record { within = omega arith; is = refl; none = refl }

  module _ {buffer : List ℕ} {k : ℕ} (f : CellsFilled x new before buffer k) where
    start : take k buffer ≡ take k new
    start = ap (take k) f.is ∙ take_at (take k new) (drop k before) k (length-take-le k new f.within)

    rest : drop k buffer ≡ drop k before
    rest = ap (drop k) f.is ∙ drop_at (take k new) (drop k before) k (length-take-le k new f.within)

    -- What follows a cell from k on is as it was.
    beyond : (n : ℕ) → k ≤ n → drop n buffer ≡ drop n before
    beyond n h =
        let e : n ≡ k + (n - k) = omega arith in
        rw e (sym (drop-drop (n - k) k buffer) ∙ ap (drop (n - k)) rest ∙ drop-drop (n - k) k before)

    module _ {w : ℕ} {piece : List ℕ} (p : Piece new k w piece) where
      pub filled_next : {after : List ℕ} → holds eqb x piece ≡ false → after ≡ take k buffer ++ (piece ++ drop w (drop k buffer)) → CellsFilled x new before after (k + w)
      filled_next o e =
          let more : take (k + w) new ≡ take k new ++ piece = take-add k w new ∙ ap (λ (y : List ℕ). take k new ++ y) (sym p.is) in
          record {
            within = p.fits;
            is =
                e
                ∙ ap₂ (λ (y z : List ℕ). y ++ (piece ++ drop w z)) start rest
                ∙ sym (append_assoc (take k new) piece (drop w (drop k before)))
                ∙ ap₂ (λ (y z : List ℕ). y ++ z) (sym more) (drop-drop w k before);
            none = rw more (none-append x (take k new) piece f.none o);
          }

      pub filled_open : {after : List ℕ} → holds eqb x piece ≡ true → drop (k + w) after ≡ drop (k + w) buffer → SomeMissing x new before after
      filled_open {after} o e =
          let all : (take k new ++ piece) ++ drop (k + w) new ≡ new =
          ap (λ (y : List ℕ). (take k new ++ y) ++ drop (k + w) new) p.is
          ∙ ap (λ (y : List ℕ). y ++ drop (k + w) new) (sym (take-add k w new))
          ∙ take-append-drop (k + w) new in
          let n = length new in
          let g : n ≡ (k + w) + (n - (k + w)) = omega (arith, p.fits) in
          record {
            some = rw all at (left_held x (take k new ++ piece) (drop (k + w) new) (right_held x (take k new) piece o));
            past =
                ap (λ (y : ℕ). drop y after) g
                ∙ sym (drop-drop (n - (k + w)) (k + w) after)
                ∙ ap (drop (n - (k + w))) e
                ∙ drop-drop (n - (k + w)) (k + w) buffer
                ∙ ap (λ (y : ℕ). drop y buffer) (sym g)
                ∙ beyond n f.within;
          }

  pub filled_end : {buffer : List ℕ} {k : ℕ} → length new ≤ k → CellsFilled x new before buffer k → AllFound x new before buffer
  unfolding written
  filled_end {buffer} {k} h f =
      let e : k ≡ length new = omega (arith, f.within) in
      let t : take k new ≡ new = ap (λ (y : ℕ). take y new) e ∙ take-length new in
      record {
        none = rw t at f.none;
        is = f.is ∙ ap₂ (λ (y z : List ℕ). y ++ z) t (ap (λ (y : ℕ). drop y before) e);
      }

-- What is filled in a buffer's first n cells is filled in the buffer.
pub filled_wide : {x : ℕ} {new before buffer : List ℕ} {k : ℕ} (n : ℕ) → k ≤ n → n ≤ length before → CellsFilled x new (take n before) buffer k
    → CellsFilled x new before (buffer ++ drop n before) k
filled_wide {x} {new} {before} {buffer} {k} n g h f =
    let front = take n before in
    let back = drop n before in
    record {
      within = f.within;
      is =
          ap (λ (y : List ℕ). y ++ back) f.is
          ∙ append_assoc (take k new) (drop k front) back
          ∙ ap
          (λ (y : List ℕ). take k new ++ y)
          (sym (drop-append-le k front back (omega (arith, length-take-le n before h))) ∙ ap (drop k) (take-append-drop n before));
      none = f.none;
    }

-- ---- the pieces: a cell

pub cell : (new : List ℕ) (k y : ℕ) → k < length new → y ≡ get_or new k 0 → Piece new k 1 (y ∷ [])
cell new k y h e = record { fits = omega arith; is = rw (drop-cons new k 0 h, e) }

pub cell_set : (l : List ℕ) (k y : ℕ) → k < length l → set l k y ≡ take k l ++ ((y ∷ []) ++ drop 1 (drop k l))
cell_set l k y h = rw (set_split l k y h, drop-drop 1 k l, add-one)

-- ---- a row

module _ (cs : List Vector) where
  pub length-row : (m : Matrix) → length (row_of cs m) ≡ length cs
  unfolding row_of
  length-row m = length-map cs (λ c. find cs (mul_vec m c))

  pub cell_is : (m : Matrix) (k : ℕ) → k < length cs → get_or (row_of cs m) k 0 ≡ find cs (mul_vec m (get_or cs k []))
  unfolding row_of
  cell_is m k h = get_or-map (λ c. find cs (mul_vec m c)) [] 0 cs k h

-- ---- what the answer says of every image

-- Where no number is above x, all are below it where none is it.
every-below : (x : ℕ) (l : List ℕ) → ((i : ℕ) → i < length l → get_or l i 0 ≤ x) → every (λ v. ltb v x) l ≡ not (holds eqb x l)
unfolding every holds
every-below x [] h = refl
every-below x (y ∷ l) h = go (ℕ_discrete y x) (every-below x l (λ i k. h (suc i) (omega arith)))
  where
    go : Dec (y ≡ x) → every (λ v. ltb v x) l ≡ not (holds eqb x l) → every (λ v. ltb v x) (y ∷ l) ≡ not (holds eqb x (y ∷ l))
    go (yes e) r = rw (eq-eqb y x e, le-ltb y x (omega arith), every, holds)
    go (no e) r = rw (ne_eqb y x e, lt-ltb y x (omega (arith, h 0 (omega arith))), every, holds) r

module _ (cs : List Vector) (m : Matrix) where
  below : (i : ℕ) → i < length (row_of cs m) → get_or (row_of cs m) i 0 ≤ length cs
  below i h =
      let q = mul_vec m (get_or cs i []) in
      let e : get_or (row_of cs m) i 0 ≡ find cs q = cell_is cs m i (omega (arith, length-row cs m)) in
      go q (found cs q) refl e
    where
      go : (q : Vector) (b : Bool) → found cs q ≡ b → get_or (row_of cs m) i 0 ≡ find cs q → get_or (row_of cs m) i 0 ≤ length cs
      go q true t e = omega (arith, e, found-near cs q t)
      go q false t e = omega (arith, e, not_found cs q t)

  pub all_found : (n : ℕ) → length cs ≡ n → (before after : List ℕ) (r : Bool) → Tabled n (row_of cs m) before after r → r ≡ every (λ v. ltb v n) (row_of cs m)
  all_found n e before after true t = sym (every-below n (row_of cs m) (rw e at below) ∙ ap not t.none)
  all_found n e before after false t = sym (every-below n (row_of cs m) (rw e at below) ∙ ap not t.some)

  -- The first cells hold the row.
  pub row_read : (n : ℕ) → length cs ≡ n → {before after : List ℕ} → AllFound n (row_of cs m) before after → take n after ≡ row_of cs m
  unfolding written
  row_read n e t = ap (take n) t.is ∙ take_at (row_of cs m) _ n (length-row cs m ∙ e)
