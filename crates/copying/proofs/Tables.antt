-- The table as its rows make it up, and a row back from the call that wrote it.
-- Assumes nothing.
use mathlib.Core.Path.{◌≡◌, sym, ap, ◌∙◌}
use mathlib.Core.List.{List, [], ◌∷◌, ◌++◌, map}
use Prim.Native.Nat.{ℕ, zero, suc, ◌+◌, ◌-◌, ◌*◌, ◌≤◌, ◌<◌}
use native.Mathlib.Nat.{zero-mul, suc-mul, add_comm}
use native.Mathlib.Omega.{arith}
use lib.ListN.{length, get_or, take, drop, length-map, length-replicate, replicate}
use lib.Seq.{take_at, drop-drop, length-take-le, drop-append-add}
use borrow.Rule.Slice.PartMut.{mid_of, put_mid}
use Rattle.spec.specs.Lists.{join, written}
use Rattle.spec.specs.Matrix.{Vector, Matrix}
use Rattle.spec.specs.Points.{row_of}
use Rattle.spec.specs.Copying.{copy_table}
use Rattle.laws.proofs.Lists.{get_or-map}
use Rattle.laws.proofs.CopyLaws.{Wide, wide-join}
use Rattle.points.specs.Cells.{AllFound, SomeMissing}
use Rattle.points.proofs.Parts.{part_end}
use Rattle.points.proofs.Tails.{tail_is, tail_back, tail_written}
use Rattle.points.proofs.Filled.{Piece, length-row}

-- Filling the first n cells with one number writes that number over them.
pub filled_is : (n x : ℕ) (l : List ℕ) → replicate n x ++ drop n l ≡ written (replicate n x) l
unfolding written
filled_is n x l = ap (λ (k : ℕ). replicate n x ++ drop k l) (sym (length-replicate n x))

-- ---- the pieces: the rows

-- List j of some that are n long stands in the joined lists from place j * n on.
join-at : (n : ℕ) (ls : List (List ℕ)) (j : ℕ) → Wide n ls → j < length ls → take n (drop (j * n) (join ls)) ≡ get_or ls j []
unfolding join
join-at n [] j w h = absurd (omega arith)
join-at n (l ∷ ls) zero w h = rw zero-mul (take_at l (join ls) n w.0)
join-at n (l ∷ ls) (suc j) w h =
    let e : suc j * n ≡ length l + j * n = suc-mul j n ∙ add_comm (j * n) n ∙ ap (λ (k : ℕ). k + j * n) (sym w.0) in
    rw (e, drop-append-add l (join ls) (j * n)) (join-at n ls j w.1 (omega arith))

rows-wide : (cs : List Vector) (ms : List Matrix) → Wide (length cs) (map (row_of cs) ms)
rows-wide cs [] = tt
rows-wide cs (m ∷ ms) = (length-row cs m, rows-wide cs ms)

module _ (cs : List Vector) where
  pub row-piece : (ms : List Matrix) (n j : ℕ) → length cs ≡ n → j < length ms → Piece (copy_table ms cs) (j * n) n (row_of cs (get_or ms j []))
  unfolding copy_table
  row-piece ms n j e h =
      let rows = map (row_of cs) ms in
      let l : length rows ≡ length ms = length-map ms (row_of cs) in
      let w : Wide n rows = rw e at (rows-wide cs ms) in
      record {
        fits = omega (arith, part_end (length ms) n j h, wide-join n rows w, ap (λ (k : ℕ). k * n) l);
        is = sym (join-at n rows j w (omega (arith, l)) ∙ get_or-map (row_of cs) [] [] ms j h);
      }

-- ---- a row, back from a call on the part from cell k to the end

module _ (l ys : List ℕ) (k : ℕ) (h : k ≤ length l) (w : ℕ) {x : ℕ} {new : List ℕ} (n : length new ≡ w) where
  pub closed_back : AllFound x new (mid_of k (length l - k) l) ys → put_mid k (length l - k) l ys ≡ take k l ++ (new ++ drop w (drop k l))
  closed_back c = tail_written l ys k h w new n c.is

  pub opened_back : SomeMissing x new (mid_of k (length l - k) l) ys → drop (k + w) (put_mid k (length l - k) l ys) ≡ drop (k + w) l
  opened_back o =
      let p : drop w ys ≡ drop w (drop k l) = rw n at (o.past ∙ ap (drop (length new)) (tail_is l ys k h)) in
      let e : length (take k l) + w ≡ k + w = ap (λ (y : ℕ). y + w) (length-take-le k l h) in
      ap (drop (k + w)) (tail_back l ys k h)
      ∙ ap (λ (y : ℕ). drop y (take k l ++ ys)) (sym e)
      ∙ drop-append-add (take k l) ys w
      ∙ p
      ∙ drop-drop w k l
