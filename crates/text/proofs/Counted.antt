-- This file has sums of a list's first cells, and counts of the members of a kind.
-- Assumes nothing.
use mathlib.Core.Path.{◌≡◌, refl, sym, ap, subst, ◌∙◌}
use mathlib.Core.Bool.{Bool, true, false, cond}
use mathlib.Core.List.{List, [], ◌∷◌, ◌++◌, map, map-append, map-id}
use Prim.Native.Nat.{ℕ, zero, suc, ◌+◌, ◌*◌, ◌≤◌, ◌<◌}
use native.Mathlib.Nat.{zero-add}
use native.Mathlib.Numerals.{add-one}
use native.Mathlib.Omega.{arith}
use lib.ListN.{length, get_or, take, drop, length-append}
use lib.Ieee.{Float, lt}
use Rattle.std.specs.List.{filter, range_with_len, sum_by}
use Rattle.std.proofs.lemmas.List.FromFn.{filter_of_map_range_with_len_more}
use Rattle.std.proofs.lemmas.List.Recursion.{is_sum_by}
use Rattle.spec.specs.Lists.{sum, parts}
use Rattle.spec.specs.Float.{zero_f}
use Rattle.spec.specs.Matrix.{Matrix, determinant}
use Rattle.spec.specs.Search.{Member, is_rotation, rotations_of}
use Rattle.spec.specs.KitText.{members_line}
use Rattle.points.proofs.Parts.{parts_more}
use Rattle.text.specs.Members.{members_text, rotation_count}

pub summed : (l : List ℕ) → sum l ≡ sum_by (λ v. v) l
unfolding sum
summed = is_sum_by sum (λ v. v) refl (λ v l. refl)

pub sum-most : (l : List ℕ) → ((i : ℕ) → i < length l → get_or l i 0 ≤ 255) → sum l ≤ 255 * length l
unfolding sum
sum-most [] h = omega arith
sum-most (x ∷ l) h = omega (arith, h 0 (omega arith), sum-most l (λ i k. h (suc i) (omega (arith, k))))

-- ---- rotations

count_yes : (m : Matrix) (ms : List Matrix) → lt zero_f (determinant m) ≡ true → rotation_count (m ∷ ms) ≡ suc (rotation_count ms)
unfolding rotation_count
count_yes m ms e = rw (e, rotation_count)

count_no : (m : Matrix) (ms : List Matrix) → lt zero_f (determinant m) ≡ false → rotation_count (m ∷ ms) ≡ rotation_count ms
unfolding rotation_count
count_no m ms e = rw (e, rotation_count)

count_add : (ms : List Matrix) (x : Matrix) → rotation_count (ms ++ (x ∷ [])) ≡ rotation_count ms + rotation_count (x ∷ [])
unfolding rotation_count
count_add [] x = omega arith
count_add (m ∷ ms) x = go (lt zero_f (determinant m)) refl (count_add ms x)
  where
    go : (b : Bool) → lt zero_f (determinant m) ≡ b → rotation_count (ms ++ (x ∷ [])) ≡ rotation_count ms + rotation_count (x ∷ [])
        → rotation_count ((m ∷ ms) ++ (x ∷ [])) ≡ rotation_count (m ∷ ms) + rotation_count (x ∷ [])
    go true e ih = omega (arith, count_yes m (ms ++ (x ∷ [])) e, count_yes m ms e)
    go false e ih = omega (arith, count_no m (ms ++ (x ∷ [])) e, count_no m ms e)

-- The matrices that a slice begins with are counted one more at a time.
module _ (l : List Float) (d : ℕ) where
  abbrev counted : ℕ → ℕ
  counted n = rotation_count (map (parts d d) (parts n (d * d) l))

  counted_next : (j : ℕ) → counted (j + 1) ≡ counted j + rotation_count (parts d d (take (d * d) (drop (j * (d * d)) l)) ∷ [])
  counted_next j =
      rw (add-one j, parts_more j (d * d) l, map-append (parts d d) (parts j (d * d) l) (take (d * d) (drop (j * (d * d)) l) ∷ []))
      (count_add (map (parts d d) (parts j (d * d) l)) (parts d d (take (d * d) (drop (j * (d * d)) l))))

  -- The next matrix counts as one where its determinant is above 0, and as none otherwise.
  module _ (j : ℕ) where
    abbrev next : Matrix
    next = parts d d (take (d * d) (drop (j * (d * d)) l))

    counted_yes : lt zero_f (determinant next) ≡ true → counted (j + 1) ≡ counted j + 1
    unfolding rotation_count
    counted_yes e = omega (arith, counted_next j, count_yes next [] e)

    counted_no : lt zero_f (determinant next) ≡ false → counted (j + 1) ≡ counted j
    unfolding rotation_count
    counted_no e = omega (arith, counted_next j, count_no next [] e)

  -- These are the numbers of the rotations.
  abbrev pub turns : ℕ → Bool
  turns j = lt zero_f (determinant (next j))

  filtered : (n : ℕ) → length (filter turns (map (λ j. j) (range_with_len 0 n))) ≡ counted n
  unfolding parts rotation_count
  filtered zero = refl
  filtered (suc n) =
      subst
      (λ k. length (filter turns (map (λ j. j) (range_with_len 0 k))) ≡ counted k)
      (add-one n)
      (ap length (filter_of_map_range_with_len_more turns (λ j. j) 0 n n (zero-add n)) ∙ go (turns n) refl (filtered n))
    where
      go : (b : Bool) → turns n ≡ b → length (filter turns (map (λ j. j) (range_with_len 0 n))) ≡ counted n
          → length (filter turns (map (λ j. j) (range_with_len 0 n)) ++ cond b (n ∷ []) []) ≡ counted (n + 1)
      go true e ih = length-append (filter turns (map (λ j. j) (range_with_len 0 n))) (n ∷ []) ∙ omega (arith, ih, counted_yes n e)
      go false e ih = length-append (filter turns (map (λ j. j) (range_with_len 0 n))) [] ∙ omega (arith, ih, counted_no n e)

  pub turns-counted : (n : ℕ) → length (filter turns (range_with_len 0 n)) ≡ counted n
  turns-counted n = ap (λ l. length (filter turns l)) (sym (map-id (range_with_len 0 n))) ∙ filtered n

kept_yes : (m : Member) (ms : List Member) → is_rotation m ≡ true → rotations_of (m ∷ ms) ≡ m ∷ rotations_of ms
unfolding rotations_of
kept_yes m ms e = rw (e, rotations_of)

kept_no : (m : Member) (ms : List Member) → is_rotation m ≡ false → rotations_of (m ∷ ms) ≡ rotations_of ms
unfolding rotations_of
kept_no m ms e = rw (e, rotations_of)

-- The count of members' matrices is the count of the members.
pub count-rotations : (ms : List Member) → rotation_count (map (λ x. x.matrix) ms) ≡ length (rotations_of ms)
unfolding rotation_count rotations_of is_rotation
count-rotations [] = refl
count-rotations (m ∷ ms) = go (is_rotation m) refl (count-rotations ms)
  where
    go : (b : Bool) → is_rotation m ≡ b → rotation_count (map (λ x. x.matrix) ms) ≡ length (rotations_of ms)
        → rotation_count (map (λ x. x.matrix) (m ∷ ms)) ≡ length (rotations_of (m ∷ ms))
    go true e ih = count_yes m.matrix (map (λ x. x.matrix) ms) e ∙ ap suc ih ∙ sym (ap length (kept_yes m ms e))
    go false e ih = count_no m.matrix (map (λ x. x.matrix) ms) e ∙ ih ∙ sym (ap length (kept_no m ms e))

-- The line of members is that of the numbers.
pub members_line_lem : (ms : List Member) → members_line ms ≡ members_text (length ms) (sum (map (λ x. x.mark) ms)) (length (rotations_of ms))
unfolding members_line members_text
members_line_lem ms = refl
