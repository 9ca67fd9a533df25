-- This file has the laws of the parts of a list: how many there are, each of them, and what is one more.
-- Assumes nothing.
use mathlib.Core.Path.{◌≡◌, refl, sym, ap, ap₂, ◌∙◌}
use mathlib.Core.List.{List, [], ◌∷◌, ◌++◌, map}
use Prim.Native.Nat.{ℕ, zero, suc, ◌+◌, ◌*◌, ◌≤◌, ◌<◌}
use native.Mathlib.Nat.{zero-mul, suc-mul, add_comm, add-mul, mul_assoc, mul-le-mul_right}
use native.Mathlib.Omega.{arith}
use lib.ListN.{length, get_or, take, drop, length-drop}
use lib.Seq.{ext_get_or, take-add, take-take, drop-drop, length-take-le}
use Rattle.spec.specs.Lists.{join, range, parts}
use Rattle.laws.proofs.Lists.{get_d_table, length_table}
use Rattle.float.proofs.Written.{drop-take}

module _ {A : Type 0} where
  pub length-parts : (n d : ℕ) (l : List A) → length (parts n d l) ≡ n
  unfolding parts
  length-parts zero d l = refl
  length-parts (suc n) d l = ap suc (length-parts n d (drop d l))

  -- Going n parts on after the first part is going on by n + 1 parts.
  further : (n d : ℕ) (l : List A) → drop (n * d) (drop d l) ≡ drop (suc n * d) l
  further n d l = rw (drop-drop (n * d) d l, suc-mul n d, add_comm (n * d) d)

  pub part_at : (n d : ℕ) (l : List A) (k : ℕ) → k < n → get_or (parts n d l) k [] ≡ take d (drop (k * d) l)
  unfolding parts
  part_at zero d l k h = absurd (omega arith)
  part_at (suc n) d l zero h = rw zero-mul
  part_at (suc n) d l (suc k) h = part_at n d (drop d l) k (omega arith) ∙ ap (take d) (further k d l)

  -- One part more is the part after the first n.
  pub parts_more : (n d : ℕ) (l : List A) → parts (suc n) d l ≡ parts n d l ++ (take d (drop (n * d) l) ∷ [])
  unfolding parts
  parts_more zero d l = rw zero-mul
  parts_more (suc n) d l =
      ap (λ (x : List (List A)). take d l ∷ x) (parts_more n d (drop d l) ∙ ap (λ (x : List A). parts n d (drop d l) ++ (take d x ∷ [])) (further n d l))

  -- The parts, one after another, are what they were cut from.
  pub join-parts : (n d : ℕ) (l : List A) → join (parts n d l) ≡ take (n * d) l
  unfolding parts join
  join-parts zero d l = rw zero-mul
  join-parts (suc n) d l = rw (suc-mul n d, add_comm (n * d) d, take-add d (n * d) l) (ap (λ (x : List A). take d l ++ x) (join-parts n d (drop d l)))

  -- Only the cells that are cut count.
  pub parts-take : (n d : ℕ) (l : List A) → parts n d (take (n * d) l) ≡ parts n d l
  unfolding parts
  parts-take zero d l = refl
  parts-take (suc n) d l =
      let e : suc n * d ≡ d + n * d = suc-mul n d ∙ add_comm (n * d) d in
      ap₂ (λ (x : List A) (y : List (List A)). x ∷ y)
      (ap (λ (k : ℕ). take d (take k l)) e ∙ take-take d (d + n * d) l (omega arith))
      (ap (λ (k : ℕ). parts n d (drop d (take k l))) e ∙ ap (parts n d) (drop-take d (n * d) l) ∙ parts-take n d (drop d l))

  -- The parts are those that their numbers tell.
  pub parts_table : (n d : ℕ) (l : List A) → map (λ i. take d (drop (i * d) l)) (range 0 n) ≡ parts n d l
  parts_table n d l =
      let t = length_table (λ i. take d (drop (i * d) l)) n in
      ext_get_or [] _ _ (t ∙ sym (length-parts n d l)) (λ i h. get_d_table _ [] n i (rw t at h) ∙ sym (part_at n d l i (rw t at h)))

  pub parts_same : (n d : ℕ) (l m : List A) → take (n * d) l ≡ take (n * d) m → parts n d l ≡ parts n d m
  parts_same n d l m e = sym (parts-take n d l) ∙ ap (parts n d) e ∙ parts-take n d m

-- Part k ends within the cells that are cut.
pub part_end : (n d k : ℕ) → k < n → k * d + d ≤ n * d
part_end n d k h = rw suc-mul at (mul-le-mul_right d h)

-- Each part is d long.
pub part_long : {A : Type 0} (n d : ℕ) (l : List A) (k : ℕ) → k < n → n * d ≤ length l → length (take d (drop (k * d) l)) ≡ d
part_long n d l k h f = length-take-le d (drop (k * d) l) (omega (arith, length-drop (k * d) l, part_end n d k h))

-- ---- matrices that stand row by row, d times d floats each

-- Row i of matrix j starts i rows after the start of the matrix.
pub row-place : (d j i : ℕ) → (j * d + i) * d ≡ j * (d * d) + i * d
row-place d j i = add-mul (j * d) i d ∙ ap (λ (k : ℕ). k + i * d) (mul_assoc j d d)
