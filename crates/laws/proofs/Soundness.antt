-- This file has a test for `Sound`, and shows on the square that the hypotheses of demand 3 can be met.
-- Assumes nothing.
use mathlib.Core.Path.{◌≡◌, refl}
use mathlib.Core.Logic.{inl, inr}
use Prim.Native.Nat.{ℕ, zero, suc, ◌-◌, ◌<◌}
use mathlib.Core.Bool.{Bool, true, false, ◌&&◌, ◌||◌, false≢true}
use mathlib.Core.List.{List, [], ◌∷◌}
use native.Mathlib.Omega.{arith}
use lib.ListN.{length, get_or}
use lib.Dec.{eqb, ltb, lit<}
use Rattle.spec.specs.Lists.{In, eq_list, range, every}
use Rattle.spec.specs.Types.{Solid, top, size, subs, type_of, start, up, down, play}
use Rattle.spec.specs.Demand.{RisingAbove, Rising, Sound}
use Rattle.spec.specs.Mark.{goes}
use Rattle.spec.specs.SolidExamples.{square, point, alike, square-types, quarter}
use Rattle.laws.proofs.Counts.{numbers, lists}
use Rattle.laws.proofs.Marked.{both, lt_test, every_both, every_in}
use Rattle.laws.proofs.Demand3.{demand3}

rising_above : ℕ → List ℕ → Bool
rising_above x [] = true
rising_above x (y ∷ l) = ltb x y && rising_above y l

rising : List ℕ → Bool
rising [] = true
rising (x ∷ l) = rising_above x l

-- The lists of each rank lie below the size of the rank before.
low : Solid → Bool
low [] = true
low (a ∷ []) = true
low (a ∷ b ∷ s) = every (λ l. every (λ x. ltb x (length a)) l) b && low (b ∷ s)

bottom : List (List ℕ) → Bool
bottom ([] ∷ []) = true
bottom [] = false
bottom ([] ∷ l ∷ ls) = false
bottom ((x ∷ l) ∷ ls) = false

pub sound : Solid → Bool
sound s = bottom (get_or s 0 []) && low s && every (every rising) s && eqb (size s (top s)) 1 && (eqb (top s) 0 || eq_list (subs s (top s) 0) (range 0 (size s (top s - 1))))

in_list : (x e : ℕ) (ls : List (List ℕ)) → In x (get_or ls e []) → In (get_or ls e []) ls
in_list x zero (l ∷ ls) m = inl refl
in_list x (suc e) (l ∷ ls) m = inr (in_list x e ls m)
in_list x zero [] m = elim m [ ]
in_list x (suc e) [] m = elim m [ ]

is_low : (s : Solid) → low s ≡ true → (r e x : ℕ) → In x (get_or (get_or s (suc r) []) e []) → x < length (get_or s r [])
unfolding low
is_low (a ∷ b ∷ s) q zero e x m =
    let h = both (every (λ l. every (λ y. ltb y (length a)) l) b) (low (b ∷ s)) q in
    lt_test x (length a) (every_in (λ y. ltb y (length a)) (get_or b e []) (every_in (λ l. every (λ y. ltb y (length a)) l) b h.0 (get_or b e []) (in_list x e b m)) x m)
is_low (a ∷ b ∷ s) q (suc r) e x m = is_low (b ∷ s) (both (every (λ l. every (λ y. ltb y (length a)) l) b) (low (b ∷ s)) q).1 r e x m
is_low [] q r e x m = elim m [ ]
is_low (a ∷ []) q r e x m = elim m [ ]

every-at : {A : Type 0} (p : A → Bool) (d : A) → p d ≡ true → (l : List A) → every p l ≡ true → (i : ℕ) → p (get_or l i d) ≡ true
unfolding every
every-at p d h [] e i = h
every-at p d h (x ∷ l) e zero = (every_both p x l e).0
every-at p d h (x ∷ l) e (suc i) = every-at p d h l (every_both p x l e).1 i

is_above : (x : ℕ) (l : List ℕ) → rising_above x l ≡ true → RisingAbove x l
unfolding rising_above
is_above x [] e = tt
is_above x (y ∷ l) e = let h = both (ltb x y) (rising_above y l) e in (lt_test x y h.0, is_above y l h.1)

is_rising : (l : List ℕ) → rising l ≡ true → Rising l
unfolding rising
is_rising [] e = tt
is_rising (x ∷ l) e = is_above x l e

is_bottom : (l : List (List ℕ)) → bottom l ≡ true → l ≡ [] ∷ []
unfolding bottom
is_bottom ([] ∷ []) e = refl
is_bottom [] e = absurd (false≢true e)
is_bottom ([] ∷ l ∷ ls) e = absurd (false≢true e)
is_bottom ((x ∷ l) ∷ ls) e = absurd (false≢true e)

pub is_sound : (s : Solid) → sound s ≡ true → Sound s
unfolding sound subs every rising
is_sound s q =
    let a = bottom (get_or s 0 []) in
    let b = low s in
    let c = every (every rising) s in
    let d = eqb (size s (top s)) 1 in
    let e = eqb (top s) 0 || eq_list (subs s (top s) 0) (range 0 (size s (top s - 1))) in
    let h₄ = both (a && b && c && d) e q in
    let h₃ = both (a && b && c) d h₄.0 in
    let h₂ = both (a && b) c h₃.0 in
    let h₁ = both a b h₂.0 in
    record {
      least = is_bottom (get_or s 0 []) h₁.0;
      below = is_low s h₁.1;
      rising = λ r i. is_rising (get_or (get_or s r []) i []) (every-at rising [] refl (get_or s r []) (every-at (every rising) [] refl s h₂.1 r) i);
      one = numbers.sound (size s (top s)) 1 h₃.1;
      all = λ k. full (eqb (top s) 0) refl k h₄.1;
    }
  where
    full : (b : Bool) → eqb (top s) 0 ≡ b → 0 < top s → b || eq_list (subs s (top s) 0) (range 0 (size s (top s - 1))) ≡ true → subs s (top s) 0 ≡ range 0 (size s (top s - 1))
    full true t k h = absurd (omega (arith, numbers.sound (top s) 0 t))
    full false t k h = lists.sound (subs s (top s) 0) (range 0 (size s (top s - 1))) h

pub square_sound : Sound square
unfolding sound low bottom rising rising_above every subs eq_list range
square_sound = is_sound square refl

-- The smallest solid has R = 0.
pub point_sound : Sound point
unfolding sound low bottom rising rising_above every subs eq_list range
point_sound = is_sound point refl

-- The hypotheses of demand 3 can be met: on the square, after down at 1 and up at 2, the quarter turn carries each edge to one of its type.
pub square_turn : (e : ℕ) → e < 4
    → type_of (play square (start square alike) (down 1 ∷ up 2 ∷ [])) 2 (goes square (1 ∷ 2 ∷ 3 ∷ 0 ∷ []) 2 e) ≡ type_of (play square (start square alike) (down 1 ∷ up 2 ∷ [])) 2 e
square_turn e h = ((demand3 square square_sound alike _ square-types (down 1 ∷ up 2 ∷ []) ((lit< tt, lit< tt), ((lit< tt, lit< tt), tt))).confirmed (1 ∷ 2 ∷ 3 ∷ 0 ∷ []) quarter 2 e h).1
