-- A dot product is what the chain over its products gives.
-- Assumes nothing.
use mathlib.Core.Path.{◌≡◌, refl, ap, ap₂}
use mathlib.Core.Bool.{Bool, true, false, cond}
use mathlib.Core.List.{List, [], ◌∷◌}
use Prim.Native.Nat.{◌*◌, ◌<◌}
use native.Mathlib.Nat.{mul_comm}
use native.Mathlib.Omega.{arith}
use lib.Dec.{eqb}
use lib.ListN.{get_or, drop, length}
use lib.Ieee.{Float, nan, inf, fin, binary64, up, down, unlike, mul, of_bits}
use Rattle.std.specs.List.{fold, zip as pairs}
use Rattle.spec.specs.Float.{zero_f, plus, times, zip, add_on, total, dot}

folded : (t : Float) (a b : List Float) → fold (λ s p. plus s (times p.0 p.1)) t (pairs a b) ≡ add_on t (zip times a b)
unfolding add_on zip
folded t [] b = refl
folded t (x ∷ a) [] = refl
folded t (x ∷ a) (y ∷ b) = folded (plus t (times x y)) a b

pub none : (a b : List Float) → 0 ≡ length a → of_bits binary64 0 ≡ dot a b
unfolding dot total zip zero_f
none [] b h = refl
none (x ∷ a) b h = absurd (omega arith)

pub dot-folded : (a b : List Float) → 0 < length a → 0 < length b →
    fold (λ s p. plus s (times p.0 p.1)) (times (get_or a 0 nan) (get_or b 0 nan)) (pairs (drop 1 a) (drop 1 b)) ≡ dot a b
unfolding dot total zip
dot-folded [] b h k = absurd (omega arith)
dot-folded (x ∷ a) [] h k = absurd (omega arith)
dot-folded (x ∷ a) (y ∷ b) h k = folded (times x y) a b

-- ---- the two lists in each other's place

unlike_swap : (s t : Bool) → unlike s t ≡ unlike t s
unlike_swap false false = refl
unlike_swap false true = refl
unlike_swap true false = refl
unlike_swap true true = refl

times-swap : (x y : Float) → times x y ≡ times y x
unfolding mul
times-swap nan nan = refl
times-swap nan (inf t) = refl
times-swap nan (fin t n d) = refl
times-swap (inf s) nan = refl
times-swap (inf s) (inf t) = ap inf (unlike_swap s t)
times-swap (inf s) (fin t n d) = ap (λ (b : Bool). cond (eqb n 0) nan (inf b)) (unlike_swap s t)
times-swap (fin s m e) nan = refl
times-swap (fin s m e) (inf t) = ap (λ (b : Bool). cond (eqb m 0) nan (inf b)) (unlike_swap s t)
times-swap (fin s m e) (fin t n d) = rw (unlike_swap s t, mul_comm (m * up e) (n * up d), mul_comm (down e) (down d))

zip-swap : (a b : List Float) → zip times a b ≡ zip times b a
unfolding zip
zip-swap [] [] = refl
zip-swap [] (y ∷ b) = refl
zip-swap (x ∷ a) [] = refl
zip-swap (x ∷ a) (y ∷ b) = ap₂ (λ (z : Float) (l : List Float). z ∷ l) (times-swap x y) (zip-swap a b)

pub dot-swap : (a b : List Float) → dot a b ≡ dot b a
unfolding dot
dot-swap a b = ap total (zip-swap a b)
