-- Nearness goes by rounded differences: two numbers that are each within EPS of a third are within 2 ^ -22 of each other.
-- A rounded difference at most EPS has an exact one at most 2 ^ -23, since rounding keeps the order and 2 ^ -23 is a float above EPS.
-- The exact ones add up to 2 ^ -22 at most, which is a float too. Assumes nothing.
use mathlib.Core.Path.{◌≡◌, refl, sym, ap, ◌∙◌, subst}
use mathlib.Core.Bool.{Bool, true, false, not, cond, true≢false}
use mathlib.Core.List.{[], ◌∷◌}
use Prim.Native.Nat.{ℕ, zero, suc, ◌+◌, ◌-◌, ◌*◌, ◌^◌, ◌≤◌, ◌<◌}
use native.Mathlib.Nat.{le_trans, le_of_eq, le_of_lt, mul_comm, mul_assoc, mul_left_comm, mul-pos, mul-sub, mul-add, add-mul, add-le-add, mul-le-mul_right, le_of_mul-le-mul_right}
use native.Mathlib.Omega.{arith}
use lib.IntN.{ℤ}
use lib.ListN.{length}
use lib.Dec.{T, not_T, ltb, ltb→lt, nltb→le}
use lib.Pow.{pow_pos}
use lib.Ieee.{Float, nan, inf, fin, Format, binary64, prec, emax, low, up, down, of_bits, odd, units, round, sum, sub, le}
use lib.Ieee.Fits.{down_pos}
use lib.Ieee.Order.{round_mono}
use lib.Ieee.Positive.{num, den, den_pos, positive, between, le_trans_positive}
use lib.Ieee.Scale.{finite}
use Rattle.spec.specs.Float.{eps, abs_f, minus}
use Rattle.spec.specs.Matrix.{Vector}
use Rattle.spec.specs.Points.{near}
use Rattle.points.specs.Guesses.{wide_f, within}
use Rattle.points.proofs.Nearness.{near_within}

-- Tells whether the magnitude of the float x - y is at most w.
unfoldable pub close_to : Float → Float → Float → Bool
close_to w x y = le (abs_f (minus x y)) w

-- ---- how far apart two numbers with signs are

-- Gives how far two numbers are apart.
unfoldable pub apart : ℕ → ℕ → ℕ
apart a b = (a - b) + (b - a)

-- Gives how far ±a and ±b are apart, where a sign that is true is negative.
unfoldable pub gap : Bool → ℕ → Bool → ℕ → ℕ
gap false a false b = apart a b
gap false a true b = a + b
gap true a false b = a + b
gap true a true b = apart a b

apart_is : (a b : ℕ) → (a ≤ apart a b + b) × (b ≤ apart a b + a) × (apart a b ≤ a + b)
unfolding apart
apart_is a b = (omega arith, omega arith, omega arith)

apart-most : (a b c : ℕ) → a ≤ c + b → b ≤ c + a → apart a b ≤ c
unfolding apart
apart-most a b c h k = omega arith

gap-triangle : (s t u : Bool) (x y z : ℕ) → gap s x u z ≤ gap s x t y + gap u z t y
unfolding gap
gap-triangle false false false x y z = apart-most x z _ (omega (arith, apart_is x y, apart_is z y)) (omega (arith, apart_is x y, apart_is z y))
gap-triangle false false true x y z = omega (arith, apart_is x y)
gap-triangle false true false x y z = apart-most x z _ (omega arith) (omega arith)
gap-triangle false true true x y z = omega (arith, apart_is z y)
gap-triangle true false false x y z = omega (arith, apart_is z y)
gap-triangle true false true x y z = apart-most x z _ (omega arith) (omega arith)
gap-triangle true true false x y z = omega (arith, apart_is x y)
gap-triangle true true true x y z = apart-most x z _ (omega (arith, apart_is x y, apart_is z y)) (omega (arith, apart_is x y, apart_is z y))

apart_scale : (k a b : ℕ) → apart (k * a) (k * b) ≡ k * apart a b
unfolding apart
apart_scale k a b = simp (mul-add, mul-sub)

gap_scale : (k : ℕ) (s : Bool) (a : ℕ) (t : Bool) (b : ℕ) → gap s (k * a) t (k * b) ≡ k * gap s a t b
unfolding gap
gap_scale k false a false b = apart_scale k a b
gap_scale k false a true b = sym (mul-add k a b)
gap_scale k true a false b = sym (mul-add k a b)
gap_scale k true a true b = apart_scale k a b

-- ---- the magnitude of a rounded value is the rounded magnitude

odd_abs : (d : ℕ) (s : Bool) (q k l : ℕ) → abs_f (odd d s q k l) ≡ odd d false q k l
unfolding odd abs_f
odd_abs d s zero k l = refl
odd_abs d s (suc q) k l = refl

units_abs : (f : Format) (s : Bool) (q k : ℕ) → abs_f (units f s q k) ≡ units f false q k
unfolding units abs_f
units_abs f s q k = go (ltb (q * 2 ^ k) (2 ^ (low f + suc (emax f))))
  where
    go : (b : Bool) → abs_f (cond b (odd (suc (prec f)) s q k (low f)) (inf s)) ≡ cond b (odd (suc (prec f)) false q k (low f)) (inf false)
    go true = odd_abs (suc (prec f)) s q k (low f)
    go false = unfold abs_f in refl

round_abs : (f : Format) (s : Bool) (a c : ℕ) → abs_f (round f s a c) ≡ round f false a c
unfolding round
round_abs f s a c = units_abs f s _ _

-- The two branches of a difference of magnitudes have one magnitude.
pick_abs : (f : Format) (s t : Bool) (a b c : ℕ) → abs_f (cond (ltb a b) (round f s (b - a) c) (round f t (a - b) c)) ≡ round f false (apart a b) c
unfolding apart
pick_abs f s t a b c = go (ltb a b) (ltb→lt a b) (nltb→le a b)
  where
    go : (l : Bool) → (T l → a < b) → (T (not l) → b ≤ a) → abs_f (cond l (round f s (b - a) c) (round f t (a - b) c)) ≡ round f false ((a - b) + (b - a)) c
    go true h k = let less = h tt in round_abs f s (b - a) c ∙ ap (λ (n : ℕ). round f false n c) (omega arith)
    go false h k = let most = k tt in round_abs f t (a - b) c ∙ ap (λ (n : ℕ). round f false n c) (omega arith)

-- The magnitude of a difference is the exact one, rounded.
sum_abs : (f : Format) (s : Bool) (a : ℕ) (t : Bool) (b c : ℕ) → abs_f (sum f s a (not t) b c) ≡ round f false (gap s a t b) c
unfolding sum gap
sum_abs f false a true b c = round_abs f false (a + b) c
sum_abs f true a false b c = round_abs f true (a + b) c
sum_abs f false a false b c = pick_abs f true false a b c
sum_abs f true a true b c = pick_abs f false (ltb b a) a b c

pub sub_abs : (f : Format) (s : Bool) (m : ℕ) (e : ℤ) (t : Bool) (n : ℕ) (d : ℤ) →
    abs_f (sub f (fin s m e) (fin t n d)) ≡ round f false (gap s (m * up e * down d) t (n * up d * down e)) (down e * down d)
unfolding sub
sub_abs f s m e t n d = sum_abs f s (m * up e * down d) t (n * up d * down e) (down e * down d)

-- ---- exact differences

abbrev pub sign : Float → Bool
sign nan = false
sign (inf s) = s
sign (fin s m e) = s

-- The numbers x and y are finite, and at most a / b apart.
pub record ApartAtMost (a b : ℕ) (x y : Float) : Type 0 where
  pub first : T (finite x)
  pub second : T (finite y)
  pub most : gap (sign x) (num x * den y) (sign y) (num y * den x) * b ≤ a * (den x * den y)

gap_at : (k : ℕ) (s : Bool) (a : ℕ) (t : Bool) (b a' b' : ℕ) → a' ≡ k * a → b' ≡ k * b → gap s a' t b' ≡ k * gap s a t b
gap_at k s a t b a' b' p q = rw (p, q) (gap_scale k s a t b)

-- If q * g is at most r * h + p * k, and h / (p * q) and k / (r * q) are at most a / b and c / b, then g is bounded by their sum.
bound : (g h k a b c p q r : ℕ) → q * g ≤ r * h + p * k → h * b ≤ a * (p * q) → k * b ≤ c * (r * q) → g * b * q ≤ (a + c) * (p * r) * q
bound g h k a b c p q r all H K =
    let left : g * b * q ≡ q * g * b = simp (mul_assoc, mul_comm) in
    let middle : (r * h + p * k) * b ≡ h * b * r + k * b * p = simp (add-mul, mul_assoc, mul_comm) in
    let right : a * (p * q) * r + c * (r * q) * p ≡ (a + c) * (p * r) * q = simp (add-mul, mul_assoc, mul_comm, mul_left_comm) in
    le_trans (le_of_eq left)
    (le_trans (mul-le-mul_right b all)
    (le_trans (le_of_eq middle)
    (le_trans (add-le-add (mul-le-mul_right r H) (mul-le-mul_right p K)) (le_of_eq right))))

-- The bounds add up for the fractions x / p, y / q and z / r, with signs.
add_fractions : (s t u : Bool) (x y z p q r a b c : ℕ) → 0 < q → gap s (x * q) t (y * p) * b ≤ a * (p * q) → gap u (z * q) t (y * r) * b ≤ c * (r * q) →
    gap s (x * r) u (z * p) * b ≤ (a + c) * (p * r)
add_fractions s t u x y z p q r a b c Q h k =
    let X = x * q * r in
    let Y = y * p * r in
    let Z = z * q * p in
    let xz : gap s X u Z ≡ q * gap s (x * r) u (z * p) = gap_at q s (x * r) u (z * p) X Z (simp (mul_assoc, mul_left_comm)) (simp (mul_assoc, mul_comm, mul_left_comm)) in
    let xy : gap s X t Y ≡ r * gap s (x * q) t (y * p) = gap_at r s (x * q) t (y * p) X Y (simp (mul_assoc, mul_comm, mul_left_comm)) (simp (mul_assoc, mul_comm, mul_left_comm)) in
    let zy : gap u Z t Y ≡ p * gap u (z * q) t (y * r) = gap_at p u (z * q) t (y * r) Z Y (simp (mul_assoc, mul_comm, mul_left_comm)) (simp (mul_assoc, mul_left_comm)) in
    let all : q * gap s (x * r) u (z * p) ≤ r * gap s (x * q) t (y * p) + p * gap u (z * q) t (y * r) = rw (xz, xy, zy) at (gap-triangle s t u X Y Z) in
    le_of_mul-le-mul_right (bound (gap s (x * r) u (z * p)) (gap s (x * q) t (y * p)) (gap u (z * q) t (y * r)) a b c p q r all h k) Q

-- Two numbers near a third are at most as far apart as both are from it together.
pub apart-add : {a b c : ℕ} {x y z : Float} → ApartAtMost a b x y → ApartAtMost c b z y → ApartAtMost (a + c) b x z
apart-add {a} {b} {c} {x} {y} {z} h k = record {
  first = h.first;
  second = k.first;
  most = add_fractions (sign x) (sign y) (sign z) (num x) (num y) (num z) (den x) (den y) (den z) a b c (den_pos y) h.most k.most;
}

true_of : (b : Bool) → T b → b ≡ true
true_of true t = refl
true_of false t = absurd t

of_true : (b : Bool) → b ≡ true → T b
of_true true e = tt
of_true false e = absurd (true≢false (sym e))

-- What rounds to w at most is at most any a / b that rounds to more than w.
pub round_back : (f : Format) (w : Float) (a b g c : ℕ) → 0 < b → 0 < c → T (positive w) → T (positive (round f false a b)) → le (round f false a b) w ≡ false →
    T (le (round f false g c) w) → g * b ≤ a * c
round_back f w a b g c B C W P more h = nltb→le (a * c) (g * b) (not_T (ltb (a * c) (g * b)) λ (l : T (ltb (a * c) (g * b))).
    let lo = round f false a b in
    let z = round f false g c in
    let low : T (le lo z) = round_mono f a b g c B C (le_of_lt (ltb→lt (a * c) (g * b) l)) in
    true≢false (sym (true_of (le lo w) (le_trans_positive lo z w P (between lo z w P W low h) W low h)) ∙ more))

-- A difference is finite only of finite numbers.
sub-finite : (f : Format) (x y : Float) → T (finite (sub f x y)) → T (finite x) × T (finite y)
unfolding sub
sub-finite f nan y h = absurd h
sub-finite f (inf s) nan h = absurd h
sub-finite f (inf true) (inf true) h = absurd h
sub-finite f (inf true) (inf false) h = absurd h
sub-finite f (inf false) (inf true) h = absurd h
sub-finite f (inf false) (inf false) h = absurd h
sub-finite f (inf s) (fin t n d) h = absurd h
sub-finite f (fin s m e) nan h = absurd h
sub-finite f (fin s m e) (inf t) h = absurd h
sub-finite f (fin s m e) (fin t n d) h = (tt, tt)

-- Only a finite number's magnitude is at most a finite w.
finite-below : (z w : Float) → T (positive w) → T (le (abs_f z) w) → T (finite z)
unfolding le abs_f
finite-below nan w W h = absurd h
finite-below (inf s) nan W h = absurd W
finite-below (inf s) (inf t) W h = absurd W
finite-below (inf s) (fin t n d) W h = absurd h
finite-below (fin s m e) w W h = tt

-- Numbers whose difference rounds to w at most are at most any a / b apart that rounds to more than w.
pub close-apart : (w : Float) (a b : ℕ) → 0 < b → T (positive w) → T (positive (round binary64 false a b)) → le (round binary64 false a b) w ≡ false →
    (x y : Float) → close_to w x y ≡ true → ApartAtMost a b x y
unfolding close_to
close-apart w a b B W P more x y h =
    let close : T (le (abs_f (minus x y)) w) = of_true (le (abs_f (minus x y)) w) h in
    let both = sub-finite binary64 x y (finite-below (minus x y) w W close) in
    go x y both.0 both.1 close
  where
    go : (x y : Float) → T (finite x) → T (finite y) → T (le (abs_f (minus x y)) w) → ApartAtMost a b x y
    go nan y X Y k = absurd X
    go (inf s) y X Y k = absurd X
    go (fin s m e) nan X Y k = absurd Y
    go (fin s m e) (inf t) X Y k = absurd Y
    go (fin s m e) (fin t n d) X Y k = record {
      first = tt;
      second = tt;
      most = round_back binary64 w a b (gap s (m * up e * down d) t (n * up d * down e)) (down e * down d) B (mul-pos (down_pos e) (down_pos d)) W P more
          (subst (λ (z : Float). T (le z w)) (sub_abs binary64 s m e t n d) k);
    }

-- Numbers that are at most a / b apart have a difference that rounds to at most what a / b rounds to.
pub apart-close : (a b : ℕ) → 0 < b → (x y : Float) → ApartAtMost a b x y → close_to (round binary64 false a b) x y ≡ true
unfolding close_to
apart-close a b B nan y h = absurd h.first
apart-close a b B (inf s) y h = absurd h.first
apart-close a b B (fin s m e) nan h = absurd h.second
apart-close a b B (fin s m e) (inf t) h = absurd h.second
apart-close a b B (fin s m e) (fin t n d) h =
    ap (λ (z : Float). le z (round binary64 false a b)) (sub_abs binary64 s m e t n d)
    ∙ true_of _ (round_mono binary64 (gap s (m * up e * down d) t (n * up d * down e)) (down e * down d) a b (mul-pos (down_pos e) (down_pos d)) B h.most)

-- ---- EPS

-- Numbers within EPS are at most 2 ^ -23 apart.
pub eps-apart : (x y : Float) → close_to eps x y ≡ true → ApartAtMost 1 (2 ^ 23) x y
unfolding eps of_bits round le
eps-apart x y h = close-apart eps 1 (2 ^ 23) (pow_pos 23) tt tt refl x y h

-- Numbers that are at most twice as far apart are within 2 ^ -22.
pub apart-wide : (x y : Float) → ApartAtMost 2 (2 ^ 23) x y → close_to wide_f x y ≡ true
unfolding wide_f of_bits round
apart-wide x y h = apart-close 2 (2 ^ 23) (pow_pos 23) x y h

pub close-triangle : (a q k : Float) → close_to eps a q ≡ true → close_to eps k q ≡ true → close_to wide_f a k ≡ true
close-triangle a q k h g = apart-wide a k (apart-add (eps-apart a q h) (eps-apart k q g))

-- ---- points

-- An axis is within, and then the others are.
pub within_split : (w x y : Float) (xs ys : Vector) → within w (x ∷ xs) (y ∷ ys) ≡ true → (close_to w x y ≡ true) × (within w xs ys ≡ true)
unfolding within close_to
within_split w x y xs ys h = go (close_to w x y) h
  where
    go : (b : Bool) → elim b as (λ _. Bool) [ true ↦ within w xs ys | false ↦ false ] ≡ true → (b ≡ true) × (within w xs ys ≡ true)
    go true e = (refl, e)
    go false e = absurd (true≢false (sym e))

within_both : (w x y : Float) (xs ys : Vector) → close_to w x y ≡ true → within w xs ys ≡ true → within w (x ∷ xs) (y ∷ ys) ≡ true
unfolding within close_to
within_both w x y xs ys h k = rw (within, h) k

pub within-triangle : (a q k : Vector) → length a ≤ length q → within eps a q ≡ true → within eps k q ≡ true → within wide_f a k ≡ true
within-triangle [] q k l h g = unfold within in refl
within-triangle (x ∷ xs) q [] l h g = unfold within in refl
within-triangle (x ∷ xs) [] (z ∷ zs) l h g = absurd (omega arith)
within-triangle (x ∷ xs) (y ∷ ys) (z ∷ zs) l h g =
    let first = within_split eps x y xs ys h in
    let second = within_split eps z y zs ys g in
    within_both wide_f x z xs zs (close-triangle x y z first.0 second.0) (within-triangle xs ys zs (omega arith) first.1 second.1)

-- Two listed points that are near q, which has as many axes, are within 2 ^ -22 of each other.
pub near-triangle : (a q k : Vector) → length a ≤ length q → near a q ≡ true → near k q ≡ true → within wide_f a k ≡ true
near-triangle a q k l h g = within-triangle a q k l (sym (near_within a q) ∙ h) (sym (near_within k q) ∙ g)
