-- `root` is the root of every value, and nothing else is. What callers use of it is here, too.
-- Assumes nothing.
use mathlib.Core.Path.{◌≡◌, refl}
use mathlib.Core.Logic.{◌⊎◌, inl, inr}
use Prim.Native.Nat.{ℕ, zero, suc, ◌*◌, ◌<◌}
use native.Mathlib.Nat.{zero-lt-suc, zero-mul, mul-pos}
use native.Mathlib.Omega.{arith}
use mathlib.Core.Bool.{Bool, true, false, ◌||◌, beq, true≢false, false≢true}
use lib.IntN.{ℤ, pos}
use lib.Dec.{T, eqb, eqb→eq, lt→ltb}
use lib.Ieee.{Float, nan, inf, fin, binary64, up, down, odd, eq, fits, of_bits, of_fields}
use lib.Ieee.Back.{whole_unique}
use lib.Ieee.Fits.{up_pos, and_l}
use lib.Ieee.Positive.{positive}
use Rattle.spec.specs.Float.{zero_f, finite, root}
use Rattle.laws.specs.RootLaws.{EveryRoot, RootUnique, is_sign_minus, minus_zero, RootFacts, EveryRootFacts}
use Rattle.laws.proofs.RootIs.{root_is}
use Rattle.laws.proofs.RootOnly.{root_only}

-- ---- every value has one root

over_zero : (m : ℕ) (e : ℤ) → T (positive (fin false (suc m) e))
over_zero m e = lt→ltb 0 (suc m) (zero-lt-suc m)

pub root-of : EveryRoot
unfolding root
root-of nan h = refl
root-of (inf true) h = refl
root-of (inf false) h = refl
root-of (fin s zero e) h = refl
root-of (fin true (suc m) e) h = refl
root-of (fin false (suc m) e) h = root_is (fin false (suc m) e) h (over_zero m e)

pub root_unique : RootUnique
unfolding root
root_unique nan r h p = p
root_unique (inf true) r h p = p
root_unique (inf false) r h p = p
root_unique (fin s zero e) r h p = p
root_unique (fin true (suc m) e) r h p = p
root_unique (fin false (suc m) e) r h p = root_only (fin false (suc m) e) r h (over_zero m e) p

-- ---- zeros

plus-zero : zero_f ≡ fin false 0 (pos 0)
unfolding zero_f of_bits of_fields odd
plus-zero = refl

-- No other number equals a zero.
not_zero : (s : Bool) (m : ℕ) (e : ℤ) → eq (fin s (suc m) e) zero_f ≡ true → ⊥
unfolding eq
not_zero s m e h =
    let a = suc m * up e * 1 in
    let b = 0 * 1 * down e in
    let k : eq (fin s (suc m) e) (fin false 0 (pos 0)) ≡ true = rw plus-zero at h in
    let q : a ≡ b = eqb→eq a b (and_l (eqb a b) (beq s false || eqb a 0) (rw k tt)) in
    let p : 0 < a = mul-pos (mul-pos (zero-lt-suc m) (up_pos e)) (zero-lt-suc 0) in
    omega (arith, zero-mul (down e))

-- A zero that fits has the exponent 0.
fits-zero : (s : Bool) (e : ℤ) → T (fits binary64 (fin s zero e)) → fin s zero e ≡ fin s 0 (pos 0)
unfolding fits
fits-zero s e h = whole_unique binary64 (fin s zero e) (fin s 0 (pos 0)) s 0 h tt (refl, simp zero-mul) (refl, refl)

-- ---- what callers use

at_zero : (s : Bool) (e : ℤ) → T (fits binary64 (fin s zero e)) → RootFacts (fin s zero e) (fin s zero e)
unfolding finite minus_zero of_bits of_fields odd
at_zero s e h = record { is_finite = refl; sign = go s h; value = h; zeros = (λ q. q, λ q. q) }
  where
    go : (t : Bool) → T (fits binary64 (fin t zero e)) → (t ≡ false) ⊎ (fin t zero e ≡ minus_zero)
    go true k = inr (fits-zero true e k)
    go false k = inl refl

-- Of two positive values, neither is a zero.
of_positive : (x r : Float) → T (positive x) → T (positive r) → T (fits binary64 r) → RootFacts x r
unfolding finite
of_positive x r p q h = record { is_finite = whole r q; sign = inl (plus r q); value = h; zeros = (λ z. absurd (none r q z), λ z. absurd (none x p z)) }
  where
    whole : (y : Float) → T (positive y) → finite y ≡ true
    whole (fin false m e) k = refl
    whole nan k = elim k [ ]
    whole (inf _) k = elim k [ ]
    whole (fin true m e) k = elim k [ ]

    plus : (y : Float) → T (positive y) → is_sign_minus y ≡ false
    plus (fin false m e) k = refl
    plus nan k = elim k [ ]
    plus (inf _) k = elim k [ ]
    plus (fin true m e) k = elim k [ ]

    none : (y : Float) → T (positive y) → eq y zero_f ≡ true → ⊥
    none (fin false zero e) k z = k
    none (fin false (suc m) e) k z = not_zero false m e z
    none nan k z = elim k [ ]
    none (inf _) k z = elim k [ ]
    none (fin true _ e) k z = elim k [ ]

pub root_facts : EveryRootFacts
unfolding root finite
root_facts nan f n h = absurd (false≢true f)
root_facts (inf s) f n h = absurd (false≢true f)
root_facts (fin s zero e) f n h = at_zero s e h
root_facts (fin true (suc m) e) f (inl n) h = absurd (true≢false n)
root_facts (fin true (suc m) e) f (inr n) h = absurd (not_zero true m e n)
root_facts (fin false (suc m) e) f n h = let w = root_is (fin false (suc m) e) h (over_zero m e) in of_positive (fin false (suc m) e) _ (over_zero m e) w.sign w.value
