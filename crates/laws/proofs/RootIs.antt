-- `root` is the root that section 1 describes.
-- Assumes nothing.
use mathlib.Core.Path.{◌≡◌, refl, sym, ap, ◌∙◌, subst}
use mathlib.Core.Logic.{◌⊎◌, inl, inr}
use Prim.Native.Nat.{ℕ, zero, suc, ◌+◌, ◌-◌, ◌*◌, ◌/◌, ◌%◌, ◌^◌, ◌≤◌, ◌<◌, compare, Ordering}
use native.Mathlib.Decide.{dec_le}
use native.Mathlib.Nat.{eq_of_mul-eq-mul_right, mul-mul-mul_comm, add-mul, div-one, eq-or-lt_of_le, zero-add, le_refl, le_trans, le_of_eq, lt_of_lt_of_le, lt_of_le_of_lt, le_of_lt, lt_irrefl, zero-lt-suc, lt_of_not-le, mul_assoc, mul_comm, mul-one, one-mul, mul-suc, suc-mul, mul-pos, mul-le-mul, mul-le-mul_left, mul-le-mul_right, mul-lt-mul_of_pos_left, mul-lt-mul_of_pos_right, pow-zero, pow-suc, le-div_iff_mul-le, div-lt_iff_lt-mul, mul-div_cancel, mod-eq_of_lt}
use native.Mathlib.Omega.{arith}
use mathlib.Core.Bool.{Bool, true, false, not, ◌&&◌, cond}
use lib.IntN.{ℤ, pos, negsuc}
use lib.Dec.{T, is_le, compare_is_eq, leb, ltb, eqb, leb→le, nleb→lt, ltb→lt, not_T, eqb→eq, eqb_refl, lit<}
use lib.Ieee.Bits.{is_false, cond_no}
use lib.Arith.{lt_of_le-ne, digits_div, digits_mod, lt→nleb}
use lib.Pow.{pow-add, pow_pos, pow_mono, pow-lt, shl_lt}
use lib.Ieee.{Float, nan, inf, fin, binary64, low, up, down, size, nearest, odd, units, fits, of_fields, of_bits, to_bits}
use lib.Ieee.Digits.{size-lt, size_reaches, size-le}
use lib.Ieee.Exact.{HasValue, odd_sign, units_val}
use lib.Ieee.Fits.{cond-fits, inf-fits, odd-fits, down_pos, and_l, and_r}
use lib.Ieee.Positive.{positive, positive_of_value}
use Rattle.spec.specs.Float.{root_down, root_units, root}
use Rattle.spec.specs.Root.{in_units, above, below, square, scaled, IsRoot}

-- ---- squares and powers

pub sq_twice : (s : ℕ) → (2 * s) * (2 * s) ≡ 4 * (s * s)
sq_twice s = mul_assoc 2 s (2 * s) ∙ ap (λ (x : ℕ). 2 * x) (sym (mul_assoc s 2 s) ∙ ap (λ (x : ℕ). x * s) (mul_comm s 2) ∙ mul_assoc 2 s s) ∙ sym (mul_assoc 2 2 (s * s))

pub sq_suc : (a : ℕ) → suc a * suc a ≡ a * a + 2 * a + 1
sq_suc a = let p : suc a * suc a ≡ a * suc a + suc a = suc-mul a (suc a) in let q : a * suc a ≡ a * a + a = mul-suc a a in omega arith

four-pow : (k : ℕ) → 4 ^ k ≡ 2 ^ k * 2 ^ k
four-pow zero = pow-zero 4 ∙ sym (ap (λ (x : ℕ). x * x) (pow-zero 2))
four-pow (suc k) = pow-suc 4 k ∙ ap (λ (x : ℕ). x * 4) (four-pow k) ∙ mul_comm (2 ^ k * 2 ^ k) 4 ∙ sym (sq_twice (2 ^ k)) ∙ ap (λ (x : ℕ). x * x) (mul_comm 2 (2 ^ k) ∙ sym (pow-suc 2 k))

pub four-two : (k : ℕ) → 4 ^ k ≡ 2 ^ (k + k)
four-two k = four-pow k ∙ sym (pow-add 2 k k)

pub four_pos : (k : ℕ) → 0 < 4 ^ k
four_pos k = subst (λ (x : ℕ). 0 < x) (sym (four-two k)) (pow_pos (k + k))

-- ---- the whole part of a root

abbrev pub WholeRoot : ℕ → ℕ → Type 0
WholeRoot r n = (r * r ≤ n) × (n < suc r * suc r)

-- The whole part of a root comes from the whole part of a quarter's root.
whole-step : (s n : ℕ) → WholeRoot s (n / 4) → (b : Bool) → (T b → suc (2 * s) * suc (2 * s) ≤ n) → (T (not b) → n < suc (2 * s) * suc (2 * s))
    → WholeRoot (elim b [ true ↦ suc (2 * s) | false ↦ 2 * s ]) n
whole-step s n h true p q =
    let a = h.1 in
    let b = sq_suc s in
    let c = sq_suc (2 * s) in
    let d = sq_suc (suc (2 * s)) in
    let e = sq_twice s in
    (p tt, omega arith)
whole-step s n h false p q =
    let a = h.0 in
    let e = sq_twice s in
    (omega arith, q tt)

pub root_down_is : (d n : ℕ) → n < 4 ^ d → WholeRoot (root_down d n) n
unfolding root_down
root_down_is zero n h = let z : n < 1 = subst (λ (x : ℕ). n < x) (pow-zero 4) h in (omega arith, omega arith)
root_down_is (suc d) n h =
    let s = root_down d (n / 4) in
    whole-step s n (root_down_is d (n / 4) ((div-lt_iff_lt-mul (zero-lt-suc 3)).1 (subst (λ (x : ℕ). n < x) (pow-suc 4 d) h)))
    (leb (suc (2 * s) * suc (2 * s)) n) (leb→le (suc (2 * s) * suc (2 * s)) n) (nleb→lt (suc (2 * s) * suc (2 * s)) n)

-- ---- the digits kept

half_up : (z : ℕ) → 105 ≤ z → (z ≤ 53 + ((z + 1) / 2 - 53) + (53 + ((z + 1) / 2 - 53))) × (52 + ((z + 1) / 2 - 53) + (52 + ((z + 1) / 2 - 53)) ≤ z - 1)
half_up z h = (omega arith, omega arith)

-- A number of 105 digits or more has these bounds, when all but 53 of its root's digits are dropped.
pub quotient : (n k : ℕ) → k ≡ (size n + 1) / 2 - 53 → 105 ≤ size n → (4 ^ 52 * 4 ^ k ≤ n) × (n < 4 ^ 53 * 4 ^ k)
quotient n k e h =
    let z = size n in
    let p = half_up z h in (
      le_trans (le_of_eq (sym (pow-add 4 52 k) ∙ four-two (52 + k))) (le_trans (pow_mono (subst (λ (x : ℕ). 52 + x + (52 + x) ≤ z - 1) (sym e) p.1)) (size_reaches n (z - 1) (omega arith))),
      lt_of_lt_of_le (size-lt n) (le_trans (pow_mono (subst (λ (x : ℕ). z ≤ 53 + x + (53 + x)) (sym e) p.0)) (le_of_eq (sym (four-two (53 + k)) ∙ pow-add 4 53 k))),
    )

pub record DigitsKept (n k q : ℕ) : Type 0 where
  pub least : 2 ^ 52 ≤ q
  pub most : q < 2 ^ 53
  pub low : q * q * 4 ^ k ≤ n
  pub high : n < suc q * suc q * 4 ^ k

pub kept_is : (n k : ℕ) → k ≡ (size n + 1) / 2 - 53 → 105 ≤ size n → DigitsKept n k (root_down 53 (n / 4 ^ k))
kept_is n k e h =
    let b = quotient n k e h in
    let a = n / 4 ^ k in
    let lo : 4 ^ 52 ≤ a = (le-div_iff_mul-le (four_pos k)).1 b.0 in
    let hi : a < 4 ^ 53 = (div-lt_iff_lt-mul (four_pos k)).1 b.1 in
    let q = root_down 53 a in
    let w = root_down_is 53 a hi in
    record {
      least = lt-of_not_le-suc q a lo w.1;
      most = lt_of_not-le (λ (p : 2 ^ 53 ≤ q). lt_irrefl a (lt_of_lt_of_le hi (le_trans (mul-le-mul p p) w.0)));
      low = (le-div_iff_mul-le (four_pos k)).0 w.0;
      high = (div-lt_iff_lt-mul (four_pos k)).0 w.1;
    }
  where
    lt-of_not_le-suc : (q a : ℕ) → 4 ^ 52 ≤ a → a < suc q * suc q → 2 ^ 52 ≤ q
    lt-of_not_le-suc q a lo h =
        let c : 2 ^ 52 < suc q = lt_of_not-le (λ (p : suc q ≤ 2 ^ 52). lt_irrefl a (lt_of_lt_of_le h (le_trans (mul-le-mul p p) lo))) in
        omega arith

-- ---- what a value is in units, and its pattern

pub units_of : (x : Float) (w : ℕ) → HasValue x false w (2 ^ low binary64) → in_units x ≡ w
unfolding in_units
units_of nan w h = absurd h
units_of (inf s) w h = absurd h
units_of (fin s m e) w h = ap (λ (y : ℕ). y / down e) h.1 ∙ mul-div_cancel w (down_pos e)

-- A number of 53 digits with k zeros after it has 53 + k digits.
pub digits_of : (q k : ℕ) → 2 ^ 52 ≤ q → q < 2 ^ 53 → size (q * 2 ^ k) ≡ 53 + k
digits_of q k lo hi =
    let a : size (q * 2 ^ k) ≤ 53 + k = size-le (q * 2 ^ k) (53 + k) (shl_lt 53 k hi) in
    let b : 52 + k < size (q * 2 ^ k) = lt_of_not-le (λ (p : size (q * 2 ^ k) ≤ 52 + k). lt_irrefl (q * 2 ^ k) (lt_of_lt_of_le (size-lt (q * 2 ^ k)) (le_trans (pow_mono p) (le_trans (le_of_eq (pow-add 2 52 k)) (mul-le-mul_right (2 ^ k) lo))))) in
    omega arith

pub pattern-of : (x : Float) (q k : ℕ) → HasValue x false (q * 2 ^ k) (2 ^ low binary64) → 2 ^ 52 ≤ q → q < 2 ^ 53 → to_bits binary64 x ≡ k * 2 ^ 52 + q
unfolding to_bits in_units
pattern-of nan q k h lo hi = absurd h
pattern-of (inf s) q k h lo hi = absurd h
pattern-of (fin s m e) q k h lo hi =
    ap (λ (b : Bool). cond b (2 ^ 63) 0 + (size n - 53) * 2 ^ 52 + n / 2 ^ (size n - 53)) h.0
    ∙ ap (λ (y : ℕ). 0 + (size y - 53) * 2 ^ 52 + y / 2 ^ (size y - 53)) (units_of (fin s m e) (q * 2 ^ k) h)
    ∙ ap (λ (y : ℕ). 0 + y * 2 ^ 52 + q * 2 ^ k / 2 ^ y) (ap (λ (y : ℕ). y - 53) (digits_of q k lo hi) ∙ drop53 k)
    ∙ ap (λ (y : ℕ). 0 + k * 2 ^ 52 + y) (mul-div_cancel q (pow_pos k))
    ∙ ap (λ (y : ℕ). y + q) (zero-add (k * 2 ^ 52))
  where
    n : ℕ
    n = m * up e * 2 ^ low binary64 / down e

    drop53 : (k : ℕ) → 53 + k - 53 ≡ k
    drop53 k = omega arith

-- This is the value of a pattern, by its fields.
pub fields-of : (k t : ℕ) → k < 2046 → t < 2 ^ 52 → of_bits binary64 (suc k * 2 ^ 52 + t) ≡ odd 53 false (2 ^ 52 + t) k (low binary64)
unfolding of_bits of_fields
fields-of k t K H =
    let b = suc k * 2 ^ 52 + t in
    let small : b < 2 ^ 63 = omega arith in
    let inner : suc k ≡ 2047 → ⊥ = λ e. omega arith in
    ap (λ (s : Bool). of_fields binary64 s (b % 2 ^ 63 / 2 ^ 52) (b % 2 ^ 52)) (is_false (leb (2 ^ 63) b) (lt→nleb (2 ^ 63) b small))
    ∙ ap (λ (y : ℕ). of_fields binary64 false (y / 2 ^ 52) (b % 2 ^ 52)) (mod-eq_of_lt small)
    ∙ ap (λ (y : ℕ). of_fields binary64 false y (b % 2 ^ 52)) (digits_div (suc k) H)
    ∙ ap (λ (y : ℕ). of_fields binary64 false (suc k) y) (digits_mod (suc k) H)
    ∙ cond_no (eqb (suc k) 2047) (cond (eqb t 0) (inf false) nan) (odd 53 false (2 ^ 52 + t) k (low binary64)) (not_T (eqb (suc k) 2047) (λ p. inner (eqb→eq (suc k) 2047 p)))

pub read_at : (q k : ℕ) → k < 2046 → 2 ^ 52 ≤ q → q < 2 ^ 53 → HasValue (of_bits binary64 (k * 2 ^ 52 + q)) false (q * 2 ^ k) (2 ^ low binary64)
read_at q k K lo hi =
    let t = q - 2 ^ 52 in
    let e : suc k * 2 ^ 52 + t ≡ k * 2 ^ 52 + q = omega arith in
    let d : 2 ^ 52 + t ≡ q = omega arith in
    subst (λ (b : ℕ). HasValue (of_bits binary64 b) false (q * 2 ^ k) (2 ^ low binary64)) e
    (subst (λ (x : Float). HasValue x false (q * 2 ^ k) (2 ^ low binary64)) (sym (fields-of k t K (omega arith)))
    (subst (λ (y : ℕ). HasValue (odd 53 false (2 ^ 52 + t) k (low binary64)) false (y * 2 ^ k) (2 ^ low binary64)) d (odd_sign 53 false (2 ^ 52 + t) k (low binary64))))

pub units_at : (q k : ℕ) → k < 2046 → 2 ^ 52 ≤ q → q < 2 ^ 53 → in_units (of_bits binary64 (k * 2 ^ 52 + q)) ≡ q * 2 ^ k
units_at q k K lo hi = units_of (of_bits binary64 (k * 2 ^ 52 + q)) (q * 2 ^ k) (read_at q k K lo hi)

-- ---- a rounded root r: q * 2 ^ k units, with 2 ^ 52 ≤ q ≤ 2 ^ 53

pub record At (r : Float) (q k : ℕ) : Type 0 where
  pub exact : HasValue r false (q * 2 ^ k) (2 ^ low binary64)
  pub least : 2 ^ 52 ≤ q
  pub most : q ≤ 2 ^ 53
  pub some : 0 < k
  pub small : k < 2000

pub twice_pow : (k : ℕ) → 2 ^ 53 * 2 ^ k ≡ 2 ^ 52 * 2 ^ suc k
twice_pow k = ap (λ (x : ℕ). x * 2 ^ k) refl ∙ mul_assoc (2 ^ 52) 2 (2 ^ k) ∙ ap (λ (x : ℕ). 2 ^ 52 * x) (mul_comm 2 (2 ^ k) ∙ sym (pow-suc 2 k))

-- This is the pattern of such a value.
pub pattern-at : (r : Float) (q k : ℕ) → At r q k → to_bits binary64 r ≡ k * 2 ^ 52 + q
pattern-at r q k a = go (eq-or-lt_of_le a.most)
  where
    go : (q ≡ 2 ^ 53) ⊎ (q < 2 ^ 53) → to_bits binary64 r ≡ k * 2 ^ 52 + q
    go (inr h) = pattern-of r q k a.exact a.least h
    go (inl h) = pattern-of r (2 ^ 52) (suc k) (subst (λ (w : ℕ). HasValue r false w (2 ^ low binary64)) (ap (λ (x : ℕ). x * 2 ^ k) h ∙ twice_pow k) a.exact) (le_refl (2 ^ 52)) (omega arith) ∙ omega arith

-- Its upper neighbour is a unit of its own or more away.
next_of : (q k : ℕ) → k < 2000 → 2 ^ 52 ≤ q → q ≤ 2 ^ 53 → suc q * 2 ^ k ≤ in_units (of_bits binary64 (k * 2 ^ 52 + q + 1))
next_of q k K lo hi = go (eq-or-lt_of_le hi)
  where
    U : ℕ → ℕ
    U b = in_units (of_bits binary64 b)

    last : (suc q ≡ 2 ^ 53) ⊎ (suc q < 2 ^ 53) → suc q * 2 ^ k ≤ U (k * 2 ^ 52 + q + 1)
    last (inr h) =
        let e : k * 2 ^ 52 + suc q ≡ k * 2 ^ 52 + q + 1 = omega arith in
        subst (λ (b : ℕ). suc q * 2 ^ k ≤ U b) e (le_of_eq (sym (units_at (suc q) k (omega arith) (omega arith) h)))
    last (inl h) =
        let e : suc k * 2 ^ 52 + 2 ^ 52 ≡ k * 2 ^ 52 + q + 1 = omega arith in
        subst (λ (b : ℕ). suc q * 2 ^ k ≤ U b) e (le_of_eq (ap (λ (x : ℕ). x * 2 ^ k) h ∙ twice_pow k ∙ sym (units_at (2 ^ 52) (suc k) (omega arith) (le_refl (2 ^ 52)) (omega arith))))

    go : (q ≡ 2 ^ 53) ⊎ (q < 2 ^ 53) → suc q * 2 ^ k ≤ U (k * 2 ^ 52 + q + 1)
    go (inr h) = last (eq-or-lt_of_le h)
    go (inl h) =
        let e : suc k * 2 ^ 52 + (2 ^ 52 + 1) ≡ k * 2 ^ 52 + q + 1 = omega arith in
        let c : suc q ≤ (2 ^ 52 + 1) * 2 = omega arith in
        subst (λ (b : ℕ). suc q * 2 ^ k ≤ U b) e
        (le_trans (mul-le-mul_right (2 ^ k) c) (le_of_eq (mul_assoc (2 ^ 52 + 1) 2 (2 ^ k) ∙ ap (λ (x : ℕ). (2 ^ 52 + 1) * x) (mul_comm 2 (2 ^ k) ∙ sym (pow-suc 2 k)) ∙ sym (units_at (2 ^ 52 + 1) (suc k) (omega arith) (omega arith) (omega arith)))))

pub above_at : (r : Float) (q k : ℕ) → At r q k → suc q * 2 ^ k ≤ in_units (above r)
unfolding above
above_at r q k a = subst (λ (b : ℕ). suc q * 2 ^ k ≤ in_units (of_bits binary64 (b + 1))) (sym (pattern-at r q k a)) (next_of q k a.small a.least a.most)

-- Its lower neighbour is nearer to zero, and one unit of its own away where q is not 2 ^ 52.
pub below_at : (r : Float) (q k : ℕ) → At r (suc q) k → 2 ^ 52 ≤ q → in_units (below r) ≡ q * 2 ^ k
unfolding below
below_at r q k a lo =
    let e : k * 2 ^ 52 + q ≡ k * 2 ^ 52 + suc q - 1 = omega arith in
    ap (λ (b : ℕ). in_units (of_bits binary64 (b - 1))) (pattern-at r (suc q) k a) ∙ ap (λ (b : ℕ). in_units (of_bits binary64 b)) (sym e) ∙ units_at q k (omega arith) lo a.most

under_of : (q k : ℕ) → 0 < k → k < 2000 → 2 ^ 52 ≡ q → in_units (of_bits binary64 (k * 2 ^ 52 + q - 1)) < q * 2 ^ k
under_of q zero z K h = absurd (lt_irrefl 0 z)
under_of q (suc k) z K h =
    let e : k * 2 ^ 52 + (2 ^ 53 - 1) ≡ suc k * 2 ^ 52 + q - 1 = omega arith in
    subst (λ (b : ℕ). in_units (of_bits binary64 b) < q * 2 ^ suc k) e
    (lt_of_le_of_lt (le_of_eq (units_at (2 ^ 53 - 1) k (omega arith) (omega arith) (omega arith)))
    (lt_of_lt_of_le (mul-lt-mul_of_pos_right {m = 2 ^ 53 - 1} {n = 2 ^ 53} (omega arith) (pow_pos k)) (le_of_eq (twice_pow k ∙ ap (λ (x : ℕ). x * 2 ^ suc k) h))))

pub below_less : (r : Float) (q k : ℕ) → At r q k → in_units (below r) < q * 2 ^ k
below_less r zero k a = absurd (no a.least)
  where
    no : 2 ^ 52 ≤ 0 → ⊥
    no h = omega arith
below_less r (suc q) k a = go (eq-or-lt_of_le a.least)
  where
    go : (2 ^ 52 ≡ suc q) ⊎ (2 ^ 52 < suc q) → in_units (below r) < suc q * 2 ^ k
    go (inl h) = unfold below in subst (λ (b : ℕ). in_units (of_bits binary64 (b - 1)) < suc q * 2 ^ k) (sym (pattern-at r (suc q) k a)) (under_of (suc q) k a.some a.small h)
    go (inr h) = lt_of_le_of_lt (le_of_eq (below_at r q k a (omega arith))) (mul-lt-mul_of_pos_right {m = q} {n = suc q} (omega arith) (pow_pos k))

-- ---- the argument: a number m of at most 53 digits, with zeros after it. n is the square of its root in units

pub record Argument (x : Float) (m n : ℕ) : Type 0 where
  pub zeros : ℕ
  pub short : m < 2 ^ 53
  pub units : in_units x ≡ m * 2 ^ zeros
  pub scale : n ≡ m * 2 ^ (zeros + 1074)
  pub finite : m * 2 ^ zeros < 2 ^ 2098

-- The number m * 2 ^ a / 2 ^ b is m with a - b zeros after it.
shifted : (m a b : ℕ) → b ≤ a → m * 2 ^ a / 2 ^ b ≡ m * 2 ^ (a - b)
shifted m a b h =
    let e : a - b + b ≡ a = omega arith in
    ap (λ (x : ℕ). m * 2 ^ x / 2 ^ b) (sym e) ∙ ap (λ (x : ℕ). m * x / 2 ^ b) (pow-add 2 (a - b) b) ∙ ap (λ (x : ℕ). x / 2 ^ b) (sym (mul_assoc m (2 ^ (a - b)) (2 ^ b))) ∙ mul-div_cancel (m * 2 ^ (a - b)) (pow_pos b)

raised : (m a b : ℕ) → m * 2 ^ a * 2 ^ b / 1 ≡ m * 2 ^ (a + b)
raised m a b = div-one (m * 2 ^ a * 2 ^ b) ∙ mul_assoc m (2 ^ a) (2 ^ b) ∙ ap (λ (x : ℕ). m * x) (sym (pow-add 2 a b))

exponent : (a l : ℕ) → 2 ^ a ≤ 2 ^ l → a ≤ l
exponent a l h = let c : a < suc l = lt_of_not-le (λ (p : suc l ≤ a). lt_irrefl (2 ^ a) (lt_of_le_of_lt h (pow-lt p))) in omega arith

-- Here l stands for 1074.
up-argument : (x : Float) (m a l : ℕ) → m < 2 ^ 53 → m * 2 ^ a < 2 ^ 1024 → in_units x ≡ m * 2 ^ a * 2 ^ l / 1 → l ≡ 1074 → Argument x m (m * 2 ^ a * 4 ^ l / 1)
up-argument x m a l s b u e = record {
  zeros = a + l;
  short = s;
  units = u ∙ raised m a l;
  scale = ap (λ (y : ℕ). m * 2 ^ a * y / 1) (four-two l) ∙ raised m a (l + l) ∙ ap (λ (y : ℕ). m * 2 ^ y) (swap e);
  finite = subst (λ (y : ℕ). y < 2 ^ 2098) (mul_assoc m (2 ^ a) (2 ^ l) ∙ ap (λ (y : ℕ). m * y) (sym (pow-add 2 a l))) (subst (λ (y : ℕ). m * 2 ^ a * 2 ^ l < 2 ^ (1024 + y)) e (shl_lt 1024 l b));
}
  where
    swap : l ≡ 1074 → a + (l + l) ≡ a + l + 1074
    swap e = omega arith

down-argument : (x : Float) (m a l : ℕ) → m < 2 ^ 53 → 2 ^ suc a ≤ 2 ^ l → in_units x ≡ m * 1 * 2 ^ l / 2 ^ suc a → l ≡ 1074 → Argument x m (m * 1 * 4 ^ l / 2 ^ suc a)
down-argument x m a l s d u e =
    let c : suc a ≤ l = exponent (suc a) l d in
    let g : l + l - suc a ≡ l - suc a + 1074 = omega arith in
    let k : 53 + (l - suc a) ≤ 2098 = omega arith in
    record {
      zeros = l - suc a;
      short = s;
      units = u ∙ ap (λ (y : ℕ). y * 2 ^ l / 2 ^ suc a) (mul-one m) ∙ shifted m l (suc a) c;
      scale = ap (λ (y : ℕ). y * 4 ^ l / 2 ^ suc a) (mul-one m) ∙ ap (λ (y : ℕ). m * y / 2 ^ suc a) (four-two l) ∙ shifted m (l + l) (suc a) (omega arith) ∙ ap (λ (y : ℕ). m * 2 ^ y) g;
      finite = lt_of_lt_of_le (shl_lt 53 (l - suc a) s) (pow_mono k);
    }

pub argument : (m : ℕ) (e : ℤ) → T (fits binary64 (fin false (suc m) e)) → Argument (fin false (suc m) e) (suc m) (suc m * up e * 4 ^ low binary64 / down e)
unfolding fits in_units
argument m e h = go e (ltb→lt (suc m) (2 ^ 53) (and_r A B (and_l (A && B) C (and_l (A && B && C) D h)))) (leb→le (down e) (2 ^ 1074) (and_r (A && B) C (and_l (A && B && C) D h))) (ltb→lt (suc m * up e) (2 ^ 1024 * down e) (and_r (A && B && C) D h))
  where
    A : Bool
    A = eqb (suc m % 2) 1

    B : Bool
    B = ltb (suc m) (2 ^ 53)

    C : Bool
    C = leb (down e) (2 ^ 1074)

    D : Bool
    D = ltb (suc m * up e) (2 ^ 1024 * down e)

    go : (e : ℤ) → suc m < 2 ^ 53 → down e ≤ 2 ^ 1074 → suc m * up e < 2 ^ 1024 * down e → Argument (fin false (suc m) e) (suc m) (suc m * up e * 4 ^ low binary64 / down e)
    go (pos a) s d b = up-argument (fin false (suc m) (pos a)) (suc m) a 1074 s (lt_of_lt_of_le b (le_of_eq (mul-one (2 ^ 1024)))) refl refl
    go (negsuc a) s d b = down-argument (fin false (suc m) (negsuc a)) (suc m) a 1074 s d refl refl

-- ---- no midpoint is a root

odd_square : (q y : ℕ) → y * 2 ≡ (2 * q + 1) * (2 * q + 1) → ⊥
odd_square q y h =
    let a : 2 * q + 1 ≡ suc (2 * q) = omega arith in
    let b : y * 2 ≡ suc (2 * q) * suc (2 * q) = h ∙ ap (λ (x : ℕ). x * x) a in
    let c = sq_suc (2 * q) in
    let d = sq_twice q in
    omega arith

pub no_tie : (m j q k : ℕ) → m < 2 ^ 53 → 2 ^ 52 ≤ q → 4 * (m * 2 ^ j) ≡ (2 * q + 1) * (2 * q + 1) * 4 ^ k → ⊥
no_tie m j q k M Q h = go (dec_le (j + 2) (k + k))
  where
    S : ℕ
    S = (2 * q + 1) * (2 * q + 1)

    big : m < S
    big = lt_of_lt_of_le M (le_trans (le_trans (omega arith) (le_of_eq (sym (mul-one (2 * q + 1))))) (mul-le-mul_left (2 * q + 1) (omega arith)))

    even : m * 2 ^ (j + 2) ≡ S * 2 ^ (k + k)
    even = ap (λ (x : ℕ). m * x) (pow-add 2 j 2) ∙ sym (mul_assoc m (2 ^ j) 4) ∙ mul_comm (m * 2 ^ j) 4 ∙ h ∙ ap (λ (x : ℕ). S * x) (four-two k)

    go : Dec (j + 2 ≤ k + k) → ⊥
    go (yes p) =
        let t = k + k - (j + 2) in
        let e : t + (j + 2) ≡ k + k = omega arith in
        let c : m ≡ S * 2 ^ t = eq_of_mul-eq-mul_right (2 ^ (j + 2)) (pow_pos (j + 2)) m (S * 2 ^ t) (even ∙ ap (λ (x : ℕ). S * 2 ^ x) (sym e) ∙ ap (λ (x : ℕ). S * x) (pow-add 2 t (j + 2)) ∙ sym (mul_assoc S (2 ^ t) (2 ^ (j + 2)))) in
        lt_irrefl m (lt_of_lt_of_le big (le_trans (le_of_eq (sym (mul-one S))) (le_trans (mul-le-mul_left S (pow_pos t)) (le_of_eq (sym c)))))
    go (no p) =
        let l : k + k < j + 2 = lt_of_not-le p in
        let t = j + 2 - suc (k + k) in
        let e : suc t + (k + k) ≡ j + 2 = omega arith in
        odd_square q (m * 2 ^ t) (mul_assoc m (2 ^ t) 2 ∙ ap (λ (x : ℕ). m * x) (sym (pow-suc 2 t))
        ∙ eq_of_mul-eq-mul_right (2 ^ (k + k)) (pow_pos (k + k)) (m * 2 ^ suc t) S (mul_assoc m (2 ^ suc t) (2 ^ (k + k)) ∙ ap (λ (x : ℕ). m * x) (sym (pow-add 2 (suc t) (k + k)) ∙ ap (λ (x : ℕ). 2 ^ x) e) ∙ even))

-- ---- the root

pub sq_le : {a b : ℕ} → a ≤ b → a * a ≤ b * b
sq_le h = mul-le-mul h h

sq_lt : {a b : ℕ} → a < b → a * a < b * b
sq_lt {a} {b} h = lt_of_le_of_lt (mul-le-mul_left a (le_of_lt h)) (mul-lt-mul_of_pos_right h (omega arith))

-- The square of a * 2 ^ k is a squared times 4 ^ k.
sq_shift : (a k : ℕ) → (a * 2 ^ k) * (a * 2 ^ k) ≡ a * a * 4 ^ k
sq_shift a k = mul-mul-mul_comm a (2 ^ k) a (2 ^ k) ∙ ap (λ (x : ℕ). a * a * x) (sym (four-pow k))

-- This is twice a midpoint.
mid : (q p : ℕ) → q * p + suc q * p ≡ (2 * q + 1) * p
mid q p = let e : q + suc q ≡ 2 * q + 1 = omega arith in sym (add-mul q (suc q) p) ∙ ap (λ (x : ℕ). x * p) e

module _ (n k q : ℕ) (K : DigitsKept n k q) (r : Float) where
  -- The two cases are that the root was rounded down, and that it was rounded up.
  down-over : At r q k → square (in_units (below r) + in_units r) < 4 * n
  down-over a =
      let u : in_units r ≡ q * 2 ^ k = units_of r (q * 2 ^ k) a.exact in
      let b = below_less r q k a in
      let c : in_units (below r) + in_units r < 2 * (q * 2 ^ k) = omega arith in
      lt_of_lt_of_le (sq_lt c) (le_trans (le_of_eq (sq_twice (q * 2 ^ k) ∙ ap (λ (x : ℕ). 4 * x) (sq_shift q k))) (mul-le-mul_left 4 K.low))

  down-under : At r q k → 4 * n < (2 * q + 1) * (2 * q + 1) * 4 ^ k → 4 * n < square (in_units r + in_units (above r))
  down-under a h =
      let u : in_units r ≡ q * 2 ^ k = units_of r (q * 2 ^ k) a.exact in
      let b = above_at r q k a in
      let m = mid q (2 ^ k) in
      let c : (2 * q + 1) * 2 ^ k ≤ in_units r + in_units (above r) = omega arith in
      lt_of_lt_of_le h (le_trans (le_of_eq (sym (sq_shift (2 * q + 1) k))) (sq_le c))

  up-over : At r (suc q) k → (2 * q + 1) * (2 * q + 1) * 4 ^ k < 4 * n → square (in_units (below r) + in_units r) < 4 * n
  up-over a h =
      let u : in_units r ≡ suc q * 2 ^ k = units_of r (suc q * 2 ^ k) a.exact in
      let b : in_units (below r) ≡ q * 2 ^ k = below_at r q k a K.least in
      let m = mid q (2 ^ k) in
      let c : in_units (below r) + in_units r ≡ (2 * q + 1) * 2 ^ k = omega arith in
      lt_of_le_of_lt (le_of_eq (ap square c ∙ sq_shift (2 * q + 1) k)) h

  up-under : At r (suc q) k → 4 * n < square (in_units r + in_units (above r))
  up-under a =
      let u : in_units r ≡ suc q * 2 ^ k = units_of r (suc q * 2 ^ k) a.exact in
      let b = above_at r (suc q) k a in
      let s : suc (suc q) * 2 ^ k ≡ suc q * 2 ^ k + 2 ^ k = suc-mul (suc q) (2 ^ k) in
      let c : 2 * (suc q * 2 ^ k) ≤ in_units r + in_units (above r) = omega arith in
      lt_of_lt_of_le (mul-lt-mul_of_pos_left K.high (omega arith)) (le_trans (le_of_eq (sym (sq_twice (suc q * 2 ^ k) ∙ ap (λ (x : ℕ). 4 * x) (sq_shift (suc q) k)))) (sq_le c))

finite-at : (q k : ℕ) → q ≤ 2 ^ 53 → k < 2000 → q * 2 ^ k < 2 ^ 2098
finite-at q k h K =
    let c : 54 + k ≤ 2098 = omega arith in
    lt_of_lt_of_le (shl_lt 54 k (lt_of_le_of_lt h (lit< tt))) (pow_mono c)

pub at_units : (q k : ℕ) → 2 ^ 52 ≤ q → q ≤ 2 ^ 53 → 0 < k → k < 2000 → At (units binary64 false q k) q k
at_units q k lo hi z K = record { exact = units_val binary64 false q k (finite-at q k hi K); least = lo; most = hi; some = z; small = K }

pub units_fit : (q k : ℕ) → q ≤ 2 ^ 53 → k < 2000 → T (fits binary64 (units binary64 false q k))
unfolding units
units_fit q k hi K = cond-fits binary64 (ltb (q * 2 ^ k) (2 ^ 2098)) (odd 54 false q k (low binary64)) (inf false) (odd-fits binary64 54 false q k (lt_of_le_of_lt hi (lit< tt)) hi (finite-at q k hi K)) (inf-fits binary64 false)

units_above : (q k : ℕ) → 2 ^ 52 ≤ q → q ≤ 2 ^ 53 → k < 2000 → T (positive (units binary64 false q k))
units_above q k lo hi K = positive_of_value (units binary64 false q k) (q * 2 ^ k) (2 ^ low binary64) (units_val binary64 false q k (finite-at q k hi K)) (mul-pos (lt_of_lt_of_le (lit< tt) lo) (pow_pos k))

-- Says what an answer of `compare` tells.
abbrev pub Cmp : Ordering → ℕ → ℕ → Type 0
Cmp Ordering.lt a b = a < b
Cmp Ordering.eq a b = a ≡ b
Cmp Ordering.gt a b = b < a

pub cmp : (a b : ℕ) → Cmp (compare a b) a b
cmp a b = go (compare a b) (leb→le a b) (nleb→lt a b) (eqb→eq a b) (λ (e : a ≡ b). subst (λ (x : ℕ). T (eqb a x)) e (eqb_refl a))
  where
    go : (o : Ordering) → (T (is_le o) → a ≤ b) → (T (not (is_le o)) → b < a) → (T (compare_is_eq o) → a ≡ b) → (a ≡ b → T (compare_is_eq o)) → Cmp o a b
    go Ordering.lt h k e n = lt_of_le-ne (h tt) n
    go Ordering.eq h k e n = e tt
    go Ordering.gt h k e n = k tt

rounded : (x : Float) (n k q : ℕ) → DigitsKept n k q → scaled x ≡ 4 * n → 0 < k → k < 2000 → (4 * n ≡ (2 * q + 1) * (2 * q + 1) * 4 ^ k → ⊥)
    → (o : Ordering) → Cmp o (4 * n) ((2 * q + 1) * (2 * q + 1) * 4 ^ k) → IsRoot x (units binary64 false (nearest q o) k)
rounded x n k q K s z b tie Ordering.lt c =
    let a = at_units q k K.least (le_of_lt K.most) z b in
    let r = units binary64 false q k in
    record {
      value = units_fit q k (le_of_lt K.most) b;
      sign = units_above q k K.least (le_of_lt K.most) b;
      over = subst (λ (y : ℕ). square (in_units (below r) + in_units r) < y) (sym s) (down-over n k q K r a);
      under = subst (λ (y : ℕ). y < square (in_units r + in_units (above r))) (sym s) (down-under n k q K r a c);
    }
rounded x n k q K s z b tie Ordering.eq c = absurd (tie c)
rounded x n k q K s z b tie Ordering.gt c =
    let g : 2 ^ 52 ≤ suc q = le_trans K.least (omega arith) in
    let a = at_units (suc q) k g K.most z b in
    let r = units binary64 false (suc q) k in
    record {
      value = units_fit (suc q) k K.most b;
      sign = units_above (suc q) k g K.most b;
      over = subst (λ (y : ℕ). square (in_units (below r) + in_units r) < y) (sym s) (up-over n k q K r a c);
      under = subst (λ (y : ℕ). y < square (in_units r + in_units (above r))) (sym s) (up-under n k q K r a);
    }

-- The argument in units has between 1075 and 3172 digits.
long_enough : (m z n : ℕ) → 0 < m → n ≡ m * 2 ^ (z + 1074) → 1074 < size n
long_enough m z n p e = lt_of_not-le (λ (h : size n ≤ 1074). lt_irrefl n (lt_of_lt_of_le (size-lt n) (le_trans (pow_mono h) (le_trans (pow_mono {i = 1074} {j = z + 1074} (omega arith)) (le_trans (le_of_eq (sym (one-mul (2 ^ (z + 1074))))) (le_trans (mul-le-mul_right (2 ^ (z + 1074)) p) (le_of_eq (sym e))))))))

short_enough : (m z n : ℕ) → m * 2 ^ z < 2 ^ 2098 → n ≡ m * 2 ^ (z + 1074) → size n ≤ 3172
short_enough m z n h e = size-le n 3172 (subst (λ (y : ℕ). y < 2 ^ 3172) (mul_assoc m (2 ^ z) (2 ^ 1074) ∙ ap (λ (y : ℕ). m * y) (sym (pow-add 2 z 1074)) ∙ sym e) (shl_lt 2098 1074 h))

root_units_is : (x : Float) (m n : ℕ) → 0 < m → Argument x m n → IsRoot x (root_units n)
unfolding root_units
root_units_is x m n p a =
    let k = (size n + 1) / 2 - 53 in
    let q = root_down 53 (n / 4 ^ k) in
    let lo = long_enough m a.zeros n p a.scale in
    let hi = short_enough m a.zeros n a.finite a.scale in
    let K = kept_is n k refl (omega arith) in
    rounded x n k q K (in_units_lem x m n a) (omega arith) (omega arith) (λ t. no_tie m (a.zeros + 1074) q k a.short K.least (ap (λ (y : ℕ). 4 * y) (sym a.scale) ∙ t)) (compare (4 * n) ((2 * q + 1) * (2 * q + 1) * 4 ^ k)) (cmp (4 * n) ((2 * q + 1) * (2 * q + 1) * 4 ^ k))
  where
    in_units_lem : (x : Float) (m n : ℕ) → Argument x m n → scaled x ≡ 4 * n
    in_units_lem x m n a = unfold scaled in ap (λ (y : ℕ). 4 * y) (ap (λ (y : ℕ). y * 2 ^ 1074) a.units ∙ mul_assoc m (2 ^ a.zeros) (2 ^ 1074) ∙ ap (λ (y : ℕ). m * y) (sym (pow-add 2 a.zeros 1074)) ∙ sym a.scale)

-- "The root is the exact root rounded to nearest" holds for a positive finite argument.
pub root_is : (x : Float) → T (fits binary64 x) → T (positive x) → IsRoot x (root x)
unfolding root
root_is nan h p = absurd p
root_is (inf s) h p = absurd p
root_is (fin true m e) h p = absurd p
root_is (fin false zero e) h p = absurd p
root_is (fin false (suc m) e) h p = root_units_is (fin false (suc m) e) (suc m) (suc m * up e * 4 ^ low binary64 / down e) (zero-lt-suc m) (argument m e h)
