-- The whole part of a root is found digit by digit and by one division. Everything here is about whole numbers.
-- Assumes nothing.
use mathlib.Core.Path.{◌≡◌, refl, sym, ap, ◌∙◌, subst}
use Prim.Native.Nat.{ℕ, suc, ◌+◌, ◌-◌, ◌*◌, ◌/◌, ◌%◌, ◌^◌, ◌≤◌, ◌<◌}
use native.Mathlib.Nat.{le_trans, lt_irrefl, lt_of_lt_of_le, lt_of_not-le, mul_comm, mul_assoc, mul_left_comm, add_comm, add_assoc, add_left_comm, mul-add, add-mul, mod-lt, div-add-mod', div-lt_iff_lt-mul}
use native.Mathlib.Omega.{arith}
use mathlib.Core.Bool.{Bool, true, false}
use lib.Dec.{leb, le→leb}
use lib.Arith.{lt→nleb}
use lib.Ieee.Bits.{is_true, is_false}
use Rattle.spec.specs.Float.{root_down}
use Rattle.laws.proofs.RootIs.{sq_twice, sq_suc, root_down_is, sq_le}

-- ---- one digit more

-- The root is twice the root of a quarter, or one more.
abbrev pick : ℕ → ℕ → ℕ
pick r a = elim (leb (suc r * suc r) a) [ true ↦ suc r | false ↦ r ]

down_step : (i a q : ℕ) → q ≡ root_down i (a / 4) → pick (2 * q) a ≡ root_down (suc i) a
unfolding root_down
down_step i a q e = ap (λ (x : ℕ). pick (2 * x) a) e

pick_more : (r a : ℕ) → suc r * suc r ≤ a → pick r a ≡ suc r
pick_more r a h = ap (λ (b : Bool). elim b [ true ↦ suc r | false ↦ r ]) (is_true (leb (suc r * suc r) a) (le→leb (suc r * suc r) a h))

pick_same : (r a : ℕ) → a < suc r * suc r → pick r a ≡ r
pick_same r a h = ap (λ (b : Bool). elim b [ true ↦ suc r | false ↦ r ]) (is_false (leb (suc r * suc r) a) (lt→nleb (suc r * suc r) a h))

-- The number q is the root of the digits so far, a, in i of its digits, and c is what its square leaves.
abbrev pub Root : ℕ → ℕ → ℕ → ℕ → Type 0
Root i a q c = (q ≡ root_down i a) × (q * q + c ≡ a)

pub digit-one : (i a q c : ℕ) → Root i (a / 4) q c → 4 * q + 1 ≤ 4 * c + a % 4 → Root (suc i) a (2 * q + 1) (4 * c + a % 4 - (4 * q + 1))
digit-one i a q c h l =
    let s : 2 * q + 1 ≡ suc (2 * q) = omega arith in
    let p = sq_suc (2 * q) in
    let t = sq_twice q in
    let v = h.1 in
    let d : suc (2 * q) * suc (2 * q) + (4 * c + a % 4 - (4 * q + 1)) ≡ a = omega arith in
    (s ∙ sym (pick_more (2 * q) a (omega arith)) ∙ down_step i a q h.0, ap (λ (x : ℕ). x * x + (4 * c + a % 4 - (4 * q + 1))) s ∙ d)

pub digit-zero : (i a q c : ℕ) → Root i (a / 4) q c → 4 * c + a % 4 < 4 * q + 1 → Root (suc i) a (2 * q) (4 * c + a % 4)
digit-zero i a q c h l =
    let p = sq_suc (2 * q) in
    let t = sq_twice q in
    let v = h.1 in
    (sym (pick_same (2 * q) a (omega arith)) ∙ down_step i a q h.0, omega arith)

-- ---- bounds

pub rest_le : (i a q c : ℕ) → a < 4 ^ i → Root i a q c → c ≤ 2 * q
rest_le i a q c l h =
    let w : a < suc q * suc q = subst (λ (x : ℕ). a < suc x * suc x) (sym h.0) (root_down_is i a l).1 in
    let p = sq_suc q in
    let v = h.1 in
    omega arith

-- A number between two squares has its root between theirs.
root-least : (q c a b : ℕ) → q * q + c ≡ a → c ≤ 2 * q → b * b ≤ a → b ≤ q
root-least q c a b e l h =
    let p = sq_suc q in
    let z : a < suc q * suc q = omega arith in
    let y : b < suc q = lt_of_not-le (λ (k : suc q ≤ b). lt_irrefl a (lt_of_lt_of_le z (le_trans (sq_le k) h))) in
    omega arith

root-most : (q c a b : ℕ) → q * q + c ≡ a → a < b * b → q < b
root-most q c a b e h = lt_of_not-le (λ (k : b ≤ q). let s = sq_le k in let z : a < a = omega arith in lt_irrefl a z)

-- It is the only one.
pub root_same : (i a q c : ℕ) → a < 4 ^ i → q * q + c ≡ a → c ≤ 2 * q → Root i a q c
root_same i a q c l e h =
    let r = root_down i a in
    let w = root_down_is i a l in
    let x : r ≤ q = root-least q c a r e h w.0 in
    let y : q < suc r = root-most q c a (suc r) e w.1 in
    (omega arith, e)

-- ---- the lower digits by one division

-- The upper digits Q leave R; twice Q goes u times into R, moved up by B, and leaves r.
squared : (Q B u r : ℕ) → (Q * B + u) * (Q * B + u) + r * B ≡ Q * Q * (B * B) + (u * (Q + Q) + r) * B + u * u
squared Q B u r = simp (mul-add, add-mul, mul_assoc, mul_comm, mul_left_comm, add_assoc, add_comm, add_left_comm) refl

pub record Divided (n Q R u r : ℕ) : Type 0 where
  pub least : 2 ^ 26 ≤ Q
  pub most : Q < 2 ^ 27
  pub rest : R ≤ 2 * Q
  pub digits : u ≤ 2 ^ 26
  pub square : u * u ≤ 2 ^ 52
  pub left : r < 2 * Q
  pub sum : (Q * 2 ^ 26 + u) * (Q * 2 ^ 26 + u) + r * 2 ^ 26 ≡ n * 2 ^ 52 + u * u

pub divided : (n Q R : ℕ) → 2 ^ 52 ≤ n → n < 2 ^ 54 → Root 27 n Q R → Divided n Q R (R * 2 ^ 26 / (2 * Q)) (R * 2 ^ 26 % (2 * Q))
divided n Q R lo hi h =
    let u = R * 2 ^ 26 / (2 * Q) in
    let r = R * 2 ^ 26 % (2 * Q) in
    let c : R ≤ 2 * Q = rest_le 27 n Q R hi h in
    let g : 2 ^ 26 ≤ Q = root-least Q R n (2 ^ 26) h.1 c lo in
    let p : 0 < 2 * Q = omega arith in
    let e : u * (2 * Q) + r ≡ R * 2 ^ 26 = div-add-mod' (R * 2 ^ 26) (2 * Q) in
    let k : u < suc (2 ^ 26) = (div-lt_iff_lt-mul p).1 (omega arith) in
    let l : u ≤ 2 ^ 26 = omega arith in
    record {
      least = g;
      most = root-most Q R n (2 ^ 27) h.1 hi;
      rest = c;
      digits = l;
      square = sq_le l;
      left = mod-lt (R * 2 ^ 26) p;
      sum = total n Q R u r h.1 e;
    }
  where
    total : (n Q R u r : ℕ) → Q * Q + R ≡ n → u * (2 * Q) + r ≡ R * 2 ^ 26 → (Q * 2 ^ 26 + u) * (Q * 2 ^ 26 + u) + r * 2 ^ 26 ≡ n * 2 ^ 52 + u * u
    total n Q R u r a e =
        let s = squared Q (2 ^ 26) u r in
        let t : Q + Q ≡ 2 * Q = omega arith in
        let d : u * (Q + Q) ≡ u * (2 * Q) = ap (λ (x : ℕ). u * x) t in
        omega arith

module _ (n Q R u r : ℕ) (hi : n < 2 ^ 54) (D : Divided n Q R u r) where
  pub lower_right : u * u ≤ r * 2 ^ 26 → Root 53 (n * 2 ^ 52) (Q * 2 ^ 26 + u) (r * 2 ^ 26 - u * u)
  lower_right h = root_same 53 (n * 2 ^ 52) (Q * 2 ^ 26 + u) (r * 2 ^ 26 - u * u) (omega arith) (omega arith) (omega arith)

  pub lower-over : r * 2 ^ 26 < u * u → Root 53 (n * 2 ^ 52) (Q * 2 ^ 26 + u - 1) (r * 2 ^ 26 + (2 * (Q * 2 ^ 26 + u) - 1) - u * u)
  lower-over h =
      let q = Q * 2 ^ 26 + u - 1 in
      let e : Q * 2 ^ 26 + u ≡ suc q = omega arith in
      let p : (Q * 2 ^ 26 + u) * (Q * 2 ^ 26 + u) ≡ q * q + 2 * q + 1 = ap (λ (x : ℕ). x * x) e ∙ sq_suc q in
      root_same 53 (n * 2 ^ 52) q (r * 2 ^ 26 + (2 * (Q * 2 ^ 26 + u) - 1) - u * u) (omega arith) (omega arith) (omega arith)
