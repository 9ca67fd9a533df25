use mathlib.Core.Path.{◌≡◌, refl, sym, ap, ◌∙◌, subst}
use mathlib.Core.Logic.{◌⊎◌, inl, inr}
use Prim.Native.Nat.{ℕ, suc, ◌+◌, ◌-◌, ◌*◌, ◌/◌, ◌%◌, ◌^◌, ◌≤◌, ◌<◌}
use native.Mathlib.Nat.{div-eq_of_lt}
use native.Mathlib.Numerals.{add-one}
use native.Mathlib.Omega.{arith}
use mathlib.Core.Bool.{Bool, true, false}
use mir.Val.{bool_byte}
use lib.Dec.{leb}
use borrow.Author.Tests.{leb-true, leb-false}
use lib.Pow.{shr-shr}
use Rattle.spec.specs.Float.{root_down}
use Rattle.float.proofs.root.Digits.{Root, digit-one, digit-zero}
use Rattle.float.proofs.root.short_root.Goals.{In-loop-done, After-from-digit}
use Rattle.float.proofs.root.short_root.Invariants.{Brought}
use Rattle.float.proofs.root.short_root.Goals as goal

first : (n : ℕ) → n < 2 ^ 54 → Root 0 (Brought n 0) 0 0
unfolding root_down
first n h = let e : n / 2 ^ 54 ≡ 0 = div-eq_of_lt h in (refl, sym e)

-- Two digits more are brought down.
module _ (n i q c : ℕ) (h : i < 27) (r : Root i (Brought n i) q c) where
  before : Root i (n / 2 ^ (52 - 2 * i) / 4) q c
  before =
      let e : 54 - 2 * i ≡ 52 - 2 * i + 2 = omega arith in
      subst (λ (a : ℕ). Root i a q c) (ap (λ (k : ℕ). n / 2 ^ k) e ∙ sym (shr-shr n (52 - 2 * i) 2)) r

  after : (q' c' : ℕ) → Root (suc i) (n / 2 ^ (52 - 2 * i)) q' c' → Root (i + 1) (Brought n (i + 1)) q' c'
  after q' c' s =
      let e : 52 - 2 * i ≡ 54 - 2 * (i + 1) = omega arith in
      subst (λ (j : ℕ). Root j (Brought n (i + 1)) q' c') (sym (add-one i)) (subst (λ (k : ℕ). Root (suc i) (n / 2 ^ k) q' c') e s)

  one : (q' c' : ℕ) → 4 * q + 1 ≤ 4 * c + n / 2 ^ (52 - 2 * i) % 4 → q' ≡ 2 * q + 1 → c' ≡ 4 * c + n / 2 ^ (52 - 2 * i) % 4 - (4 * q + 1) → Root (i + 1) (Brought n (i + 1)) q' c'
  one q' c' l e f = after q' c' (rw (e, f) (digit-one i (n / 2 ^ (52 - 2 * i)) q c before l))

  nought : (q' c' : ℕ) → 4 * c + n / 2 ^ (52 - 2 * i) % 4 < 4 * q + 1 → q' ≡ 2 * q → c' ≡ 4 * c + n / 2 ^ (52 - 2 * i) % 4 → Root (i + 1) (Brought n (i + 1)) q' c'
  nought q' c' l e f = after q' c' (rw (e, f) (digit-zero i (n / 2 ^ (52 - 2 * i)) q c before l))

-- A digit is 1 or 0, by the test that it goes by.
abbrev Digit : ℕ → ℕ → ℕ → Type 0
Digit a b d = ((d ≡ 1) × (a ≤ b)) ⊎ ((d ≡ 0) × (b < a))

digit_is : (a b d : ℕ) → d ≡ bool_byte (leb a b) → Digit a b d
digit_is a b d e = go (leb a b) refl e
  where
    go : (t : Bool) → leb a b ≡ t → d ≡ bool_byte t → Digit a b d
    go true h e = inl (e, leb-true a b h)
    go false h e = inr (e, leb-false a b h)

digit-of : (c : After-from-digit) → Digit (4 * c.loop-done.root + 1) (4 * c.loop-done.rest + c.args.n / 2 ^ (52 - 2 * c.loop-done.done) % 4) c.from-digit.result
digit-of c = digit_is _ _ _ c.from-digit.ensures

next : (n i q c d : ℕ) → i < 27 → Root i (Brought n i) q c → Digit (4 * q + 1) (4 * c + n / 2 ^ (52 - 2 * i) % 4) d
    → Root (i + 1) (Brought n (i + 1)) (2 * q + d) (4 * c + n / 2 ^ (52 - 2 * i) % 4 - (4 * q + 1) * d)
next n i q c d h r (inl (e, l)) = one n i q c h r _ _ l (ap (λ (x : ℕ). 2 * q + x) e) (rw e (omega arith))
next n i q c d h r (inr (e, l)) = nought n i q c h r _ _ l (rw e (omega arith)) (rw e (omega arith))

pub loop-done-init : goal.loop-done-init
loop-done-init c = first c.args.n c.requires

pub loop-done-preserved : goal.loop-done-preserved
loop-done-preserved c = next _ _ _ _ _ c.loop-done-test.true c.loop-done.invariant (digit-of c)
