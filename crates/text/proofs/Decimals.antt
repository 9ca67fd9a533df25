-- A number's decimal digits are a tenth's digits and one more, and there is a bound on how many there are.
-- Assumes nothing.
use mathlib.Core.Path.{◌≡◌, refl, sym, ap, ◌∙◌}
use mathlib.Core.Bool.{Bool, true, false}
use mathlib.Core.List.{List, [], ◌∷◌, ◌++◌}
use Prim.Native.Nat.{ℕ, zero, suc, ◌+◌, ◌/◌, ◌%◌, ◌^◌, ◌≤◌, ◌<◌}
use native.Mathlib.Nat.{pow-suc, div-lt_iff_lt-mul}
use native.Mathlib.Omega.{arith}
use borrow.Author.Tests.{lt-ltb, le-ltb, ltb-true, ltb-false}
use lib.ListN.{length, length-append}
use lib.Dec.{ltb}
use Rattle.spec.specs.KitText.{digits, decimal}

digits_small : (k n : ℕ) → n < 10 → digits (suc k) n ≡ (48 + n) ∷ []
unfolding digits
digits_small k n h = rw (lt-ltb n 10 h, digits)

digits_more : (k n : ℕ) → 10 ≤ n → digits (suc k) n ≡ digits k (n / 10) ++ ((48 + n % 10) ∷ [])
unfolding digits
digits_more k n h = rw (le-ltb n 10 h, digits)

tenth : (n : ℕ) → 10 ≤ n → n / 10 < n
tenth n h = omega arith

-- Any bound on the digits' number that is above n serves.
digits_enough : (k m n : ℕ) → n < k → n < m → digits k n ≡ digits m n
digits_enough zero m n h g = absurd (omega arith)
digits_enough (suc k) zero n h g = absurd (omega arith)
digits_enough (suc k) (suc m) n h g = go (ltb n 10) refl (λ a b. digits_enough k m (n / 10) a b)
  where
    go : (b : Bool) → ltb n 10 ≡ b → (n / 10 < k → n / 10 < m → digits k (n / 10) ≡ digits m (n / 10)) → digits (suc k) n ≡ digits (suc m) n
    go true e ih = digits_small k n (ltb-true n 10 e) ∙ sym (digits_small m n (ltb-true n 10 e))
    go false e ih =
        let t = ltb-false n 10 e in
        let l = tenth n t in
        digits_more k n t ∙ ap (λ (x : List ℕ). x ++ ((48 + n % 10) ∷ [])) (ih (omega arith) (omega arith)) ∙ sym (digits_more m n t)

pub decimal_small : (n : ℕ) → n < 10 → decimal n ≡ (48 + n) ∷ []
unfolding decimal
decimal_small n h = digits_small n n h

pub decimal_more : (n : ℕ) → 10 ≤ n → decimal n ≡ decimal (n / 10) ++ ((48 + n % 10) ∷ [])
unfolding decimal
decimal_more n h =
    let l = tenth n h in
    digits_more n n h ∙ ap (λ (x : List ℕ). x ++ ((48 + n % 10) ∷ [])) (digits_enough n (suc (n / 10)) (n / 10) l (omega arith))

-- A number below 10 to the k, k at least 1, has at most k digits.
pub decimal_long : (k n : ℕ) → n < 10 ^ suc k → length (decimal n) ≤ suc k
decimal_long zero n h = omega (arith, ap length (decimal_small n (omega arith)))
decimal_long (suc k) n h = go (ltb n 10) refl (decimal_long k (n / 10))
  where
    go : (b : Bool) → ltb n 10 ≡ b → (n / 10 < 10 ^ suc k → length (decimal (n / 10)) ≤ suc k) → length (decimal n) ≤ suc (suc k)
    go true e ih = omega (arith, ap length (decimal_small n (ltb-true n 10 e)))
    go false e ih =
        let t = ltb-false n 10 e in
        let q = ih ((div-lt_iff_lt-mul {k = 10} {x = n} {y = 10 ^ suc k} (omega arith)).1 (rw (pow-suc 10 (suc k)) at h)) in
        omega (arith, ap length (decimal_more n t), length-append (decimal (n / 10)) ((48 + n % 10) ∷ []))

-- A word has at most 20 digits, and a cell of 16 bits at most 5.
pub decimal-word : (n : ℕ) → n < 2 ^ 64 → length (decimal n) ≤ 20
decimal-word n h = decimal_long 19 n (omega arith)

pub decimal-cell : (n : ℕ) → n < 2 ^ 16 → length (decimal n) ≤ 5
decimal-cell n h = decimal_long 4 n (omega arith)
