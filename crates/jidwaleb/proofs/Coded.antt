-- The answer of a call is handed on as its code with the outputs as they are, and is read back from the code.
-- Assumes nothing.
use Rattle.std.specs.Prelude.{Ok, Err}
use mathlib.Core.Path.{◌≡◌, refl, sym, ap, ◌∙◌}
use Prim.Native.Nat.{ℕ, ◌^◌, ◌<◌}
use native.Mathlib.Omega.{arith}
use Rattle.spec.specs.declared.Refusal.{Refusal}
use Rattle.spec.specs.declared.Refusal.TheVariants.{CutSheet, Format, OffTheBoard, BadList, Loose, Mitre, Bench, NotFull, DoubleCorner, Centred, Flat, Blank, ShortSheet, Open, Unsettled}
use Rattle.spec.specs.Refusal.{number, answer_number, answer_count, Answer}
use Rattle.jidwaleb.specs.Code.{code_of, coded_out, refusal_in, count_in, Decoded}

-- ---- refusals count from 1

number_some : (why : Refusal) → 0 < number why
number_some CutSheet = omega arith
number_some Format = omega arith
number_some OffTheBoard = omega arith
number_some BadList = omega arith
number_some Loose = omega arith
number_some Mitre = omega arith
number_some Bench = omega arith
number_some NotFull = omega arith
number_some DoubleCorner = omega arith
number_some Centred = omega arith
number_some Flat = omega arith
number_some Blank = omega arith
number_some ShortSheet = omega arith
number_some Open = omega arith
number_some Unsettled = omega arith

unrefused : (a : Answer) → answer_number a ≡ 0 → (n : ℕ) × (a ≡ Ok n)
unrefused (Ok n) e = (n, refl)
unrefused (Err r) e = absurd (omega (arith, number_some r.why))

-- ---- the code

pub decoded : (a : Answer) → answer_count a < 2 ^ 32 → (r : ℕ) → r ≡ code_of a → Decoded r a
decoded a h r p = record { refusal = omega arith; count = omega arith }

module _ {A : Type 0} (a : Answer) (out : A) (call : Answer × A) (e : (a, out) ≡ call) (h : answer_count call.0 < 2 ^ 32) where
  answer_is : a ≡ call.0
  answer_is = ap (λ (x : Answer × A). x.0) e

  pub fits : answer_count a < 2 ^ 32
  fits = rw answer_is h

  module _ (r : ℕ) (p : r ≡ code_of a) where
    pub handed : (r, out) ≡ coded_out call
    handed = ap (λ (n : ℕ). (n, out)) p ∙ ap coded_out e

    pub told : Decoded r call.0
    told = decoded call.0 h r (p ∙ ap code_of answer_is)

    pub done : refusal_in r ≡ 0 → (n : ℕ) × (a ≡ Ok n)
    done q = unrefused a (sym (decoded a fits r p).refusal ∙ q)

    pub counted : answer_count a ≡ count_in r
    counted = sym (decoded a fits r p).count
