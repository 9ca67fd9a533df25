-- What is proved of the root: that the definition computes it, that no other value is the root, and what callers use of it.
-- Assumes nothing.
use Rattle.std.specs.Prelude.{◌≡◌, ◌⊎◌, ◌↔◌, Bool, true, false, T, Float}
use Rattle.std.specs.Float.{nan, inf, fin, binary64}
use Rattle.std.specs.Float.Ieee.{eq, fits, of_bits}
use Rattle.spec.specs.Float.{zero_f, finite, root}
use Rattle.spec.specs.Root.{RootOf}

-- The function `root` gives the root of every value of the format, and no value has another root.
abbrev pub EveryRoot : Type 0
EveryRoot = (x : Float) → T (fits binary64 x) → RootOf x (root x)

abbrev pub RootUnique : Type 0
RootUnique = (x r : Float) → T (fits binary64 x) → RootOf x r → r ≡ root x

-- ---- what callers use of the root of a finite value that is not negative

-- Tells whether the sign is minus, which it may be for a zero too.
abbrev pub is_sign_minus : Float → Bool
is_sign_minus nan = false
is_sign_minus (inf s) = s
is_sign_minus (fin s m e) = s

-- This is the zero whose sign is minus, -0.
unfoldable pub minus_zero : Float
minus_zero = of_bits binary64 0x8000_0000_0000_0000

-- The sign of x is plus, or x is a zero.
abbrev pub NotNegative : Float → Type 0
NotNegative x = (is_sign_minus x ≡ false) ⊎ (eq x zero_f ≡ true)

-- The root r of x is a finite value of the format. It is not negative, and only -0 gives it the sign minus; and it is a zero exactly when x is.
pub record RootFacts (x r : Float) : Type 0 where
  pub is_finite : finite r ≡ true
  pub sign : (is_sign_minus r ≡ false) ⊎ (x ≡ minus_zero)
  pub value : T (fits binary64 r)
  pub zeros : (eq r zero_f ≡ true) ↔ (eq x zero_f ≡ true)

abbrev pub EveryRootFacts : Type 0
EveryRootFacts = (x : Float) → finite x ≡ true → NotNegative x → T (fits binary64 x) → RootFacts x (root x)
