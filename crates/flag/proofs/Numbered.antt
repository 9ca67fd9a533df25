-- A loop over the flags starts at flag 0, each turn goes on to the next number, and it ends after the last.
-- Assumes nothing.
use Rattle.std.specs.Prelude.{Option, None, Some}
use mathlib.Core.Path.{◌≡◌, sym, ◌∙◌}
use mathlib.Core.List.{List, [], ◌∷◌}
use Prim.Native.Nat.{ℕ, suc, ◌<◌}
use native.Mathlib.Omega.{arith}
use lib.ListN.{length}
use Rattle.spec.specs.Lists.{In}
use Rattle.spec.specs.Flags.{Flag, IsFlag, first_flag, flags}
use Rattle.laws.proofs.Lists.{in_get_d}
use Rattle.laws.proofs.FlagList.{every_flag_once, every_first}
use Rattle.ranked.specs.declared.Shape.{Shape}
use Rattle.ranked.specs.Words.{abs_in, Held}
use Rattle.flag.specs.Reading.{Follows, Nth}

some_in : {A : Type 0} (x : A) (l : List A) → In x l → 0 < length l
some_in {A = A} x [] m = elim m [ ]
some_in x (y ∷ l) m = omega arith

module _ (sh : Shape) (w : List ℕ) (h : Held sh w) where
  -- The first flag is flag 0.
  pub nth_first : (F : Flag) → F ≡ first_flag (abs_in sh w) → Nth (abs_in sh w) F 0
  nth_first F e =
      let f = every_first (abs_in sh w) h.sound h.filled in
      record { low = some_in (first_flag (abs_in sh w)) (flags (abs_in sh w)) (((every_flag_once (abs_in sh w) h.sound).exact (first_flag (abs_in sh w))).1 f.0); is = e ∙ sym f.1 }

  -- A flag of the list is a flag.
  pub nth_flag : (F : Flag) (i : ℕ) → Nth (abs_in sh w) F i → IsFlag (abs_in sh w) F
  nth_flag F i n = rw n.is (((every_flag_once (abs_in sh w) h.sound).exact _).0 (in_get_d [] (flags (abs_in sh w)) i n.low))

  module _ (F : Flag) (after : Option Flag) (f : Follows (abs_in sh w) F after) (i : ℕ) (n : Nth (abs_in sh w) F i) where
    pub nth_next : (G : Flag) → after ≡ Some G → Nth (abs_in sh w) G (suc i)
    nth_next G e = let g = f.next G e i n.low n.is in record { low = g.0; is = g.1 }

    pub nth_last : after ≡ None → suc i ≡ length (flags (abs_in sh w))
    nth_last e = f.end e i n.low n.is
