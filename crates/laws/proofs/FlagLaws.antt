-- Section 5 holds of every solid that passes preflight.
-- Assumes nothing.
use mathlib.Core.Path.{◌≡◌}
use mathlib.Core.Bool.{true}
use Prim.Native.Nat.{ℕ, suc, ◌<◌}
use lib.ListN.{length}
use Rattle.spec.specs.Types.{Solid, size, subs}
use Rattle.spec.specs.Demand.{Sound}
use Rattle.spec.specs.Solid.{diamond}
use Rattle.laws.specs.FlagLaws.{FlagsOf, EveryFlagLaw}
use Rattle.laws.proofs.Accepted.{every_passed}
use Rattle.laws.proofs.FlagList.{every_flag_once, every_first}
use Rattle.laws.proofs.FlagChange.{every-change}
use Rattle.laws.proofs.Exchange.{every-exchange}

flags_of : (s : Solid) → Sound s → diamond s ≡ true → ((r e : ℕ) → e < size s (suc r) → 0 < length (subs s (suc r) e)) → FlagsOf s
flags_of s v d full =
    let w = every_first s v full in
    record {
      listed = every_flag_once s v;
      first = w.0;
      starts = w.1;
      changed = every-change s v d;
    }

pub every_flag_law : EveryFlagLaw
every_flag_law b words floats c e =
    let p = every_passed b words floats c e in
    record {
      read = flags_of c.abs p.sound p.diamonds p.filled;
      searched = λ tall f low.
          let k = every-exchange c.abs p.sound p.diamonds p.filled tall f low in
          flags_of _ k.sound k.diamonds k.filled;
    }
