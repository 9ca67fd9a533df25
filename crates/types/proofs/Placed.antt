-- The call starts from what preflight and the sweeps leave in the workspace.
-- Assumes nothing.
use Rattle.std.specs.Prelude.{Err, Ok}
use mathlib.Core.Path.{◌≡◌, sym, ap, ◌∙◌}
use mathlib.Core.List.{List}
use Prim.Native.Nat.{ℕ}
use lib.Ieee.{Float}
use Rattle.spec.specs.declared.Refusal.{Refusal}
use Rattle.spec.specs.Refusal.{Answer, refused_with}
use Rattle.spec.specs.Judged.{Judged}
use Rattle.spec.specs.Solid.{Concrete}
use Rattle.spec.specs.Calls.{TypesOut, types_call}
use Rattle.ranked.specs.declared.Shape.{Shape}
use Rattle.ranked.specs.Words.{lists_of, abs_in}
use Rattle.preflight.specs.Bench.{Bench}
use Rattle.ranked.specs.Layout.{solid_in}
use Rattle.preflight.specs.Preflight.{Preflighted}
use Rattle.preflight.proofs.Laws.{refused_by, passed_by}
use Rattle.element_types.specs.State.{state_in}
use Rattle.element_types.specs.Typed.{TypesMade}
use Rattle.types.specs.Call.{handed_out, answered}
use Rattle.types.proofs.Call.{call-refused, call_passed, unsettled, settled}

-- ---- 15, 13

module _ (sh : Shape) (w v : List ℕ) (fs gs : List Float) (old : TypesOut) where
  pub unsettled_given : {why : Refusal} → TypesMade sh w v fs gs (Err why) → (refused_with why 0, old) ≡ answered (solid_in sh w fs) old
  unsettled_given t = rw t.ends.0 (sym (unsettled (solid_in sh w fs) old t.ends.1))

  pub settled_given : TypesMade sh w v fs gs (Ok tt) → (x : Answer × TypesOut) → x ≡ handed_out (abs_in sh (lists_of sh v)) (state_in sh v) old → x ≡ answered (solid_in sh w fs) old
  settled_given t x e =
      e ∙ ap (λ (l : List ℕ). handed_out (abs_in sh l) (state_in sh v) old) t.lists ∙ sym (settled (solid_in sh w fs) old (state_in sh v) t.ends)

-- ---- 1 to 7

module _ {b : List ℕ} {n m : ℕ} {r : Judged Shape} {ws : List ℕ} {fs : List Float} (p : Preflighted b n m r ws fs) where
  pub refused-call : {why : Refusal} → r ≡ Err why → (old : TypesOut) → (refused_with why 0, old) ≡ types_call b n m old
  refused-call {why} e old = sym (call-refused b n m old why (refused_by p e))

  module _ {sh : Shape} (e : r ≡ Ok sh) where
    pub benched : Bench sh ws fs
    benched = (passed_by p e).2.bench

    pub passed_call : (old : TypesOut) (x : Answer × TypesOut) → x ≡ answered (solid_in sh ws fs) old → x ≡ types_call b n m old
    passed_call old x q = let c = passed_by p e in q ∙ ap (λ (d : Concrete). answered d old) c.2.is ∙ sym (call_passed b n m old c.0 c.1)
