-- A judgement comes to a refusal of the table "Preflight answers", or to a value. The first refusal stands.
-- Assumes nothing.
use Rattle.std.specs.Prelude.{Bool, true, false, Err, None, Ok, Option, Result, Some}
use Rattle.spec.specs.declared.Refusal.{Refusal}

abbrev pub Judged : Type 0 → Type 0
Judged A = Result A Refusal

infixl 10 ◌>>=◌ ◌>>◌
-- One judgement is followed by another that may depend on the first one's value.
unfoldable pub ◌>>=◌ : {A B : Type 0} → Judged A → (A → Judged B) → Judged B
◌>>=◌ (Err why) k = Err why
◌>>=◌ (Ok a) k = k a

unfoldable pub ◌>>◌ : {A B : Type 0} → Judged A → Judged B → Judged B
◌>>◌ (Err why) m = Err why
◌>>◌ (Ok a) m = m

-- The judgement is refused, unless the test passes.
unfoldable pub judge : Refusal → Bool → Judged (Unit {0})
judge why ok = elim ok [ true ↦ Ok tt | false ↦ Err why ]

-- The judgement is refused where there is no value, and is otherwise passed with it.
unfoldable pub wanted : {A : Type 0} → Refusal → Option A → Judged A
wanted why None = Err why
wanted why (Some a) = Ok a
