-- A count is its own code, and a refusal's code has the refusal's number above the count.
-- Assumes nothing.
use mathlib.Core.Path.{sym, ap, ◌∙◌}
use Prim.Native.Nat.{ℕ, ◌+◌, ◌*◌, ◌^◌}
use native.Mathlib.Omega.{arith}
use Rattle.spec.specs.Refusal.{answer_count}
use Rattle.jidwaleb.specs.Code.{code_of}
use Rattle.jidwaleb.proofs.code.Goals as goal

pub overflow_add-result : goal.overflow_add-result
overflow_add-result c =
    omega (arith, ap answer_count c.in-Err.is, c.requires)

pub returns-in-Ok : goal.returns-in-Ok
returns-in-Ok c = omega (arith, ap code_of c.in-Ok.is)

pub returns-in-Err : goal.returns-in-Err
returns-in-Err c =
    ap (λ (x : ℕ). x * 2 ^ 32 + c.in-Err.refused.kept) (c.from-refusal.ensures ∙ c.number.ensures) ∙ sym (ap code_of c.in-Err.is)
