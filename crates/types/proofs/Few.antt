-- A call can count only so many types.
-- Assumes nothing.
use Rattle.std.specs.Prelude.{Err, Ok, Some}
use mathlib.Core.Path.{◌≡◌, refl, ap}
use mathlib.Core.List.{List}
use Prim.Native.Nat.{ℕ, ◌-◌, ◌*◌, ◌≤◌}
use native.Mathlib.Omega.{arith}
use lib.Dec.{eqb}
use lib.ListN.{length}
use Rattle.spec.specs.Limits.{max_rank, max_count}
use Rattle.spec.specs.Refusal.{answer_count}
use Rattle.spec.specs.Lists.{distinct, range}
use Rattle.spec.specs.Types.{State, types_at, top, proper_ranks, type_count, element_types}
use Rattle.spec.specs.Judged.{Judged}
use Rattle.spec.specs.Solid.{Concrete, preflight}
use Rattle.spec.specs.Classes.{types_of}
use Rattle.spec.specs.Calls.{Given, TypesOut, types_given, types_written, types_call}
use Rattle.laws.proofs.Lists.{length-range, of_range}
use Rattle.laws.proofs.Accepted.{every_passed}
use Rattle.laws.proofs.CallProofs.{behind}
use Rattle.laws.proofs.TypeLaws.{type_laws}
use Rattle.element_types.proofs.Room.{sum-under}
use Rattle.types.proofs.Rows.{many_few}
use Rattle.types.proofs.Call.{types-counted}

-- A proper rank has no more types than elements.
types-at-most : (b : List ℕ) (words floats : ℕ) (c : Concrete) (z : State) → preflight b words floats ≡ Ok c → types_of c ≡ Some z → length (element_types c.abs z) ≤ (max_rank - 1) * max_count
unfolding type_count proper_ranks
types-at-most b words floats c z p e =
    let s = c.abs in
    let h = every_passed b words floats c p in
    let u = sum-under (λ r. length (distinct eqb (types_at z r))) max_count (range 1 (top s - 1))
    (λ r m. omega (arith, many_few (types_at z r), (type_laws.ranks c z e r).numbered.each, of_range 1 (top s - 1) r m, (h.sizes r (omega (arith, of_range 1 (top s - 1) r m))).1)) in
    let k : top s - 1 ≤ max_rank - 1 = omega (arith, h.tall) in
    omega (arith, types-counted s z, rw (length-range 1 (top s - 1)) at u)

pub call-count : (b : List ℕ) (words floats : ℕ) (old : TypesOut) → answer_count (types_call b words floats old).0 ≤ (max_rank - 1) * max_count
unfolding types_call types_written
call-count b words floats old = go (types_given b words floats (length old.elements) (length old.types)) refl
  where
    go : (j : Judged Given) → types_given b words floats (length old.elements) (length old.types) ≡ j → answer_count (types_written j old).0 ≤ (max_rank - 1) * max_count
    go (Err why) q = omega arith
    go (Ok g) q =
        let h = behind b words floats (length old.elements) (length old.types) g q in
        omega (arith, ap (λ (x : Given). length x.types) h.out, types-at-most b words floats h.solid h.result h.read h.ended)
