-- Demand 3 holds for any solid that has a result, and any list of steps.
-- Assumes nothing.
use Rattle.std.specs.Prelude.{Some}
use mathlib.Core.Path.{◌≡◌, ap}
use Prim.Native.Nat.{ℕ, ◌<◌}
use mathlib.Core.List.{List}
use Rattle.spec.specs.Mark.{goes}
use Rattle.spec.specs.Types.{Solid, size, Classes, State, type_of, start, Step, at, step, play, result}
use Rattle.spec.specs.Demand.{Sound, Proper, AllProper, Carries}
use Rattle.laws.specs.Demand3.{Demand3}
use Rattle.laws.proofs.Steps.{Good, start_good, step_good}
use Rattle.laws.proofs.Result.{kept, result-kept, result_good, play-below, play-result}
use Rattle.laws.proofs.Carry.{TypesKept, start-kept, step_kept}
use Rattle.laws.proofs.Marked.{carries}

module _ (s : Solid) (w : Sound s) (cls : Classes) (z : State) (e : result s cls ≡ Some z) (xs : List Step) (a : AllProper s xs) (σ : ℕ → ℕ → ℕ) (c : Carries s cls σ) where
  both : State → Type 0
  both S = Good s cls S × TypesKept s w cls σ c S

  more : (S : State) (x : Step) → Proper s (at x) → both S → both (step s S x)
  unfolding both
  more S x p h = (step_good s cls S h.0 x p, step_kept s w cls σ c S x h.0 p h.1)

  carry : (r i : ℕ) → i < size s r → (type_of (play s (start s cls) xs) r (σ r i) ≡ type_of (play s (start s cls) xs) r i) × (type_of z r (σ r i) ≡ type_of z r i)
  unfolding both
  carry r i h = (
    (kept s both more (start s cls) xs a (start_good s cls, start-kept s w cls σ c)).1 r i h,
    (result-kept s cls both more (start_good s cls, start-kept s w cls σ c) z e).1 r i h,
  )

pub demand3 : Demand3
demand3 s w cls z e xs a = record {
  finer = λ r i j hi hj n t. n (play-below s cls w z e xs a r i j (rw ((result_good s cls z e).sizes r) hi) (rw ((result_good s cls z e).sizes r) hj) t);
  final = λ st r i p h. ap (λ (S : State). type_of S r i) (play-result s cls w z e xs a st);
  confirmed = λ row ok r i h.
      let c = carries s w cls row ok in
      let k = carry s w cls z e xs a (goes s row) c r i h in
      (c.ranks r i h, k.0, k.1);
  carried = carry s w cls z e xs a;
}
