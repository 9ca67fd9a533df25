-- The sweeps always settle, as E + 2 are enough, so there is always a result.
-- Assumes nothing.
use Rattle.std.specs.Prelude.{None}
use mathlib.Core.Path.{◌≡◌, refl, sym, ◌∙◌, subst}
use mathlib.Core.Logic.{◌≢◌}
use Prim.Native.Nat.{ℕ, zero, suc, ◌+◌, ◌≤◌}
use mathlib.Core.Bool.{Bool, true, false, false≢true}
use Rattle.laws.proofs.Options.{none-ne-some}
use native.Mathlib.Decide.{ℕ_discrete}
use native.Mathlib.Omega.{arith}
use lib.ListN.{length}
use lib.Dec.{eqb}
use Rattle.spec.specs.Lists.{distinct}
use Rattle.spec.specs.Types.{Solid, size, proper_ranks, elements, Classes, State, types_at, type_count, start, play, sweep_steps, sweep, settle, result}
use Rattle.laws.proofs.Distinct.{pigeons, once_distinct, of-distinct}
use Rattle.laws.proofs.Renumber.{fewer}
use Rattle.laws.proofs.Counts.{numbers, sum-le}
use Rattle.laws.proofs.Steps.{Good, start_good}
use Rattle.laws.proofs.Result.{sweep-proper, good_play, play-parts}

module _ (s : Solid) (cls : Classes) where
  -- The types are no more than the elements.
  few : (S : State) → Good s cls S → type_count s S ≤ elements s
  unfolding type_count elements
  few S g =
      sum-le (λ r. length (distinct eqb (types_at S r))) (λ r. size s r) (proper_ranks s)
      (λ r m. rw (← g.sizes r) (pigeons eqb numbers (distinct eqb (types_at S r)) (types_at S r) (once_distinct eqb numbers (types_at S r)) (λ t. of-distinct eqb numbers t (types_at S r))))

  -- A sweep loses none.
  grows : (S : State) → Good s cls S → type_count s S ≤ type_count s (sweep s S)
  unfolding type_count sweep
  grows S g =
      let z = play s S (sweep_steps s) in
      let gz = good_play s cls S (sweep_steps s) (sweep-proper s) g in
      sum-le (λ r. length (distinct eqb (types_at S r))) (λ r. length (distinct eqb (types_at z r))) (proper_ranks s)
      (λ r m. fewer eqb numbers eqb numbers 0 0 (types_at z r) (types_at S r) (g.sizes r ∙ sym (gz.sizes r)) (play-parts s cls S (sweep_steps s) (sweep-proper s) g r))

  -- So each sweep that is not the last adds one.
  adds : (n : ℕ) (S : State) → Good s cls S → settle s n S ≡ None → type_count s S + n ≤ elements s
  unfolding settle sweep
  adds zero S g e = omega (arith, few S g)
  adds (suc n) S g e = go (eqb (type_count s (sweep s S)) (type_count s S)) refl (adds n (sweep s S) (good_play s cls S (sweep_steps s) (sweep-proper s) g))
    where
      go : (b : Bool) → eqb (type_count s (sweep s S)) (type_count s S) ≡ b → (settle s n (sweep s S) ≡ None → type_count s (sweep s S) + n ≤ elements s) → type_count s S + suc n ≤ elements s
      go true q ih = absurd (none-ne-some (sweep s S) (sym (rw (q, settle) at e)))
      go false q ih = last (ℕ_discrete (type_count s (sweep s S)) (type_count s S))
        where
          last : Dec (type_count s (sweep s S) ≡ type_count s S) → type_count s S + suc n ≤ elements s
          last (yes t) = absurd (false≢true (sym q ∙ subst (λ (k : ℕ). eqb (type_count s (sweep s S)) k ≡ true) t (numbers.pass (type_count s (sweep s S)))))
          last (no t) = omega (arith, ih (rw (q, settle) at e), grows S g)

  pub settled : result s cls ≢ None
  unfolding result sweep
  settled e = omega (arith, adds (elements s + 1) (sweep s (start s cls)) (good_play s cls (start s cls) (sweep_steps s) (sweep-proper s) (start_good s cls)) e)
