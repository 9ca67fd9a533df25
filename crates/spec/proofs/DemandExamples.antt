-- This file tries demand 3's terms on a square, one corner of which lies at a distance of its own: what a step parts, which state is not steady, and
-- what the result is there.
-- Assumes nothing.
use Rattle.std.specs.Prelude.{◌≡◌, refl, ◌≢◌, ℕ, zero, suc, [], ◌∷◌, get_or, Some}
use Rattle.std.proofs.Common.{sym, subst, arith, lit<}
use Rattle.spec.specs.Lists.{distinct, renumber, count, holds, eq_list, range, keep, sum, without, place}
use Rattle.spec.specs.Types.{Classes, State, Step, up, down, at, subs, sups, proper_ranks, elements, type_of, type_count, start_at, start, key, keys, step, play, sweep_steps, sweep, settle, result}
use Rattle.spec.specs.Demand.{Proper, Parts, Steady, Final, Agree}
use Rattle.spec.specs.SolidExamples.{square}

-- Corner 0 is further out than the other three.
abbrev pub one_corner : Classes
one_corner r e = get_or (get_or ([] ∷ (9 ∷ 5 ∷ 5 ∷ 5 ∷ []) ∷ []) r []) e 0

abbrev pub begun : State
begun = (0 ∷ []) ∷ (0 ∷ 1 ∷ 1 ∷ 1 ∷ []) ∷ (0 ∷ 0 ∷ 0 ∷ 0 ∷ []) ∷ (0 ∷ []) ∷ []

abbrev pub ended : State
ended = (0 ∷ []) ∷ (0 ∷ 1 ∷ 2 ∷ 1 ∷ []) ∷ (0 ∷ 1 ∷ 1 ∷ 0 ∷ []) ∷ (0 ∷ []) ∷ []

pub begins : start square one_corner ≡ begun
unfolding start start_at distinct renumber range without place
begins = refl

pub ends : result square one_corner ≡ Some ended
unfolding result settle sweep sweep_steps play step keys key start start_at type_count elements proper_ranks sups subs distinct renumber count holds eq_list range keep sum without place
ends = refl

apart : ◌≢◌ {A = ℕ} 0 1
apart e = omega arith

-- The step up at rank 2 parts edge 0, which has corner 0, from edge 1, which does not.
pub parted : Parts square begun (up 2) 2 0 1
unfolding step keys key subs distinct renumber count eq_list range without place
parted = (refl, apart)

-- The same step does not part the edges 0 and 3, which both have that corner.
pub not_parted : ¬ Parts square begun (up 2) 2 0 3
unfolding step keys key subs distinct renumber count eq_list range without place
not_parted p = p.1 refl

-- So the start is not steady.
pub not_steady : ¬ Steady square begun
not_steady st = st (up 2) (lit< tt, lit< tt) 2 0 1 (lit< tt) (lit< tt) parted

-- No step changes the result.
unchanged : (x : Step) → Proper square (at x) → step square ended x ≡ ended
unfolding step keys key subs sups distinct renumber count holds eq_list range keep without place
unchanged (up zero) p = absurd (omega (arith, p.0))
unchanged (up (suc zero)) p = refl
unchanged (up (suc (suc zero))) p = refl
unchanged (up (suc (suc (suc r)))) p = absurd (omega (arith, p.1))
unchanged (down zero) p = absurd (omega (arith, p.0))
unchanged (down (suc zero)) p = refl
unchanged (down (suc (suc zero))) p = refl
unchanged (down (suc (suc (suc r)))) p = absurd (omega (arith, p.1))

-- So the result is steady.
pub steady : Steady square ended
steady x p r e f he hf w = w.1 (subst (λ (S : State). type_of S r e ≡ type_of S r f) (sym (unchanged x p)) w.0)

-- (b) asks nothing of the start, whose numbers are not the result's, because the start is not steady. The result is steady, so (b) would be false
-- here if that were its condition.
pub final_begun : Final square begun ended
final_begun st = absurd (not_steady st)

pub begun_differs : type_of begun 2 1 ≢ type_of ended 2 1
begun_differs = apart

-- Two steps lead to the result.
pub reached : play square (start square one_corner) (up 2 ∷ down 1 ∷ []) ≡ ended
unfolding play step keys key start start_at subs sups distinct renumber count holds eq_list range keep without place
reached = refl

-- (b) gives every steady state the result's number for edge 1. It says so of any state, and not just of the start, which is not steady.
pub final_steady : (S : State) → Agree square one_corner S ended → Steady square S → type_of S 2 1 ≡ 1
final_steady S a st = a.final st 2 1 (lit< tt, lit< tt) (lit< tt)
