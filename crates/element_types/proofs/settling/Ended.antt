-- Sweeps follow one another until the number of types stays, and what is left gives what the whole gives.
-- Assumes nothing.
use Rattle.std.specs.Prelude.{None, Some, Result}
use mathlib.Core.Path.{◌≡◌, refl, sym, ◌∙◌, ap}
use mathlib.Core.Logic.{◌≢◌}
use mathlib.Core.List.{List}
use Prim.Native.Nat.{ℕ, suc, ◌+◌, ◌-◌, ◌≤◌, ◌<◌}
use native.Mathlib.Omega.{arith}
use borrow.Author.Tests.{eq-eqb, ne_eqb}
use lib.ListN.{length}
use Rattle.spec.specs.declared.Refusal.{Refusal}
use Rattle.spec.specs.Types.{Solid, elements, Classes, State, type_count, start, sweep_steps, sweep, settle, result}
use Rattle.laws.proofs.Steps.{Good, start_good}
use Rattle.laws.proofs.Result.{sweep-proper, good_play}
use Rattle.laws.proofs.TypeLaws as laws
use Rattle.ranked.specs.declared.Shape.{Shape}
use Rattle.ranked.specs.Words.{lists_of, abs_in}
use Rattle.ranked.specs.Layout.{proper, scratch_at}
use Rattle.ranked.proofs.Counted.{proper_is}
use Rattle.element_types.specs.State.{state_in, Sweepable, Countable}
use Rattle.element_types.proofs.Sweeps.{sweepable_kept}
use Rattle.element_types.specs.Settle.{Started, Settles, SweepsEnd}

-- ---- the definition

module _ (s : Solid) (n : ℕ) (S : State) where
  settle_yes : type_count s (sweep s S) ≡ type_count s S → settle s (suc n) S ≡ Some (sweep s S)
  unfolding settle
  settle_yes e = rw (settle, eq-eqb (type_count s (sweep s S)) (type_count s S) e)

  settle_no : type_count s (sweep s S) ≢ type_count s S → settle s (suc n) S ≡ settle s n (sweep s S)
  unfolding settle
  settle_no e = rw (settle, ne_eqb (type_count s (sweep s S)) (type_count s S) e)

good_sweep : (s : Solid) (cls : Classes) (S : State) → Good s cls S → Good s cls (sweep s S)
unfolding sweep
good_sweep s cls S g = good_play s cls S (sweep_steps s) (sweep-proper s) g

-- ---- the words

-- The types of w come of steps from the start by cls.
pub record ReachedBySteps (sh : Shape) (w : List ℕ) (cls : Classes) : Type 0 where
  pub sweepable : Sweepable sh w
  pub room : scratch_at sh ≤ length w
  pub good : Good (abs_in sh (lists_of sh w)) cls (state_in sh w)

-- The words v are swept from w and have `count` types, and what is left of `all` sweeps after k gives of v what they all give of w.
pub record Settling (sh : Shape) (w v : List ℕ) (count all k : ℕ) : Type 0 where
  pub long : length v ≡ length w
  pub lists : lists_of sh v ≡ lists_of sh w
  pub many : count ≡ type_count (abs_in sh (lists_of sh w)) (state_in sh v)
  pub good : (cls : Classes) → Good (abs_in sh (lists_of sh w)) cls (state_in sh w) → Good (abs_in sh (lists_of sh w)) cls (state_in sh v)
  pub rest : settle (abs_in sh (lists_of sh w)) (all - k) (state_in sh v) ≡ settle (abs_in sh (lists_of sh w)) all (state_in sh w)

module _ (sh : Shape) (w : List ℕ) (cls : Classes) (a : ReachedBySteps sh w cls) where
  abbrev s : Solid
  s = abs_in sh (lists_of sh w)

  countable : (v : List ℕ) → length v ≡ length w → lists_of sh v ≡ lists_of sh w → Good s cls (state_in sh v) → Countable sh v
  countable v long lists g = record {
    held = rw lists a.sweepable.held;
    room = omega (arith, a.room);
    numbered = λ r b c. rw lists (laws.numbered s cls (state_in sh v) g r);
  }

  pub first_countable : Countable sh w
  first_countable = countable w refl refl a.good

  -- One sweep more is made.
  module _ (v : List ℕ) (count all k : ℕ) (i : Settling sh w v count all k) where
    pub ready : Sweepable sh v
    ready = sweepable_kept sh w v i.long i.lists a.sweepable

    pub left_countable : Countable sh v
    left_countable = countable v i.long i.lists (i.good cls a.good)

    pub none_left : all ≤ k → settle s all (state_in sh w) ≡ None
    unfolding settle
    none_left h = let z : all - k ≡ 0 = omega arith in sym (rw z at i.rest)

    module _ (u : List ℕ) (long : length u ≡ length v) (lists : lists_of sh u ≡ lists_of sh v) (state : state_in sh u ≡ sweep (abs_in sh (lists_of sh v)) (state_in sh v)) where
      pub u-lists : lists_of sh u ≡ lists_of sh w
      u-lists = lists ∙ i.lists

      swept : state_in sh u ≡ sweep s (state_in sh v)
      swept = rw i.lists at state

      good_next : (c : Classes) → Good s c (state_in sh w) → Good s c (state_in sh u)
      good_next c g = rw swept (good_sweep s c (state_in sh v) (i.good c g))

      pub next_countable : Countable sh u
      next_countable = countable u (long ∙ i.long) u-lists (good_next cls a.good)

      module _ (more : k < all) (n : ℕ) (m : n ≡ type_count (abs_in sh (lists_of sh u)) (state_in sh u)) where
        count_is : n ≡ type_count s (sweep s (state_in sh v))
        count_is = (rw u-lists at m) ∙ ap (type_count s) swept

        opened : settle s (suc (all - (k + 1))) (state_in sh v) ≡ settle s all (state_in sh w)
        opened = let e : suc (all - (k + 1)) ≡ all - k = omega arith in rw e i.rest

        pub stays : n ≡ count → settle s all (state_in sh w) ≡ Some (state_in sh u)
        stays e = sym opened ∙ settle_yes s (all - (k + 1)) (state_in sh v) (sym count_is ∙ e ∙ i.many) ∙ ap Some (sym swept)

        pub settling_next : n ≢ count → Settling sh w u n all (k + 1)
        settling_next e = record {
          long = long ∙ i.long;
          lists = u-lists;
          many = rw u-lists at m;
          good = good_next;
          rest = ap (settle s (all - (k + 1))) swept ∙ sym (settle_no s (all - (k + 1)) (state_in sh v) (λ z. e (count_is ∙ z ∙ sym i.many))) ∙ opened;
        }

-- ---- from the start

module _ (sh : Shape) (z : List ℕ) (a : Started sh z) (w : List ℕ) (long : length w ≡ length z) (lists : lists_of sh w ≡ lists_of sh z)
    (state : state_in sh w ≡ sweep (abs_in sh (lists_of sh z)) (state_in sh z)) where
  -- This is the first sweep.
  pub once : ReachedBySteps sh w a.classes
  once = record {
    sweepable = sweepable_kept sh z w long lists a.sweepable;
    room = omega (arith, a.room);
    good = rw (lists, state, a.state) (good_sweep (abs_in sh (lists_of sh z)) a.classes (start (abs_in sh (lists_of sh z)) a.classes) (start_good (abs_in sh (lists_of sh z)) a.classes));
  }

  -- The other sweeps come after it.
  pub ended : (E : ℕ) → E ≡ proper sh → (v : List ℕ) (ending : Result (Unit {0}) Refusal) → lists_of sh v ≡ lists_of sh w → Countable sh v
      → SweepsEnd ending (state_in sh v) (settle (abs_in sh (lists_of sh w)) (E + 1) (state_in sh w)) → Settles sh z v ending
  unfolding result
  ended E p v ending k c e =
      let q : E ≡ elements (abs_in sh (lists_of sh z)) = p ∙ proper_is sh (lists_of sh z) a.sweepable.held in
      record {
        lists = k ∙ lists;
        numbered = c;
        ends = λ cls b. let f : SweepsEnd ending (state_in sh v) (settle (abs_in sh (lists_of sh z)) (elements (abs_in sh (lists_of sh z)) + 1) (sweep (abs_in sh (lists_of sh z)) (state_in sh z))) = rw (lists, state, q) at e in
            rw b at f;
      }
