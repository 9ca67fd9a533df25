-- The steps of a sweep are taken one after another.
-- Assumes nothing.
use mathlib.Core.Path.{◌≡◌, refl, sym, ◌∙◌, ap}
use mathlib.Core.List.{List, [], ◌∷◌, ◌++◌, map, reverse, reverse-append}
use Prim.Native.Nat.{ℕ, zero, suc, ◌+◌, ◌-◌, ◌≤◌, ◌<◌}
use native.Mathlib.Numerals.{add-one}
use native.Mathlib.Omega.{arith}
use lib.ListN.{length}
use Rattle.spec.specs.Lists.{range}
use Rattle.spec.specs.Types.{Solid, proper_ranks, State, Step, up, down, at, step, play, sweep_steps, sweep}
use Rattle.ranked.specs.declared.Shape.{Shape}
use Rattle.ranked.specs.Words.{lists_of, abs_in}
use Rattle.ranked.proofs.Solids.{top_is}
use Rattle.element_types.specs.State.{state_in, needed, Steppable, Sweepable, ups, downs}

-- ---- lists of steps

play-append : (s : Solid) (S : State) (xs ys : List Step) → play s S (xs ++ ys) ≡ play s (play s S xs) ys
unfolding play
play-append s S [] ys = refl
play-append s S (x ∷ xs) ys = play-append s (step s S x) xs ys

range_snoc : (n a : ℕ) → range a (suc n) ≡ range a n ++ (a + n) ∷ []
unfolding range
range_snoc zero a = let e : a + 0 ≡ a = omega arith in rw e refl
range_snoc (suc n) a = let e : a + suc n ≡ suc a + n = omega arith in rw e (ap (λ (l : List ℕ). a ∷ l) (range_snoc n (suc a)))

pub ups-next : (r R : ℕ) → r < R → ups r R ≡ up r ∷ ups (r + 1) R
unfolding ups range
ups-next r R h = let e : R - r ≡ suc (R - suc r) = omega arith in rw (e, add-one r) refl

pub ups-end : (r R : ℕ) → R ≤ r → ups r R ≡ []
unfolding ups range
ups-end r R h = let e : R - r ≡ 0 = omega arith in rw e refl

pub downs-next : (r : ℕ) → 1 < r → downs r ≡ down (r - 1) ∷ downs (r - 1)
unfolding downs
downs-next zero h = absurd (omega arith)
downs-next (suc zero) h = absurd (omega arith)
downs-next (suc (suc q)) h =
    let a : suc (suc q) - 1 ≡ suc q = omega arith in
    let b : suc q - 1 ≡ q = omega arith in
    let c : 1 + q ≡ suc q = omega arith in
    rw (a, b) (ap (λ (l : List ℕ). map down (reverse l)) (rw c at (range_snoc q 1)) ∙ ap (map down) (reverse-append (range 1 q) (suc q ∷ [])))

pub downs-end : (r : ℕ) → r ≤ 1 → downs r ≡ []
unfolding downs range
downs-end r h = let e : r - 1 ≡ 0 = omega arith in rw e refl

-- The steps of a sweep are "up at 1 to R−1, then down at R−1 to 1".
steps_are : (sh : Shape) (l : List ℕ) → sweep_steps (abs_in sh l) ≡ ups 1 sh.rank ++ downs sh.rank
unfolding sweep_steps proper_ranks ups downs
steps_are sh l = ap (λ (n : ℕ). map up (range 1 (n - 1)) ++ map down (reverse (range 1 (n - 1)))) (top_is sh l)

-- ---- in the words

-- The lists of v are those of w, and what the steps xs make of v's state, the steps ys make of w's.
pub record StepsSwept (sh : Shape) (w v : List ℕ) (xs ys : List Step) : Type 0 where
  pub long : length v ≡ length w
  pub kept : lists_of sh v ≡ lists_of sh w
  pub state : play (abs_in sh (lists_of sh w)) (state_in sh v) xs ≡ play (abs_in sh (lists_of sh w)) (state_in sh w) ys

-- The lists and the length are all that a step asks of the words.
pub sweepable_kept : (sh : Shape) (w v : List ℕ) → length v ≡ length w → lists_of sh v ≡ lists_of sh w → Sweepable sh w → Sweepable sh v
unfolding needed
sweepable_kept sh w v e k a = record {
  held = rw k a.held;
  room = λ x b c. rw (k, e) (a.room x b c);
  small = λ x b c. rw k (a.small x b c);
}

pub steppable : (sh : Shape) (w : List ℕ) → Sweepable sh w → (x : Step) → 1 ≤ at x → at x < sh.rank → Steppable sh w x
steppable sh w a x b c = record { held = a.held; above = b; under = c; room = a.room x b c; small = a.small x b c }

module _ (sh : Shape) (w v : List ℕ) (xs ys : List Step) (i : StepsSwept sh w v xs ys) where
  -- Any step can be done.
  pub swept_ready : Sweepable sh w → (x : Step) → 1 ≤ at x → at x < sh.rank → Steppable sh v x
  swept_ready a = steppable sh v (sweepable_kept sh w v i.long i.kept a)

  -- The first of those left leaves the others.
  pub swept_next : (x : Step) (zs : List Step) → xs ≡ x ∷ zs → (u : List ℕ) → length u ≡ length v → lists_of sh u ≡ lists_of sh v
      → state_in sh u ≡ step (abs_in sh (lists_of sh v)) (state_in sh v) x → StepsSwept sh w u zs ys
  unfolding play
  swept_next x zs e u long kept state = record {
    long = long ∙ i.long;
    kept = kept ∙ i.kept;
    state = ap (λ (S : State). play (abs_in sh (lists_of sh w)) S zs) (rw i.kept at state) ∙ (rw e at i.state);
  }

  pub swept_end : xs ≡ [] → (lists_of sh v ≡ lists_of sh w) × (state_in sh v ≡ play (abs_in sh (lists_of sh w)) (state_in sh w) ys)
  unfolding play
  swept_end e = (i.kept, rw e at i.state)

-- A sweep is the ups and then the downs.
pub both : (sh : Shape) (w v : List ℕ) → lists_of sh v ≡ lists_of sh w → state_in sh v ≡ play (abs_in sh (lists_of sh w)) (state_in sh w) (ups 1 sh.rank)
    → (u : List ℕ) → lists_of sh u ≡ lists_of sh v → state_in sh u ≡ play (abs_in sh (lists_of sh v)) (state_in sh v) (downs sh.rank)
    → (lists_of sh u ≡ lists_of sh w) × (state_in sh u ≡ sweep (abs_in sh (lists_of sh w)) (state_in sh w))
unfolding sweep
both sh w v k e u k' e' = (
  k' ∙ k,
  (rw k at e') ∙ ap (λ (S : State). play (abs_in sh (lists_of sh w)) S (downs sh.rank)) e
      ∙ sym (play-append (abs_in sh (lists_of sh w)) (state_in sh w) (ups 1 sh.rank) (downs sh.rank))
      ∙ ap (play (abs_in sh (lists_of sh w)) (state_in sh w)) (sym (steps_are sh (lists_of sh w))),
)
