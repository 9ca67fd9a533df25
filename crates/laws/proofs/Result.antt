-- The result is a steady state, and parts what any list of steps parts. A steady state that steps reach is the result.
-- Assumes nothing.
use Rattle.std.specs.Prelude.{Some}
use mathlib.Core.Path.{◌≡◌, refl, sym, ◌∙◌, ap, subst}
use mathlib.Core.Logic.{◌⊎◌, inl, inr}
use Prim.Native.Nat.{ℕ, zero, suc, ◌+◌, ◌-◌, ◌<◌}
use mathlib.Core.Bool.{Bool, true, false}
use Rattle.laws.proofs.Options.{none-ne-some, some-injective}
use mathlib.Core.List.{List, [], ◌∷◌, map, ◌++◌, reverse, reverse_aux}
use native.Mathlib.Nat.{not-suc-le-zero}
use native.Mathlib.Decide.{ℕ_discrete}
use native.Mathlib.Omega.{arith}
use lib.ListN.{length, get_or}
use lib.Seq.{ext_get_or}
use lib.Dec.{eqb}
use Rattle.spec.specs.Lists.{In, distinct, range, holds}
use Rattle.spec.specs.Types.{Solid, top, size, subs, sups, proper_ranks, elements, Classes, State, types_at, type_of, type_count, start, Step, up, down, at, next, neighbours, step, play, sweep_steps, sweep, settle, result}
use Rattle.spec.specs.Demand.{Sound, Proper, AllProper, Steady}
use Rattle.laws.proofs.Distinct.{in_distinct}
use Rattle.laws.proofs.Lists.{in_get_d, map_same, map-map, map_in, in_map, get_or-map, in_range_lem, of_range}
use Rattle.laws.proofs.Renumber.{Coarser, renumber-pattern, factor, glue, fewer, as_many}
use Rattle.laws.proofs.Counts.{numbers, regroup, in_keep, sum_eq, in_left, in_right, in_reverse}
use Rattle.laws.proofs.Steps.{look, key_counts, key_same, proper?, Good, PartsNoMore, start_good, step_else, step_good, step-key, key_step, step-parts}

-- ---- neighbours are there

pub near-low : (s : Solid) → Sound s → (x : Step) → Proper s (at x) → (e f : ℕ) → In f (neighbours s x e) → f < size s (next x)
unfolding sups
near-low s w (up zero) p e f h = absurd (not-suc-le-zero p.0)
near-low s w (up (suc r)) p e f h = w.below r e f h
near-low s w (down r) p e f h = omega (arith, (of_range 0 (size s (suc r)) f (in_keep (λ f'. holds eqb e (subs s (suc r) f')) f (range 0 (size s (suc r))) h).0).1)

-- The step x parts nothing in T.
abbrev pub Calm : Solid → State → Step → Type 0
Calm s T x = Coarser 0 0 (types_at (step s T x) (at x)) (types_at T (at x))

-- ---- a step from a coarser state stays coarser than a state in which that step parts nothing

module _ (s : Solid) (w : Sound s) (cls : Classes) (S T : State) (gS : Good s cls S) (gT : Good s cls T) (b : PartsNoMore S T) (x : Step) (p : Proper s (at x)) (calm : Calm s T x) where
  glued : ℕ → ℕ
  glued = glue eqb 0 (types_at T (next x)) (types_at S (next x))

  look_glued : (e : ℕ) → look (types_at S (next x)) (neighbours s x e) ≡ map glued (look (types_at T (next x)) (neighbours s x e))
  unfolding glued
  look_glued e =
      map_same (λ f. type_of S (next x) f) (λ f. glued (type_of T (next x) f)) (neighbours s x e)
      (λ f h. let n = near-low s w x p e f h in
      ap (λ (l : List ℕ). get_or l f 0) (factor eqb numbers eqb numbers 0 0 (types_at T (next x)) (types_at S (next x)) (gS.sizes (next x) ∙ sym (gT.sizes (next x))) (b (next x)))
      ∙ get_or-map glued 0 0 (types_at T (next x)) f (rw (gT.sizes (next x)) n))
      ∙ sym (map-map (λ f. type_of T (next x) f) glued (neighbours s x e))

  look-distinct : (e t : ℕ) → In t (look (types_at T (next x)) (neighbours s x e)) → In t (distinct eqb (types_at T (next x)))
  look-distinct e t h =
      let r = in_map (λ f. type_of T (next x) f) t (neighbours s x e) h in
      in_distinct eqb numbers t (types_at T (next x))
      (rw r.2 (in_get_d 0 (types_at T (next x)) r.0 (rw (gT.sizes (next x)) (near-low s w x p e r.0 r.1))))

  pub below_step : PartsNoMore (step s S x) T
  below_step r = go (ℕ_discrete r (at x))
    where
      go : Dec (r ≡ at x) → Coarser 0 0 (types_at (step s S x) r) (types_at T r)
      go (no n) = rw (step_else s cls S gS x p r n) (b r)
      go (yes q) = rw q here
        where
          here : Coarser 0 0 (types_at (step s S x) (at x)) (types_at T (at x))
          here e f he hf t =
              let he' : e < size s (at x) = rw (gT.sizes (at x)) at he in
              let hf' : f < size s (at x) = rw (gT.sizes (at x)) at hf in
              let c = key_counts (types_at T (next x)) (type_of T (at x) e) (type_of T (at x) f) (neighbours s x e) (neighbours s x f) (step-key s cls T gT x p e f he' hf' (calm e f he hf t)) in
              key_step s cls S gS x p e f he' hf'
              (key_same (types_at S (next x)) (type_of S (at x) e) (type_of S (at x) f) (neighbours s x e) (neighbours s x f) (b (at x) e f he hf t)
              (λ k. rw (look_glued e, look_glued f)
              (regroup eqb numbers eqb numbers glued (distinct eqb (types_at T (next x))) (look (types_at T (next x)) (neighbours s x e)) (look (types_at T (next x)) (neighbours s x f)) (look-distinct e) (look-distinct f) c k)))

-- ---- what every step keeps, every list of steps keeps

module _ (s : Solid) (P : State → Type 0) (keeps : (S : State) (x : Step) → Proper s (at x) → P S → P (step s S x)) where
  pub kept : (S : State) (xs : List Step) → AllProper s xs → P S → P (play s S xs)
  unfolding play
  kept S [] a h = h
  kept S (x ∷ xs) a h = kept (step s S x) xs a.1 (keeps S x a.0 h)

-- ---- the steps of a sweep are the steps at proper ranks

of_aux : {A : Type 0} (t : A) (l m : List A) → In t (reverse_aux l m) → In t l ⊎ In t m
of_aux t [] m h = inr h
of_aux {A} t (x ∷ l) m h = go (of_aux t l (x ∷ m) h)
  where
    go : In t l ⊎ In t (x ∷ m) → In t (x ∷ l) ⊎ In t m
    go (inl k) = inl (inr k)
    go (inr (inl e)) = inl (inl e)
    go (inr (inr k)) = inr k

of_reverse : {A : Type 0} (t : A) (l : List A) → In t (reverse l) → In t l
of_reverse {A} t l h = go (of_aux t l [] h)
  where
    go : In t l ⊎ In t [] → In t l
    go (inl k) = k
    go (inr k) = absurd k

module _ (s : Solid) where
  rank-proper : (r : ℕ) → In r (proper_ranks s) → Proper s r
  unfolding proper_ranks
  rank-proper r h = let k = of_range 1 (top s - 1) r h in (omega arith, omega arith)

  pub proper-rank : (r : ℕ) → Proper s r → In r (proper_ranks s)
  unfolding proper_ranks
  proper-rank r p = in_range_lem 1 (top s - 1) r (omega arith) (omega arith)

  all_append : (xs ys : List Step) → AllProper s xs → AllProper s ys → AllProper s (xs ++ ys)
  all_append [] ys a b = b
  all_append (x ∷ xs) ys a b = (a.0, all_append xs ys a.1 b)

  all_up : (l : List ℕ) → ((r : ℕ) → In r l → Proper s r) → AllProper s (map up l)
  all_up [] h = tt
  all_up (r ∷ l) h = (h r (inl refl), all_up l (λ q m. h q (inr m)))

  all-down : (l : List ℕ) → ((r : ℕ) → In r l → Proper s r) → AllProper s (map down l)
  all-down [] h = tt
  all-down (r ∷ l) h = (h r (inl refl), all-down l (λ q m. h q (inr m)))

  pub sweep-proper : AllProper s (sweep_steps s)
  unfolding sweep_steps
  sweep-proper = all_append (map up (proper_ranks s)) (map down (reverse (proper_ranks s))) (all_up (proper_ranks s) rank-proper) (all-down (reverse (proper_ranks s)) (λ r h. rank-proper r (of_reverse r (proper_ranks s) h)))

  pub proper-sweep : (x : Step) → Proper s (at x) → In x (sweep_steps s)
  unfolding sweep_steps
  proper-sweep (up r) p = in_left (up r) (map up (proper_ranks s)) (map down (reverse (proper_ranks s))) (map_in up r (proper_ranks s) (proper-rank r p))
  proper-sweep (down r) p = in_right (down r) (map up (proper_ranks s)) (map down (reverse (proper_ranks s))) (map_in down r (reverse (proper_ranks s)) (in_reverse r (proper_ranks s) (proper-rank r p)))

-- ---- the order of states

pub below_refl : (S : State) → PartsNoMore S S
below_refl S r i j hi hj e = e

module _ (s : Solid) (cls : Classes) where
  pub below_trans : (S T U : State) → Good s cls T → Good s cls U → PartsNoMore S T → PartsNoMore T U → PartsNoMore S U
  below_trans S T U gT gU b c r i j hi hj e =
      b r i j (rw (gT.sizes r) (rw (gU.sizes r) at hi)) (rw (gT.sizes r) (rw (gU.sizes r) at hj)) (c r i j hi hj e)

  pub below_both : (S T : State) → Good s cls S → Good s cls T → PartsNoMore S T → PartsNoMore T S → S ≡ T
  below_both S T gS gT b c =
      ext_get_or [] S T (gS.ranks ∙ sym gT.ranks)
      (λ r h. sym (gS.canon r)
      ∙ renumber-pattern eqb numbers eqb numbers 0 0 (types_at T r) (types_at S r) (gS.sizes r ∙ sym (gT.sizes r)) (b r) (c r)
      ∙ gT.canon r)

  pub good_play : (S : State) (xs : List Step) → AllProper s xs → Good s cls S → Good s cls (play s S xs)
  good_play = kept s (Good s cls) (λ S x p g. step_good s cls S g x p)

  abbrev Above : State → State → Type 0
  Above S T = Good s cls T × PartsNoMore S T

  pub play-parts : (S : State) (xs : List Step) → AllProper s xs → Good s cls S → PartsNoMore S (play s S xs)
  play-parts S xs a g = (kept s (Above S) (λ T x p h. (step_good s cls T h.0 x p, below_trans S T (step s T x) h.0 (step_good s cls T h.0 x p) h.1 (step-parts s cls T h.0 x p))) S xs a (g, below_refl S)).1

  -- Steps that end no finer than they began part nothing on the way.
  pub idle : (S : State) (xs : List Step) → AllProper s xs → Good s cls S → PartsNoMore (play s S xs) S → (x : Step) → In x xs → step s (play s S xs) x ≡ play s S xs
  unfolding play
  idle S [] a g b x m = elim m [ ]
  idle S (y ∷ ys) a g b x m = go m (λ (k : In x ys). idle S₁ ys a.1 g₁ b₁ x k)
    where
      S₁ : State
      S₁ = step s S y

      z : State
      z = play s S₁ ys

      g₁ : Good s cls S₁
      g₁ = step_good s cls S g y a.0

      gz : Good s cls z
      gz = good_play S₁ ys a.1 g₁

      b₁ : PartsNoMore z S₁
      b₁ = below_trans z S S₁ g g₁ b (step-parts s cls S g y a.0)

      here : step s z y ≡ z
      here =
          ap (λ (T : State). step s T y) (below_both z S gz g b (below_trans S S₁ z g₁ gz (step-parts s cls S g y a.0) (play-parts S₁ ys a.1 g₁)))
          ∙ below_both S₁ z g₁ gz (play-parts S₁ ys a.1 g₁) b₁

      go : In x (y ∷ ys) → (In x ys → step s z x ≡ z) → step s z x ≡ z
      go (inl e) rest = rw e here
      go (inr k) rest = rest k

  -- A sweep that leaves the number of types unchanged ends no finer than it began.
  pub unchanged : (S : State) → Good s cls S → type_count s (sweep s S) ≡ type_count s S → PartsNoMore (sweep s S) S
  unfolding sweep type_count
  unchanged S g e r = go (proper? s r)
    where
      z : State
      z = play s S (sweep_steps s)

      gz : Good s cls z
      gz = good_play S (sweep_steps s) (sweep-proper s) g

      b : PartsNoMore S z
      b = play-parts S (sweep_steps s) (sweep-proper s) g

      len : (q : ℕ) → length (types_at S q) ≡ length (types_at z q)
      len q = g.sizes q ∙ sym (gz.sizes q)

      go : Dec (Proper s r) → Coarser 0 0 (types_at z r) (types_at S r)
      go (yes p) =
          as_many eqb numbers eqb numbers 0 0 (types_at z r) (types_at S r) (len r) (b r)
          (sum_eq (λ q. length (distinct eqb (types_at S q))) (λ q. length (distinct eqb (types_at z q))) (proper_ranks s)
          (λ q m. fewer eqb numbers eqb numbers 0 0 (types_at z q) (types_at S q) (len q) (b q)) (sym e) r (proper-rank s r p))
      go (no n) = rw (gz.fixed r n, g.fixed r n) (λ i j hi hj t. t)

  -- Where the sweeps settle, no step changes anything.
  pub settle_idle : (n : ℕ) (S z : State) → Good s cls S → settle s n S ≡ Some z → (x : Step) → Proper s (at x) → step s z x ≡ z
  unfolding settle sweep
  settle_idle zero S z g e x p = absurd (none-ne-some z e)
  settle_idle (suc n) S z g e x p = go (eqb (type_count s (sweep s S)) (type_count s S)) refl (λ h. settle_idle n (sweep s S) z (good_play S (sweep_steps s) (sweep-proper s) g) h x p)
    where
      go : (b : Bool) → eqb (type_count s (sweep s S)) (type_count s S) ≡ b → (settle s n (sweep s S) ≡ Some z → step s z x ≡ z) → step s z x ≡ z
      go true q ih =
          let zz : sweep s S ≡ z = some-injective (sweep s S) z (rw (q, settle) at e) in
          subst (λ (y : State). step s y x ≡ y) zz
          (idle S (sweep_steps s) (sweep-proper s) g (unchanged S g (numbers.sound (type_count s (sweep s S)) (type_count s S) q)) x (proper-sweep s x p))
      go false q ih = ih (rw (q, settle) at e)

  -- What every step keeps, the sweeps keep.
  pub settle-kept : (P : State → Type 0) → ((S : State) (x : Step) → Proper s (at x) → P S → P (step s S x)) → (n : ℕ) (S z : State) → P S → settle s n S ≡ Some z → P z
  unfolding settle sweep
  settle-kept P k zero S z h e = absurd (none-ne-some z e)
  settle-kept P k (suc n) S z h e = go (eqb (type_count s (sweep s S)) (type_count s S)) refl (λ q. settle-kept P k n (sweep s S) z (kept s P k S (sweep_steps s) (sweep-proper s) h) q)
    where
      go : (b : Bool) → eqb (type_count s (sweep s S)) (type_count s S) ≡ b → (settle s n (sweep s S) ≡ Some z → P z) → P z
      go true q ih = subst P (some-injective (sweep s S) z (rw (q, settle) at e)) (kept s P k S (sweep_steps s) (sweep-proper s) h)
      go false q ih = ih (rw (q, settle) at e)

  pub result-kept : (P : State → Type 0) → ((S : State) (x : Step) → Proper s (at x) → P S → P (step s S x)) → P (start s cls) → (z : State) → result s cls ≡ Some z → P z
  unfolding result sweep
  result-kept P k h z e = settle-kept P k (elements s + 1) (sweep s (start s cls)) z (kept s P k (start s cls) (sweep_steps s) (sweep-proper s) h) e

  pub result_idle : (z : State) → result s cls ≡ Some z → (x : Step) → Proper s (at x) → step s z x ≡ z
  unfolding result sweep
  result_idle z e = settle_idle (elements s + 1) (sweep s (start s cls)) z (good_play (start s cls) (sweep_steps s) (sweep-proper s) (start_good s cls)) e

  pub result_good : (z : State) → result s cls ≡ Some z → Good s cls z
  result_good = result-kept (Good s cls) (λ S x p g. step_good s cls S g x p) (start_good s cls)

  pub result-above : (z : State) → result s cls ≡ Some z → PartsNoMore (start s cls) z
  result-above z e =
      (result-kept (Above (start s cls))
      (λ T x p h. (step_good s cls T h.0 x p, below_trans (start s cls) T (step s T x) h.0 (step_good s cls T h.0 x p) h.1 (step-parts s cls T h.0 x p)))
      (start_good s cls, below_refl (start s cls)) z e).1

  -- ---- the state T is calm and above the start: then it is above all that steps reach
  module _ (w : Sound s) (T : State) (gT : Good s cls T) (calm : (x : Step) → Proper s (at x) → Calm s T x) where
    abbrev Under : State → Type 0
    Under S = Good s cls S × PartsNoMore S T

    pub under-step : (S : State) (x : Step) → Proper s (at x) → Under S → Under (step s S x)
    under-step S x p h = (step_good s cls S h.0 x p, below_step s w cls S T h.0 gT h.1 x p (calm x p))

  module _ (w : Sound s) (z : State) (e : result s cls ≡ Some z) (xs : List Step) (a : AllProper s xs) where
    result_calm : (x : Step) → Proper s (at x) → Calm s z x
    result_calm x p = rw (result_idle z e x p) (λ i j hi hj t. t)

    -- This is claim (a) of demand 3.
    pub play-below : PartsNoMore (play s (start s cls) xs) z
    play-below = (kept s (Under w z (result_good z e) result_calm) (under-step w z (result_good z e) result_calm) (start s cls) xs a (start_good s cls, result-above z e)).1

    -- This is claim (b) of demand 3.
    pub play-result : Steady s (play s (start s cls) xs) → play s (start s cls) xs ≡ z
    play-result st = below_both S z gS (result_good z e) play-below above
      where
        S : State
        S = play s (start s cls) xs

        gS : Good s cls S
        gS = good_play (start s cls) xs a (start_good s cls)

        calm : (x : Step) → Proper s (at x) → Calm s S x
        calm x p i j hi hj t = last (ℕ_discrete (type_of (step s S x) (at x) i) (type_of (step s S x) (at x) j))
          where
            last : Dec (type_of (step s S x) (at x) i ≡ type_of (step s S x) (at x) j) → type_of (step s S x) (at x) i ≡ type_of (step s S x) (at x) j
            last (yes q) = q
            last (no n) = absurd (st x p (at x) i j (rw (gS.sizes (at x)) at hi) (rw (gS.sizes (at x)) at hj) (t, n))

        above : PartsNoMore z S
        above = (result-kept (Under w S gS calm) (under-step w S gS calm) (start_good s cls, play-parts (start s cls) xs a (start_good s cls)) z e).1
