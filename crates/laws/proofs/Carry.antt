-- A symmetry keeps types, through every step.
-- Assumes nothing.
use mathlib.Core.Path.{◌≡◌, refl, sym, ◌∙◌, ap, subst}
use mathlib.Core.Logic.{◌↔◌, inl, inr}
use Prim.Native.Nat.{ℕ, suc, ◌-◌, ◌<◌}
use mathlib.Core.Bool.{Bool, true, false, ◌&&◌, false≢true}
use mathlib.Core.List.{List, [], ◌∷◌, map}
use native.Mathlib.Decide.{ℕ_discrete, dec_lt}
use native.Mathlib.Omega.{arith}
use lib.ListN.{length, get_or, get_or-replicate, length-map, get_or-eq_default}
use lib.Dec.{T, eqb, ltb, ltb→lt, lt→ltb}
use Rattle.spec.specs.Lists.{In, count, holds, range}
use Rattle.spec.specs.Types.{Solid, top, size, subs, sups, Classes, State, types_at, type_of, is_proper, start_at, start, Step, up, down, at, next, neighbours, step}
use Rattle.spec.specs.Demand.{RisingAbove, Rising, Sound, Proper, Carries}
use Rattle.laws.proofs.Distinct.{Once, pigeons, in?}
use Rattle.laws.proofs.Lists.{map_same, map-map, map_in, in_map, Injective, once_map, in_range_lem, of_range, once_range, length-range, get_d_table, length_table}
use Rattle.laws.proofs.Renumber.{renumber_coarse}
use Rattle.laws.proofs.Counts.{numbers, regroup, as_often, keep_in, in_keep, once_keep, holds_in, in_holds}
use Rattle.laws.proofs.Steps.{look, key_same, proper?, Good, start-at, step_else, key_step}
use Rattle.laws.proofs.Result.{near-low}

-- ---- rising lists repeat nothing

pub above : (x t : ℕ) (l : List ℕ) → RisingAbove x l → In t l → x < t
above x t (y ∷ l) h (inl e) = omega arith
above x t (y ∷ l) h (inr m) = omega (arith, above y t l h.1 m)
above x t [] h x4 = elim x4 [ ]

pub rising_once : (l : List ℕ) → Rising l → Once l
rising_once [] h = tt
rising_once (x ∷ []) h = (λ k. k, tt)
rising_once (x ∷ y ∷ l) h = (λ k. let n = above x x (y ∷ l) h k in omega arith, rising_once (y ∷ l) h.1)

once_near : (s : Solid) → Sound s → (x : Step) (e : ℕ) → Once (neighbours s x e)
unfolding sups
once_near s w (up r) e = rising_once (subs s r e) (w.rising r e)
once_near s w (down r) e = once_keep (λ f. holds eqb e (subs s (suc r) f)) (range 0 (size s (suc r))) (once_range 0 (size s (suc r)))

in_sups : (s : Solid) (r e f : ℕ) → f < size s (suc r) → In e (subs s (suc r) f) → In f (sups s r e)
unfolding sups
in_sups s r e f h m = keep_in (λ f'. holds eqb e (subs s (suc r) f')) f (range 0 (size s (suc r))) (in_range_lem 0 (size s (suc r)) f (omega arith) (omega arith)) (holds_in e (subs s (suc r) f) m)

of-sups : (s : Solid) (r e f : ℕ) → In f (sups s r e) → (f < size s (suc r)) × In e (subs s (suc r) f)
unfolding sups
of-sups s r e f h =
    let k = in_keep (λ f'. holds eqb e (subs s (suc r) f')) f (range 0 (size s (suc r))) h in
    let b = of_range 0 (size s (suc r)) f k.0 in
    (omega arith, in_holds e (subs s (suc r) f) k.1)

-- ---- proper, by the test

pub is_proper_lem : (s : Solid) (r : ℕ) → is_proper s r ≡ true → Proper s r
is_proper_lem s r e = (ltb→lt 0 r (left (ltb 0 r) (ltb r (top s)) e), ltb→lt r (top s) (right (ltb 0 r) (ltb r (top s)) e))
  where
    left : (a b : Bool) → a && b ≡ true → T a
    left true b q = tt
    left false b q = absurd (false≢true q)

    right : (a b : Bool) → a && b ≡ true → T b
    right true true q = tt
    right true false q = absurd (false≢true q)
    right false b q = absurd (false≢true q)

pub proper_is : (s : Solid) (r : ℕ) → Proper s r → is_proper s r ≡ true
proper_is s r p = go (ltb 0 r) (ltb r (top s)) (lt→ltb 0 r p.0) (lt→ltb r (top s) p.1)
  where
    go : (a b : Bool) → T a → T b → a && b ≡ true
    go true true x y = refl
    go false b x y = elim x [ ]
    go true false x y = elim y [ ]

module _ (s : Solid) (w : Sound s) (cls : Classes) (σ : ℕ → ℕ → ℕ) (c : Carries s cls σ) where
  abbrev pub TypesKept : State → Type 0
  TypesKept S = (r e : ℕ) → e < size s r → type_of S r (σ r e) ≡ type_of S r e

  pub start-kept : TypesKept (start s cls)
  unfolding start_at
  start-kept r e h = there (dec_lt r (length s))
    where
      n : ℕ
      n = size s r

      go : (b : Bool) → is_proper s r ≡ b → get_or (start_at s cls r) (σ r e) 0 ≡ get_or (start_at s cls r) e 0
      go true q =
          rw (q, start_at)
          (renumber_coarse eqb numbers 0 (map (cls r) (range 0 n)) (σ r e) e (rw length_table (c.ranks r e h)) (rw length_table h)
          (get_d_table (cls r) 0 n (σ r e) (c.ranks r e h) ∙ c.classes r e (is_proper_lem s r q) h ∙ sym (get_d_table (cls r) 0 n e h)))
      go false q = rw (q, start_at) (get_or-replicate n (σ r e) 0 0 (c.ranks r e h) ∙ sym (get_or-replicate n e 0 0 h))

      there : Dec (r < length s) → type_of (start s cls) r (σ r e) ≡ type_of (start s cls) r e
      there (yes k) = rw (start-at s cls r k) (go (is_proper s r) refl)
      there (no k) = absurd (omega (arith, ap length (get_or-eq_default s [] {n = r} (omega arith))))

  -- ---- it is onto

  injective : (r : ℕ) → Injective (σ r) (range 0 (size s r))
  injective r x y hx hy = let a = of_range 0 (size s r) x hx in let b = of_range 0 (size s r) y hy in c.apart r x y (omega arith) (omega arith)

  onto : (r x : ℕ) → x < size s r → (y : ℕ) × (y < size s r) × (x ≡ σ r y)
  onto r x h = go (in? eqb numbers x image)
    where
      n : ℕ
      n = size s r

      image : List ℕ
      image = map (σ r) (range 0 n)

      inside : (t : ℕ) → In t (x ∷ image) → In t (range 0 n)
      inside t (inl e) = in_range_lem 0 n t (omega arith) (omega arith)
      inside t (inr m) =
          let u = in_map (σ r) t (range 0 n) m in
          let k = of_range 0 n u.0 u.1 in
          let l = c.ranks r u.0 (omega arith) in
          in_range_lem 0 n t (omega arith) (omega (arith, u.2))

      go : Dec (In x image) → (y : ℕ) × (y < n) × (x ≡ σ r y)
      go (yes m) =
          let u = in_map (σ r) x (range 0 n) m in
          let k = of_range 0 n u.0 u.1 in
          (u.0, omega arith, u.2)
      go (no k) = absurd (omega (
        arith,
        pigeons eqb numbers (x ∷ image) (range 0 n) (k, once_map (σ r) (range 0 n) (injective r) (once_range 0 n)) inside,
        length-map (range 0 n) (σ r),
        length-range 0 n,
      ))

  -- ---- it takes subs to subs, at the top too

  module _ (r : ℕ) (p : Proper s r) (e v : ℕ) (he : e < size s r) (hv : v < size s (suc r)) where
    at_top : ¬ Proper s (suc r) → suc r ≡ top s
    at_top n = low (dec_lt (suc r) (top s))
      where
        low : Dec (suc r < top s) → suc r ≡ top s
        low (yes q) = absurd (n (omega arith, q))
        low (no q) = omega arith

    -- The top has every element of the rank below.
    all-subs : suc r ≡ top s → (u f : ℕ) → u < size s (suc r) → f < size s r → In f (subs s (suc r) u)
    all-subs q u f hu hf =
        let hu' : u < size s (top s) = rw q at hu in
        let z : u ≡ 0 = omega (arith, w.one) in
        let below : top s - 1 ≡ r = omega arith in
        rw (z, q, w.all (omega arith), below) (in_range_lem 0 (size s r) f (omega arith) (omega arith))

    sub_on : In e (subs s (suc r) v) → In (σ r e) (subs s (suc r) (σ (suc r) v))
    sub_on m = go (proper? s (suc r))
      where
        go : Dec (Proper s (suc r)) → In (σ r e) (subs s (suc r) (σ (suc r) v))
        go (yes q) = (c.onto (suc r) v q hv (σ r e)).1 (map_in (σ r) e (subs s (suc r) v) m)
        go (no n) = all-subs (at_top n) (σ (suc r) v) (σ r e) (c.ranks (suc r) v hv) (c.ranks r e he)

    sub_back : In (σ r e) (subs s (suc r) (σ (suc r) v)) → In e (subs s (suc r) v)
    sub_back m = go (proper? s (suc r))
      where
        go : Dec (Proper s (suc r)) → In e (subs s (suc r) v)
        go (yes q) =
            let u = in_map (σ r) (σ r e) (subs s (suc r) v) ((c.onto (suc r) v q hv (σ r e)).0 m) in
            rw (c.apart r e u.0 he (w.below r v u.0 u.1) u.2) u.1
        go (no n) = all-subs (at_top n) v e hv he

  -- ---- so it takes neighbours onto neighbours

  near-kept : (x : Step) → Proper s (at x) → (e : ℕ) → e < size s (at x) → (y : ℕ) → In y (neighbours s x (σ (at x) e)) ↔ In y (map (σ (next x)) (neighbours s x e))
  near-kept (up r) p e he y = c.onto r e p he y
  near-kept (down r) p e he y = (
    λ m. let k = of-sups s r (σ r e) y m in
        let v = onto (suc r) y k.0 in
        rw v.2 (map_in (σ (suc r)) v.0 (sups s r e) (in_sups s r e v.0 v.1 (sub_back r p e v.0 he v.1 (rw v.2 at k.1)))),
    λ m. let v = in_map (σ (suc r)) y (sups s r e) m in
        let k = of-sups s r e v.0 v.1 in
        rw v.2 (in_sups s r (σ r e) (σ (suc r) v.0) (c.ranks (suc r) v.0 k.0) (sub_on r p e v.0 he k.0 k.1)),
  )

  -- ---- a step keeps it

  pub step_kept : (S : State) (x : Step) → Good s cls S → Proper s (at x) → TypesKept S → TypesKept (step s S x)
  step_kept S x g p h r e he = go (ℕ_discrete r (at x))
    where
      here : (f : ℕ) → f < size s (at x) → type_of (step s S x) (at x) (σ (at x) f) ≡ type_of (step s S x) (at x) f
      here f hf =
          key_step s cls S g x p (σ (at x) f) f (c.ranks (at x) f hf) hf
          (key_same (types_at S (next x)) (type_of S (at x) (σ (at x) f)) (type_of S (at x) f) (neighbours s x (σ (at x) f)) (neighbours s x f) (h (at x) f hf) counts)
        where
          ns : List ℕ
          ns = neighbours s x f

          is : List ℕ
          is = neighbours s x (σ (at x) f)

          inj : Injective (σ (next x)) ns
          inj a b ha hb = c.apart (next x) a b (near-low s w x p f a ha) (near-low s w x p f b hb)

          often : (t : ℕ) → count eqb t is ≡ count eqb t (map (σ (next x)) ns)
          often = as_often eqb numbers is (map (σ (next x)) ns) (once_near s w x (σ (at x) f)) (once_map (σ (next x)) ns inj (once_near s w x f))
              (λ t m. (near-kept x p f hf t).0 m) (λ t m. (near-kept x p f hf t).1 m)

          counts : (k : ℕ) → count eqb k (look (types_at S (next x)) is) ≡ count eqb k (look (types_at S (next x)) ns)
          counts k =
              regroup eqb numbers eqb numbers (λ q. type_of S (next x) q) is is (map (σ (next x)) ns) (λ t m. m) (λ t m. (near-kept x p f hf t).1 m) (λ t m. often t) k
              ∙ ap (count eqb k) (map-map (σ (next x)) (λ q. type_of S (next x) q) ns
              ∙ map_same (λ q. type_of S (next x) (σ (next x) q)) (λ q. type_of S (next x) q) ns (λ q m. h (next x) q (near-low s w x p f q m)))

      go : Dec (r ≡ at x) → type_of (step s S x) r (σ r e) ≡ type_of (step s S x) r e
      go (yes q) = subst (λ (k : ℕ). e < size s k → type_of (step s S x) k (σ k e) ≡ type_of (step s S x) k e) (sym q) (here e) he
      go (no n) = rw (step_else s cls S g x p r n) (h r e he)
