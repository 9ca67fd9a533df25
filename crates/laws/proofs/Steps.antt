-- This file is about steps over states: what they keep, that they only part, and that they part no more than a steady state parts.
-- Assumes nothing.
use mathlib.Core.Path.{◌≡◌, refl, sym, ◌∙◌, ap, ap₂}
use mathlib.Core.Logic.{◌≢◌, inl, inr}
use Prim.Native.Nat.{ℕ, zero, suc, ◌<◌}
use mathlib.Core.Bool.{Bool, true, false}
use mathlib.Core.List.{List, [], ◌∷◌, map, tail}
use native.Mathlib.Decide.{ℕ_discrete, dec_lt}
use native.Mathlib.Omega.{arith}
use lib.ListN.{length, get_or, replicate, length-set, length-replicate, get_or-eq_default}
use lib.Seq.{get_or-set_same, get_or-set_other}
use lib.Dec.{eqb}
use Rattle.spec.specs.Lists.{In, distinct, place, renumber, count, eq_list, range}
use Rattle.spec.specs.Types.{Solid, top, size, Classes, State, types_at, type_of, is_proper, start_at, start, Step, at, next, neighbours, key, keys, step}
use Rattle.spec.specs.Demand.{Proper}
use Rattle.laws.proofs.Distinct.{place_yes}
use Rattle.laws.proofs.Lists.{map_same, length_table, get_d_table}
use Rattle.laws.proofs.Renumber.{Coarser, length-renumber, renumber_fine, renumber_coarse, renumber-pattern}
use Rattle.laws.proofs.Counts.{numbers, lists}

-- ---- keys

map_at : (f g : ℕ → ℕ) (l : List ℕ) → map f l ≡ map g l → (t : ℕ) → In t l → f t ≡ g t
map_at f g (x ∷ l) e t (inl q) = rw q (ap (λ (r : List ℕ). get_or r 0 0) e)
map_at f g (x ∷ l) e t (inr m) = map_at f g l (ap tail e) t m
map_at f g [] e t x'' = elim x'' [ ]

-- Lists the types that a rank's list has for the elements es.
abbrev pub look : List ℕ → List ℕ → List ℕ
look ts es = map (λ e. get_or ts e 0) es

pub key_type : (ts us : List ℕ) (t u : ℕ) (es fs : List ℕ) → key ts t es ≡ key us u fs → t ≡ u
unfolding key
key_type ts us t u es fs e = ap (λ (r : List ℕ). get_or r 0 0) e

pub key_counts : (ts : List ℕ) (t u : ℕ) (es fs : List ℕ) → key ts t es ≡ key ts u fs → (k : ℕ) → In k (distinct eqb ts) → count eqb k (look ts es) ≡ count eqb k (look ts fs)
unfolding key
key_counts ts t u es fs e = map_at (λ k. count eqb k (look ts es)) (λ k. count eqb k (look ts fs)) (distinct eqb ts) (ap tail e)

pub key-join : (ts : List ℕ) (t u : ℕ) (es fs : List ℕ) → t ≡ u → ((k : ℕ) → In k (distinct eqb ts) → count eqb k (look ts es) ≡ count eqb k (look ts fs)) → key ts t es ≡ key ts u fs
unfolding key
key-join ts t u es fs e c = ap₂ {C = List ℕ} (λ x xs. x ∷ xs) e (map_same (λ k. count eqb k (look ts es)) (λ k. count eqb k (look ts fs)) (distinct eqb ts) c)

pub key_same : (ts : List ℕ) (t u : ℕ) (es fs : List ℕ) → t ≡ u → ((k : ℕ) → count eqb k (look ts es) ≡ count eqb k (look ts fs)) → key ts t es ≡ key ts u fs
key_same ts t u es fs e c = key-join ts t u es fs e (λ k m. c k)

-- ---- ranks

pub proper? : (s : Solid) (r : ℕ) → Dec (Proper s r)
proper? s r = go (dec_lt 0 r) (dec_lt r (top s))
  where
    go : Dec (0 < r) → Dec (r < top s) → Dec (Proper s r)
    go (yes p) (yes q) = yes (p, q)
    go (yes p) (no q) = no (λ h. q h.1)
    go (no p) d = no (λ h. p h.0)

pub proper_in : (s : Solid) (r : ℕ) → Proper s r → r < length s
proper_in s r p = omega arith

-- ---- what every state has

module _ (s : Solid) (cls : Classes) where
  pub record Good (S : State) : Type 0 where
    pub ranks : length S ≡ length s
    pub sizes : (r : ℕ) → length (types_at S r) ≡ size s r
    pub canon : (r : ℕ) → renumber eqb (types_at S r) ≡ types_at S r
    pub fixed : (r : ℕ) → ¬ Proper s r → types_at S r ≡ types_at (start s cls) r

-- The state S parts no more than T.
abbrev pub PartsNoMore : State → State → Type 0
PartsNoMore S T = (r : ℕ) → Coarser 0 0 (types_at S r) (types_at T r)

-- ---- the start

zeros_canon : (n : ℕ) → renumber eqb (replicate n 0) ≡ replicate n 0
unfolding renumber distinct
zeros_canon zero = refl
zeros_canon (suc n) = all (suc n)
  where
    all : (m : ℕ) → map (λ x. place eqb x (distinct eqb (replicate (suc n) 0))) (replicate m 0) ≡ replicate m 0
    all zero = refl
    all (suc m) = ap₂ {C = List ℕ} (λ x xs. x ∷ xs) (place_yes eqb numbers {x = 0} {k = 0} _ (numbers.pass 0)) (all m)

pub renumber_canon : (l : List ℕ) → renumber eqb (renumber eqb l) ≡ renumber eqb l
renumber_canon l = renumber-pattern eqb numbers eqb numbers 0 0 l (renumber eqb l) (length-renumber eqb numbers l) (renumber_coarse eqb numbers 0 l) (renumber_fine eqb numbers 0 l)

pub keys_canon : (l : List (List ℕ)) → renumber eqb (renumber eq_list l) ≡ renumber eq_list l
keys_canon l = renumber-pattern eq_list lists eqb numbers [] 0 l (renumber eq_list l) (length-renumber eq_list lists l) (renumber_coarse eq_list lists [] l) (renumber_fine eq_list lists [] l)

module _ (s : Solid) (cls : Classes) where
  start_canon : (r : ℕ) → (length (start_at s cls r) ≡ size s r) × (renumber eqb (start_at s cls r) ≡ start_at s cls r)
  unfolding start_at
  start_canon r = go (is_proper s r) refl
    where
      go : (b : Bool) → is_proper s r ≡ b → (length (start_at s cls r) ≡ size s r) × (renumber eqb (start_at s cls r) ≡ start_at s cls r)
      go true e = rw (e, start_at) (length-renumber eqb numbers (map (cls r) (range 0 (size s r))) ∙ length_table (cls r) (size s r), renumber_canon (map (cls r) (range 0 (size s r))))
      go false e = rw (e, start_at) (length-replicate (size s r) 0, zeros_canon (size s r))

  pub start-at : (r : ℕ) → r < length s → types_at (start s cls) r ≡ start_at s cls r
  unfolding start
  start-at r h = get_d_table (start_at s cls) [] (length s) r h

  start_past : (r : ℕ) → ¬ (r < length s) → types_at (start s cls) r ≡ []
  unfolding start
  start_past r h = get_or-eq_default (start s cls) [] (rw length_table (omega arith))

  pub past : (r : ℕ) → ¬ (r < length s) → size s r ≡ 0
  past r h = ap length (get_or-eq_default s [] {n = r} (omega arith))

  pub start_good : Good s cls (start s cls)
  unfolding start renumber distinct
  start_good = record {
    ranks = length_table (start_at s cls) (length s);
    sizes = λ r. (both r (dec_lt r (length s))).0;
    canon = λ r. (both r (dec_lt r (length s))).1;
    fixed = λ r n. refl;
  }
    where
      both : (r : ℕ) → Dec (r < length s) → (length (types_at (start s cls) r) ≡ size s r) × (renumber eqb (types_at (start s cls) r) ≡ types_at (start s cls) r)
      both r (yes h) = rw (start-at r h) (start_canon r)
      both r (no h) = rw (start_past r h, past r h) (refl, refl)

-- ---- one step

module _ (s : Solid) (cls : Classes) (S : State) (g : Good s cls S) (x : Step) (p : Proper s (at x)) where
  pub step_here : types_at (step s S x) (at x) ≡ renumber eq_list (keys s S x)
  unfolding step
  step_here = get_or-set_same S (at x) (renumber eq_list (keys s S x)) [] (omega (arith, g.ranks))

  pub step_else : (r : ℕ) → r ≢ at x → types_at (step s S x) r ≡ types_at S r
  unfolding step
  step_else r n = get_or-set_other S (at x) r (renumber eq_list (keys s S x)) [] n

  pub keys_length : length (keys s S x) ≡ size s (at x)
  unfolding keys
  keys_length = length_table (λ e. key (types_at S (next x)) (type_of S (at x) e) (neighbours s x e)) (size s (at x))

  pub key-at : (e : ℕ) → e < size s (at x) → get_or (keys s S x) e [] ≡ key (types_at S (next x)) (type_of S (at x) e) (neighbours s x e)
  unfolding keys
  key-at e h = get_d_table (λ e'. key (types_at S (next x)) (type_of S (at x) e') (neighbours s x e')) [] (size s (at x)) e h

  pub step_good : Good s cls (step s S x)
  unfolding step
  step_good = record {
    ranks = length-set S (at x) (renumber eq_list (keys s S x)) ∙ g.ranks;
    sizes = λ r. size-at r (ℕ_discrete r (at x));
    canon = λ r. canon_at r (ℕ_discrete r (at x));
    fixed = λ r n. step_else r (λ (e : r ≡ at x). n (rw e p)) ∙ g.fixed r n;
  }
    where
      size-at : (r : ℕ) → Dec (r ≡ at x) → length (types_at (step s S x) r) ≡ size s r
      size-at r (yes e) = rw e (ap length step_here ∙ length-renumber eq_list lists (keys s S x) ∙ keys_length)
      size-at r (no n) = ap length (step_else r n) ∙ g.sizes r

      canon_at : (r : ℕ) → Dec (r ≡ at x) → renumber eqb (types_at (step s S x) r) ≡ types_at (step s S x) r
      canon_at r (yes e) = rw (e, step_here) (keys_canon (keys s S x))
      canon_at r (no n) = rw (step_else r n) (g.canon r)

  -- After the step, elements share a type exactly when they share a key.
  pub step-key : (e f : ℕ) → e < size s (at x) → f < size s (at x) → type_of (step s S x) (at x) e ≡ type_of (step s S x) (at x) f
      → key (types_at S (next x)) (type_of S (at x) e) (neighbours s x e) ≡ key (types_at S (next x)) (type_of S (at x) f) (neighbours s x f)
  step-key e f he hf q =
      let len = length-renumber eq_list lists (keys s S x) ∙ keys_length in
      sym (key-at e he) ∙ renumber_fine eq_list lists [] (keys s S x) e f (rw len he) (rw len hf) (rw step_here at q) ∙ key-at f hf

  pub key_step : (e f : ℕ) → e < size s (at x) → f < size s (at x)
      → key (types_at S (next x)) (type_of S (at x) e) (neighbours s x e) ≡ key (types_at S (next x)) (type_of S (at x) f) (neighbours s x f)
      → type_of (step s S x) (at x) e ≡ type_of (step s S x) (at x) f
  key_step e f he hf q =
      rw step_here
      (renumber_coarse eq_list lists [] (keys s S x) e f (rw keys_length he) (rw keys_length hf) (key-at e he ∙ q ∙ sym (key-at f hf)))

  -- A step only parts.
  pub step-parts : PartsNoMore S (step s S x)
  step-parts r = go (ℕ_discrete r (at x))
    where
      go : Dec (r ≡ at x) → Coarser 0 0 (types_at S r) (types_at (step s S x) r)
      go (yes q) e f he hf t =
          let n : length (types_at (step s S x) r) ≡ size s (at x) = step_good.sizes r ∙ ap (size s) q in
          rw q (key_type (types_at S (next x)) (types_at S (next x)) _ _ _ _ (step-key e f (rw n at he) (rw n at hf) (rw q at t)))
      go (no n) e f he hf t = rw (step_else r n) at t
