-- What the definitions say is read back in the words of section 4.
-- Assumes nothing.
use mathlib.Core.Path.{◌≡◌, refl, sym, ◌∙◌, ap}
use mathlib.Core.Logic.{◌↔◌, ◌⊎◌, inl, inr}
use Prim.Native.Nat.{ℕ, ◌<◌}
use mathlib.Core.Bool.{Bool, true, false}
use mathlib.Core.List.{List, map}
use native.Mathlib.Omega.{arith}
use native.Mathlib.Decide.{dec_lt}
use lib.ListN.{length, get_or, get_or-replicate}
use lib.Dec.{eqb}
use Rattle.spec.specs.Lists.{renumber, range}
use Rattle.spec.specs.Types.{Solid, top, size, Classes, State, types_at, type_of, is_proper, start_at, start, Step, at, next, neighbours, play}
use Rattle.spec.specs.Demand.{Proper, AllProper}
use Rattle.laws.specs.TypeLaws.{of_type, Stepped, EveryStepLaw}
use Rattle.laws.proofs.Distinct.{in_distinct, of-distinct}
use Rattle.laws.proofs.Lists.{get_d_table, length_table}
use Rattle.laws.proofs.Renumber.{length-renumber, renumber_fine, renumber_coarse}
use Rattle.laws.proofs.Counts.{numbers}
use Rattle.laws.proofs.Steps.{key_type, key_counts, key-join, proper_in, Good, start-at, past, start_good, step-key, key_step, step_else}
use Rattle.laws.proofs.Result.{good_play}
use Rattle.laws.proofs.Carry.{is_proper_lem, proper_is}

module _ (s : Solid) (cls : Classes) where
  start_means : (r e f : ℕ) → Proper s r → e < size s r → f < size s r → (type_of (start s cls) r e ≡ type_of (start s cls) r f) ↔ (cls r e ≡ cls r f)
  unfolding start_at
  start_means r e f p he hf =
      let l = map (cls r) (range 0 (size s r)) in
      let len = length-renumber eqb numbers l ∙ length_table (cls r) (size s r) in
      let now : types_at (start s cls) r ≡ renumber eqb l = start-at s cls r (proper_in s r p) ∙ rw (proper_is s r p, start_at) in (
        λ q. sym (get_d_table (cls r) 0 (size s r) e he) ∙ renumber_fine eqb numbers 0 l e f (rw len he) (rw len hf) (rw now at q) ∙ get_d_table (cls r) 0 (size s r) f hf,
        λ q. rw now (renumber_coarse eqb numbers 0 l e f (rw length_table he) (rw length_table hf) (get_d_table (cls r) 0 (size s r) e he ∙ q ∙ sym (get_d_table (cls r) 0 (size s r) f hf))),
      )

  step_means : (S : State) → Good s cls S → (x : Step) → Proper s (at x) → Stepped s S x
  unfolding of_type
  step_means S g x p =
      let ts = types_at S (next x) in
      record {
        share = λ e f he hf. (
          λ q. let k = step-key s cls S g x p e f he hf q in
              (key_type ts ts _ _ _ _ k, λ t m. key_counts ts _ _ _ _ k t (in_distinct eqb numbers t ts m)),
          λ q. key_step s cls S g x p e f he hf (key-join ts (type_of S (at x) e) (type_of S (at x) f) (neighbours s x e) (neighbours s x f) q.0 (λ t m. q.1 t (of-distinct eqb numbers t ts m))),
        );
        others = step_else s cls S g x p;
      }

  -- A rank that is not proper keeps what it has at the start.
  improper : (S : State) → Good s cls S → (r e : ℕ) → ¬ Proper s r → r < length s → e < size s r → type_of S r e ≡ 0
  unfolding start_at
  improper S g r e n h he = ap (λ (l : List ℕ). get_or l e 0) (g.fixed r n ∙ start-at s cls r h) ∙ go (is_proper s r) refl
    where
      go : (b : Bool) → is_proper s r ≡ b → get_or (start_at s cls r) e 0 ≡ 0
      go true q = absurd (n (is_proper_lem s r q))
      go false q = rw (q, start_at) (get_or-replicate (size s r) e 0 0 he)

pub every-step_law : EveryStepLaw
every-step_law s cls = record {
  at-start = start_means s cls;
  stepped = λ xs a x p. step_means s cls (play s (start s cls) xs) (good xs a) x p;
  improper = λ xs a r e o he. improper s cls (play s (start s cls) xs) (good xs a) r e (end r o) (there r e he) he;
}
  where
    good : (xs : List Step) → AllProper s xs → Good s cls (play s (start s cls) xs)
    good xs a = good_play s cls (start s cls) xs a (start_good s cls)

    end : (r : ℕ) → (r ≡ 0) ⊎ (r ≡ top s) → ¬ Proper s r
    end r (inl e) p = omega (arith, p.0)
    end r (inr e) p = omega (arith, p.1)

    -- A rank that has an element is a rank of the solid.
    there : (r e : ℕ) → e < size s r → r < length s
    there r e h = go (dec_lt r (length s))
      where
        go : Dec (r < length s) → r < length s
        go (yes p) = p
        go (no n) = absurd (omega (arith, past s cls r n))
