-- This file has the laws that the loops over flags pass on: going down from the top, and looking for the other element.
-- Assumes nothing.
use Rattle.std.specs.Prelude.{Some, unwrap_or}
use Rattle.std.specs.List.{find, slice_get}
use Rattle.std.proofs.lemmas.Option.{unwrap_or-slice_get}
use mathlib.Core.Path.{◌≡◌, refl, sym, ◌∙◌, ap}
use mathlib.Core.Bool.{Bool, true, false, not, cond, ◌&&◌}
use mathlib.Core.List.{List, [], ◌∷◌, ◌++◌, append_assoc, append-nil}
use Prim.Native.Nat.{ℕ, zero, suc, ◌-◌, ◌≤◌, ◌<◌}
use native.Mathlib.Numerals.{sub-one, unary_clauses}
use native.Mathlib.Omega.{arith}
use native.Mathlib.Decide.{ℕ_discrete}
use lib.ListN.{length, get_or, set, take, drop, length-set}
use lib.Seq.{drop-cons, drop-set-lt, take-set-lt, get_or-take, get_or-set_same}
use lib.Dec.{eqb}
use Rattle.spec.specs.Limits.{max_rank}
use Rattle.spec.specs.Lists.{keep}
use Rattle.spec.specs.Types.{subs}
use Rattle.spec.specs.Solid.{between}
use Rattle.spec.specs.Flags.{IsFlag, element_at, first_to, first_flag, other, change}
use Rattle.laws.proofs.Lists.{in_get_d}
use Rattle.ranked.specs.declared.Shape.{Shape}
use Rattle.ranked.specs.Words.{size_at, abs_in, Held}
use Rattle.ranked.proofs.Solids.{top_is, size_is, sub_in}
use Rattle.flag.specs.Reading.{other_in}

-- ---- the first flag

-- A list of subs is not empty, and its first is of the rank below.
module _ (sh : Shape) (w : List ℕ) (h : Held sh w) where
  pub some_sub : (r e : ℕ) → 0 < r → r ≤ sh.rank → e < size_at sh r → 0 < length (subs (abs_in sh w) r e)
  some_sub zero e a b k = absurd (omega arith)
  some_sub (suc r) e a b k = h.filled r e (rw (size_is sh w (suc r) b) k)

  first_in_lem : (r e : ℕ) → suc r ≤ sh.rank → e < size_at sh (suc r) → get_or (subs (abs_in sh w) (suc r) e) 0 0 < size_at sh r
  first_in_lem r e b k =
      sub_in sh w h r e (get_or (subs (abs_in sh w) (suc r) e) 0 0) b
      (in_get_d 0 (subs (abs_in sh w) (suc r) e) 0 (h.filled r e (rw (size_is sh w (suc r) b) k)))

-- The elements from rank r on are found.
pub record Down (sh : Shape) (w goal els : List ℕ) (r : ℕ) : Type 0 where
  pub low : r ≤ sh.rank
  pub inside : get_or els r 0 < size_at sh r
  pub long : length els ≡ suc max_rank
  pub done : first_to (abs_in sh w) r (get_or els r 0) ++ take (sh.rank - r) (drop (suc r) els) ≡ goal

module _ (sh : Shape) (w : List ℕ) (h : Held sh w) where
  -- Nothing stands above the top.
  pub top-down : (els : List ℕ) → get_or els sh.rank 0 ≡ 0
      → first_to (abs_in sh w) sh.rank (get_or els sh.rank 0) ++ take (sh.rank - sh.rank) (drop (suc sh.rank) els) ≡ first_flag (abs_in sh w)
  unfolding first_flag
  top-down els z =
      let None : sh.rank - sh.rank ≡ 0 = omega arith in
      rw (None, z) (append-nil (first_to (abs_in sh w) sh.rank 0) ∙ ap (λ (n : ℕ). first_to (abs_in sh w) n 0) (sym (top_is sh w)))

  pub next_down : (goal els : List ℕ) (r : ℕ) → Down sh w goal els (suc r) → (f : ℕ) → f ≡ get_or (subs (abs_in sh w) (suc r) (get_or els (suc r) 0)) 0 0
      → Down sh w goal (set els r f) r
  unfolding first_to
  next_down goal els r d f q =
      let t = h.tall in
      let e = get_or els (suc r) 0 in
      let l : r < length els = omega (arith, d.long, d.low) in
      let l' : suc r < length els = omega (arith, d.long, d.low) in
      let n : sh.rank - r ≡ suc (sh.rank - suc r) = omega (arith, d.low) in
      let here : get_or (set els r f) r 0 ≡ f = get_or-set_same els r f 0 l in
      let step : take (sh.rank - r) (drop (suc r) (set els r f)) ≡ e ∷ take (sh.rank - suc r) (drop (suc (suc r)) els) =
      rw (drop-set-lt (suc r) els r f (omega arith), drop-cons els (suc r) 0 l', n) refl in
      record {
        low = omega (arith, d.low);
        inside = rw (here, q) (first_in_lem sh w h r e d.low d.inside);
        long = length-set els r f ∙ d.long;
        done =
            ap (λ (m : List ℕ). first_to (abs_in sh w) r (get_or (set els r f) r 0) ++ m) step
            ∙ sym (append_assoc (first_to (abs_in sh w) r (get_or (set els r f) r 0)) (e ∷ []) (take (sh.rank - suc r) (drop (suc (suc r)) els)))
            ∙ ap (λ (x : ℕ). (first_to (abs_in sh w) r x ++ (e ∷ [])) ++ take (sh.rank - suc r) (drop (suc (suc r)) els)) (here ∙ q)
            ∙ d.done;
      }

  pub last-down : (goal els : List ℕ) → Down sh w goal els 0 → take (suc sh.rank) els ≡ goal
  unfolding first_to
  last-down goal [] d = absurd (omega (arith, d.long))
  last-down goal (x ∷ els) d = simp unary_clauses at d.done

-- ---- the other element

module _ (e : ℕ) (p : ℕ → Bool) where
  -- The first entry that passes the test and is not e is the first other one of those that pass.
  pub find_other : (l : List ℕ) → find (λ y. not (eqb y e) && p y) l ≡ other_in e (keep p l)
  unfolding keep other_in
  find_other [] = refl
  find_other (x ∷ l) = go (p x) (eqb x e) refl (find_other l)
    where
      rest : List ℕ
      rest = keep (λ y. not (eqb y e)) (keep p l)

      go : (b t : Bool) → eqb x e ≡ t → find (λ y. not (eqb y e) && p y) l ≡ slice_get rest 0
          → cond (not t && b) (Some x) (find (λ y. not (eqb y e) && p y) l)
          ≡ slice_get (keep (λ y. not (eqb y e)) (elim b [ true ↦ x ∷ keep p l | false ↦ keep p l ])) 0
      go true true q h = rw (q, keep) h
      go true false q h = rw (q, keep) refl
      go false true q h = h
      go false false q h = h

-- Where there is no other element, a change keeps e.
pub other-found : (e : ℕ) (l : List ℕ) → unwrap_or (other_in e l) e ≡ other e l
unfolding other_in other
other-found e l = unwrap_or-slice_get (keep (λ x. not (eqb x e)) l) 0 e

-- ---- a change

pub changed : (sh : Shape) (w els : List ℕ) (r : ℕ) → 0 < r → r < sh.rank
    → (e : ℕ) → e ≡ other (get_or els r 0) (between (abs_in sh w) r (get_or els (suc r) 0) (get_or els (r - 1) 0))
    → take (suc sh.rank) (set els r e) ≡ change (abs_in sh w) r (take (suc sh.rank) els)
unfolding change
changed sh w els r a b e q =
    let n = suc sh.rank in
    rw (
      take-set-lt n els r e (omega arith),
      get_or-take n els r 0 (omega arith),
      get_or-take n els (suc r) 0 (omega arith),
      ← sub-one r,
      get_or-take n els (r - 1) 0 (omega arith),
      q,
    ) refl

-- ---- the elements of a flag are the solid's: what a caller of a change has to show

pub flag_in_lem : (sh : Shape) (w : List ℕ) → Held sh w → (els : List ℕ) → IsFlag (abs_in sh w) (take (suc sh.rank) els)
    → (r : ℕ) → r ≤ sh.rank → get_or els r 0 < size_at sh r
flag_in_lem sh w h els f r low = rw (← get_or-take (suc sh.rank) els r 0 (omega arith)) (go (ℕ_discrete r sh.rank))
  where
    go : Dec (r ≡ sh.rank) → element_at (take (suc sh.rank) els) r < size_at sh r
    go (yes q) =
        let z : element_at (take (suc sh.rank) els) r ≡ 0 = ap (element_at (take (suc sh.rank) els)) (q ∙ sym (top_is sh w)) ∙ f.peak in
        omega (arith, z, h.some r low)
    go (no q) = sub_in sh w h r _ _ (omega arith) (f.chain r (omega (arith, top_is sh w)))
