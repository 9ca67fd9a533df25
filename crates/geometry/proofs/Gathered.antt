-- In the loop over the points of a hull, what is left to add gives what all of them give.
-- Assumes nothing.
use mathlib.Core.Path.{◌≡◌, refl, sym, ap, ◌∙◌}
use mathlib.Core.List.{List, [], ◌∷◌, map}
use Prim.Native.Nat.{ℕ, suc, ◌+◌, ◌-◌, ◌≤◌, ◌<◌}
use native.Mathlib.Numerals.{add-one}
use native.Mathlib.Omega.{arith}
use lib.ListN.{take, drop, length, get_or, length-drop, drop_of_length-le}
use lib.Seq.{drop-cons, length-take-le, take_all, get_or-take, get_or-drop}
use borrow.Author.Tests.{eq-eqb, ne_eqb}
use Rattle.spec.specs.Matrix.{Vector}
use Rattle.spec.specs.Hull as spec
use Rattle.spec.specs.Hull.{add, add_all, hull_of}
use Rattle.geometry.specs.declared.hull.Hull.{Hull}
use Rattle.laws.proofs.Lists.{length_table}
use Rattle.geometry.specs.Reading.{vector_at, hull_in}

-- There are as many vectors as are counted.
pub length_basis : (d : ℕ) (h : Hull) → length (hull_in d h).basis ≡ h.count
unfolding hull_in
length_basis d h = length_table (vector_at d h.basis) h.count

-- The points after the first are those of the list's other numbers, so what holds of all its numbers holds of theirs.
pub item-in : (l : List ℕ) (k v n : ℕ) → ((j : ℕ) → j < length l → get_or l j 0 < n) → k < length (take (length l - 1) (drop 1 l))
    → v ≡ get_or (take (length l - 1) (drop 1 l)) k 0 → v < n
item-in l k v n all h e =
    let long : length (take (length l - 1) (drop 1 l)) ≡ length l - 1 = length-take-le (length l - 1) (drop 1 l) (omega (arith, length-drop 1 l)) in
    let is : v ≡ get_or l (1 + k) 0 = e ∙ get_or-take (length l - 1) (drop 1 l) k 0 (omega arith) ∙ get_or-drop 1 l k 0 in
    rw is (all (1 + k) (omega arith))

pub whole : (d : ℕ) (f : ℕ → Vector) (l : List ℕ) → 0 < length l
    → add_all d (record { offset = f (get_or l 0 0); basis = [] }) (map f (take (length l - 1) (drop 1 l))) ≡ hull_of d (map f l)
unfolding hull_of
whole d f [] h = absurd (omega arith)
whole d f (x ∷ l) h =
    let n : length (x ∷ l) - 1 ≡ length l = omega arith in
    ap (λ (m : List ℕ). add_all d (record { offset = f x; basis = [] }) (map f m)) (take_all (length (x ∷ l) - 1) l (omega arith))

-- The hull h is that of h₀ and the first k of the points ps.
pub record Gathered (d : ℕ) (ps : List Vector) (h₀ h : spec.Hull) (k : ℕ) : Type 0 where
  pub is : add_all d h (drop k ps) ≡ add_all d h₀ ps

full : (d : ℕ) (h : spec.Hull) (ps : List Vector) → length h.basis ≡ d → h ≡ add_all d h ps
unfolding add_all
full d h [] e = refl
full d h (p ∷ ps) e = rw (add_all, eq-eqb (length h.basis) d e)

one_more : (d : ℕ) (h : spec.Hull) (p : Vector) (ps : List Vector) → (length h.basis ≡ d → ⊥) → add_all d h (p ∷ ps) ≡ add_all d (add h p) ps
unfolding add_all
one_more d h p ps ne = rw (add_all, ne_eqb (length h.basis) d ne)

module _ {d : ℕ} {ps : List Vector} {h₀ : spec.Hull} where
  -- Once there are d vectors, the other points change nothing.
  pub stop : {h : spec.Hull} {k : ℕ} → length h.basis ≡ d → Gathered d ps h₀ h k → h ≡ add_all d h₀ ps
  stop {h} {k} e w = full d h (drop k ps) e ∙ w.is

  pub next : {h g : spec.Hull} {k : ℕ} (p : Vector) → k < length ps → p ≡ get_or ps k [] → (length h.basis ≡ d → ⊥) → g ≡ add h p → Gathered d ps h₀ h k → Gathered d ps h₀ g (k + 1)
  next {h} {g} {k} p more is ne e w =
      let here : drop k ps ≡ p ∷ drop (suc k) ps = drop-cons ps k [] more ∙ ap (λ (v : Vector). v ∷ drop (suc k) ps) (sym is) in
      record { is = rw (e, add-one) (sym (ap (add_all d h) here ∙ one_more d h p (drop (suc k) ps) ne) ∙ w.is) }

  pub end : {h : spec.Hull} {k : ℕ} → length ps ≤ k → Gathered d ps h₀ h k → h ≡ add_all d h₀ ps
  unfolding add_all
  end {h} {k} all w = rw (drop_of_length-le ps all) at w.is
