-- A row of the matrix stands beside a row of the identity, in arrays of any width.
-- Assumes nothing.
use mathlib.Core.Path.{◌≡◌, refl, sym, ap, ◌∙◌}
use mathlib.Core.Bool.{true, false}
use mathlib.Core.List.{List, [], ◌∷◌, ◌++◌, map, map-id}
use Prim.Native.Nat.{ℕ, ◌+◌, ◌≤◌, ◌<◌}
use native.Mathlib.Nat.{zero-add, suc-add}
use native.Mathlib.Decide.{ℕ_discrete}
use native.Mathlib.Omega.{arith}
use lib.Dec.{eqb}
use lib.ListN.{get_or, take, drop, set, length, length-drop, length-set, replicate, length-replicate, get_or-replicate}
use lib.Seq.{ext_get_or, take-append-add, take-set-lt, length-take-le, get_or-set_same, get_or-set_other}
use lib.Ieee.{Float}
use borrow.Author.Tests.{eq-eqb, ne_eqb}
use Rattle.spec.specs.Lists.{range}
use Rattle.spec.specs.Float.{zero_f, one_f, zip}
use Rattle.spec.specs.Matrix.{Vector, Matrix, row, unit, identity}
use Rattle.laws.proofs.Lists.{get_d_table, length_table}
use Rattle.float.proofs.Written.{take_replicate}
use Rattle.matrix.specs.Reading.{corner}
use Rattle.matrix.proofs.Corner.{over-corner}

module _ {A : Type 0} where
  set-append-add : (xs ys : List A) (i : ℕ) (x : A) → set (xs ++ ys) (length xs + i) x ≡ xs ++ set ys i x
  set-append-add [] ys i x = rw zero-add
  set-append-add (y ∷ xs) ys i x = rw suc-add (ap (λ (z : List A). y ∷ z) (set-append-add xs ys i x))

unit-cell : (d i j : ℕ) → i < d → j < d → Dec (j ≡ i) → get_or (set (replicate d zero_f) i one_f) j zero_f ≡ elim (eqb i j) as (λ _. Float) [ true ↦ one_f | false ↦ zero_f ]
unit-cell d i j h k (yes e) = rw (e, eq-eqb i i refl, get_or-set_same (replicate d zero_f) i one_f zero_f (rw length-replicate h))
unit-cell d i j h k (no e) = rw (ne_eqb i j (λ q. e (sym q)), get_or-set_other (replicate d zero_f) i j one_f zero_f e, get_or-replicate d j zero_f zero_f k)

-- Zeros with a one at i are row i of the identity.
unit-set : (d i : ℕ) → i < d → set (replicate d zero_f) i one_f ≡ unit d i
unfolding unit
unit-set d i h =
    let l : length (set (replicate d zero_f) i one_f) ≡ d = length-set (replicate d zero_f) i one_f ∙ length-replicate d zero_f in
    ext_get_or zero_f _ _ (l ∙ sym (length_table _ d))
    (λ j k. unit-cell d i j h (rw l at k) (ℕ_discrete j i) ∙ sym (get_d_table _ zero_f d j (rw l at k)))

at_length : (v : Vector) (n i : ℕ) → length v ≤ n → i < length v →
    take (length v + length v) (set (v ++ replicate n zero_f) (length v + i) one_f) ≡ v ++ unit (length v) i
at_length v n i h k =
    rw (set-append-add v (replicate n zero_f) i one_f, take-append-add v (set (replicate n zero_f) i one_f) (length v))
    (ap
    (λ (y : Vector). v ++ y)
    (take-set-lt (length v) (replicate n zero_f) i one_f k
    ∙ ap (λ (y : Vector). set y i one_f) (take_replicate (length v) n zero_f h)
    ∙ unit-set (length v) i k))

pub beside-row : (d n i : ℕ) (v : Vector) → length v ≡ d → d ≤ n → i < d → take (d + d) (set (v ++ replicate n zero_f) (d + i) one_f) ≡ v ++ unit d i
beside-row d n i v e h k = rw e at (at_length v n i (omega arith) (omega arith))

zip_maps : {A B C D : Type 0} (f : B → C → D) (g : A → B) (h : A → C) (l : List A) → zip f (map g l) (map h l) ≡ map (λ x. f (g x) (h x)) l
unfolding zip
zip_maps f g h [] = refl
zip_maps {D = D} f g h (x ∷ l) = ap (λ (y : List D). f (g x) (h x) ∷ y) (zip_maps f g h l)

pub beside-rows : (d : ℕ) (m : Matrix) → d ≤ length m → map (λ i. take d (row m i) ++ unit d i) (range 0 d) ≡ zip (λ x e. x ++ e) (corner d m) (identity d)
unfolding identity
beside-rows d m h =
    sym (zip_maps (λ x e. x ++ e) (λ i. take d (row m i)) (unit d) (range 0 d))
    ∙ ap (λ (a : Matrix). zip (λ x e. x ++ e) a (map (unit d) (range 0 d))) (over-corner (λ x. x) d m h ∙ map-id (corner d m))

-- How long the half that was a row of the identity is.
pub half_long : (d : ℕ) (v : Vector) → d + d ≤ length v → length (drop d (take (d + d) v)) ≡ d
half_long d v h = omega (arith, length-drop d (take (d + d) v), length-take-le (d + d) v h)
