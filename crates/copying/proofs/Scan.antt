-- What the library's chains and calls give, in terms of document 01's definitions.
-- Assumes nothing.
use Rattle.std.specs.Prelude.{Option, Some, None, is_some}
use Rattle.std.specs.List.{list_all}
use mathlib.Core.Path.{◌≡◌, refl, sym, ap, ◌∙◌}
use mathlib.Core.Bool.{Bool, true, false, ◌&&◌}
use mathlib.Core.List.{List, [], ◌∷◌, map}
use Prim.Native.Nat.{ℕ, ◌<◌}
use native.Mathlib.Omega.{arith}
use lib.ListN.{length, get_or, length-map}
use Rattle.std.proofs.lemmas.List.{ext_get_or, get_or-map}
use Rattle.spec.specs.Lists.{every}
use Rattle.spec.specs.Matrix.{Vector}
use Rattle.spec.specs.Points.{found, find}
use Rattle.points.specs.Finding.{found_at}
use Rattle.points.proofs.Finding.{is_found, is_missing}

pub every_all : {A : Type 0} (p : A → Bool) (l : List A) → list_all p l ≡ every p l
unfolding every
every_all p [] = refl
every_all p (x ∷ l) = go (p x) (every_all p l)
  where
    go : (b : Bool) → list_all p l ≡ every p l → (b && list_all p l) ≡ elim b as (λ _. Bool) [ true ↦ every p l | false ↦ false ]
    go true e = e
    go false e = refl

-- A list whose entries are those of another under f is that list under f.
pub mapped : {A B : Type 0} (f : A → B) (d : A) (e : B) (xs : List A) (ys : List B) → length ys ≡ length xs
    → ((i : ℕ) → i < length xs → get_or ys i e ≡ f (get_or xs i d)) → ys ≡ map f xs
mapped f d e xs ys k h =
    ext_get_or e ys (map f xs) (k ∙ sym (length-map xs f)) (λ i j. let g : i < length xs = omega (arith, j, k) in h i g ∙ sym (get_or-map f xs i d e g))

-- A scan answers a number exactly where the point is found.
found_some : (ps : List Vector) (q : Vector) (n : ℕ) → length ps ≡ n → is_some (found_at n (find ps q)) ≡ found ps q
found_some ps q n all = go (found_at n (find ps q)) refl
  where
    go : (o : Option ℕ) → found_at n (find ps q) ≡ o → is_some o ≡ found ps q
    go (Some k) e = sym (is_found ps q all e)
    go None e = sym (is_missing ps q all e)

pub found_by : (ps : List Vector) (q : Vector) {n : ℕ} {o : Option ℕ} {r : Bool} → length ps ≡ n → o ≡ found_at n (find ps q) → r ≡ is_some o → found ps q ≡ r
found_by ps q {n} all e f = sym (f ∙ ap is_some e ∙ found_some ps q n all)
