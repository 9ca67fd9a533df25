-- The values are gone through from the last to the first: what was found among some of them gives what the definition gives of them with one value
-- more in front. The list that joins is here too.
-- Assumes nothing.
use Rattle.std.specs.Prelude.{None, Some}
use mathlib.Core.Path.{◌≡◌, refl, ap, ◌∙◌}
use mathlib.Core.Bool.{true, false}
use mathlib.Core.List.{List, [], ◌∷◌, ◌++◌, map, map-append, reverse}
use Prim.Native.Nat.{ℕ, ◌+◌, ◌<◌}
use native.Mathlib.Numerals.{add-one}
use native.Mathlib.Omega.{arith}
use lib.ListN.{take, set, length}
use Rattle.std.proofs.lemmas.List.{reverse-append}
use lib.Seq.{take-suc-set, drop-set-lt}
use lib.Ieee.{Float}
use Rattle.spec.specs.Hull.{nearer, smaller, listed_for, listing}
use Rattle.geometry.specs.Classes.{Takes}

-- One value more was gone through.
module _ {A : Type 0} (f : A → Float) (x : Float) (ys : List A) (y : A) where
  in_front : reverse (map f (ys ++ y ∷ [])) ≡ f y ∷ reverse (map f ys)
  in_front = ap reverse (map-append f ys (y ∷ [])) ∙ reverse-append (map f ys) (f y ∷ [])

  pub near : nearer x (f y) ≡ true → smaller (f y) (listed_for x (reverse (map f ys))) ≡ listed_for x (reverse (map f (ys ++ y ∷ [])))
  unfolding listed_for
  near t = rw (in_front, listed_for, t)

  pub far : nearer x (f y) ≡ false → listed_for x (reverse (map f ys)) ≡ listed_for x (reverse (map f (ys ++ y ∷ [])))
  unfolding listed_for
  far t = rw (in_front, listed_for, t)

-- ---- taking a listed value, and joining

module _ (l : List Float) (x : Float) where
  listing-found : {y : Float} → Some y ≡ listed_for x l → (y, l) ≡ listing l x
  unfolding listing
  listing-found e = rw (listing, ← e)

  listing_new : None ≡ listed_for x l → (x, l ++ x ∷ []) ≡ listing l x
  unfolding listing
  listing_new e = rw (listing, ← e)

module _ {l : List Float} {n : ℕ} {x : Float} where
  pub takes : {y : Float} → Some y ≡ listed_for x (take n l) → Takes l l n x (record { value = y; count = n })
  takes e = record { is = listing-found (take n l) x e; room = omega arith; rest = refl }

  pub joins : n < length l → None ≡ listed_for x (take n l) → Takes l (set l n x) n x (record { value = x; count = n + 1 })
  joins h e = record {
    is = ap (λ (m : List Float). (x, m)) (ap (λ (k : ℕ). take k (set l n x)) (add-one n) ∙ take-suc-set l n x h) ∙ listing_new (take n l) x e;
    room = omega arith;
    rest = drop-set-lt (n + 1) l n x (omega arith);
  }
