-- A function is told of an array of arrays that it is passed that each row has its width.
-- Assumes nothing.
use mathlib.Core.Path.{◌≡◌, refl}
use mathlib.Core.List.{List, [], ◌∷◌}
use Prim.Native.Nat.{ℕ, zero, suc, ◌<◌}
use native.Mathlib.Omega.{arith}
use lib.ListN.{get_or, length}
use mir.Val.{Val}
use denote.RattleType.{RattleType}
use denote.Laws.{Is}
use denote.Shadow.{shadow}
use denote.Array.{Array, each}

module _ (R : RattleType) (w : ℕ) where
  each-wide : (m : List (List R.Denot)) (us : List Val) (i : ℕ) → shadow (each (List R.Denot) (Array R w).own_val m us) → i < length m → length (get_or m i []) ≡ w
  each-wide [] us i p h = absurd (omega arith)
  each-wide (x ∷ m) [] i p h = absurd p
  each-wide (x ∷ m) (u ∷ us) zero p h = p.0.1.0.1
  each-wide (x ∷ m) (u ∷ us) (suc i) p h = each-wide m us i p.1 (omega arith)

  pub wide : (n : ℕ) (m : List (List R.Denot)) (vs : List Val) (i : ℕ) → Is (Array (Array R w) n) m vs → i < n → length (get_or m i []) ≡ w
  wide n m vs i p h = each-wide m p.0 i p.1.1 (omega (arith, p.1.0.1))

-- Within the list the default is not read.
pub get_d_any : {A : Type 0} (l : List A) (i : ℕ) (x y : A) → i < length l → get_or l i x ≡ get_or l i y
get_d_any [] i x y h = absurd (omega arith)
get_d_any (z ∷ l) zero x y h = refl
get_d_any (z ∷ l) (suc i) x y h = get_d_any l i x y (omega arith)
