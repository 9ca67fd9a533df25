-- In the loop of a projection, what is left of the basis gives what the whole gives.
-- Assumes nothing.
use mathlib.Core.Path.{◌≡◌, sym, ◌∙◌}
use mathlib.Core.List.{List, map}
use Prim.Native.Nat.{ℕ, suc, ◌+◌, ◌-◌, ◌*◌, ◌≤◌, ◌<◌}
use native.Mathlib.Nat.{add-sub_cancel_left}
use native.Mathlib.Numerals.{add-one}
use native.Mathlib.Omega.{arith}
use lib.ListN.{take, drop, length, length-drop}
use lib.Seq.{length-take-le}
use lib.Ieee.{Float}
use Rattle.spec.specs.Limits.{max_dimension}
use Rattle.spec.specs.Lists.{range}
use Rattle.spec.specs.Float.{plus, times, zip, dot}
use Rattle.spec.specs.Matrix.{Vector}
use Rattle.spec.specs.Hull.{along}
use Rattle.geometry.specs.Reading.{vector_at}

-- This is "q += b times ..", on one axis.
abbrev pub by : Float → Float → Float → Float
by s x y = plus x (times y s)

-- The point q is where the first k vectors of the basis b lead from q₀.
pub record Along (b : ℕ → Vector) (n : ℕ) (away q₀ q : Vector) (k : ℕ) : Type 0 where
  pub is : along away q (map b (range k (n - k))) ≡ along away q₀ (map b (range 0 n))

one_more : (b : ℕ → Vector) (n : ℕ) (away q : Vector) (k : ℕ) → k < n →
    along away q (map b (range k (n - k))) ≡ along away (zip (by (dot away (b k))) q (b k)) (map b (range (k + 1) (n - (k + 1))))
unfolding along range
one_more b n away q k h = let e : n - k ≡ suc (n - (k + 1)) = omega arith in rw (e, add-one k)

module _ {b : ℕ → Vector} {n : ℕ} {away q₀ : Vector} where
  pub next : {q r : Vector} {k : ℕ} {s : Float} → k < n → s ≡ dot away (b k) → r ≡ zip (by s) q (b k) → Along b n away q₀ q k → Along b n away q₀ r (k + 1)
  next {q} {r} {k} h es er w = record { is = rw (er, es) (sym (one_more b n away q k h) ∙ w.is) }

  pub end : {q : Vector} {k : ℕ} → n ≤ k → Along b n away q₀ q k → q ≡ along away q₀ (map b (range 0 n))
  unfolding along range
  end {q} {k} h w = let e : n - k ≡ 0 = omega arith in rw e at w.is

-- ---- the vectors of a flat basis

pub part_is : (d at : ℕ) (l : List Float) → take (at + d - at) (drop at l) ≡ take d (drop at l)
part_is d at l = rw (add-sub_cancel_left at d)

pub vector_long : (d k n : ℕ) (l : List Float) → d ≤ max_dimension → k < n → n ≤ max_dimension → length l ≡ max_dimension * max_dimension → length (vector_at d l k) ≡ d
vector_long d k n l hd hk hn e = length-take-le d (drop (k * max_dimension) l) (rw (length-drop (k * max_dimension) l) (omega arith))

-- This is what a turn makes of q, where the part b that is lent is the vector v.
pub moved_is : {d : ℕ} {b v : Vector} (q r : Vector) (s : Float) → b ≡ v → length v ≡ d →
    take (length b) r ≡ zip (by s) (take (length b) q) b → take d r ≡ zip (by s) (take d q) v
moved_is {d} {b} {v} q r s e n h =
    let m : take (length v) r ≡ zip (by s) (take (length v) q) v = rw e at h in
    rw n at m
