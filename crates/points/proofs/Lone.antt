-- These loops find no two points within 2 ^ -22 on every axis: one axis that is not tells two points apart, point by point.
-- Assumes nothing.
use mathlib.Core.Path.{◌≡◌, sym, ap, ap₂, ◌∙◌}
use mathlib.Core.Bool.{Bool, true, false}
use mathlib.Core.List.{List}
use Prim.Native.Nat.{ℕ, ◌+◌, ◌*◌, ◌≤◌, ◌<◌}
use native.Mathlib.Nat.{zero-add}
use native.Mathlib.Omega.{arith}
use lib.ListN.{length, get_or, take, drop, replicate, get_or-replicate}
use lib.Ieee.{Float}
use Rattle.std.specs.Bool.{MatchBool}
use Rattle.std.specs.List.{AllWithin, range_with_len}
use Rattle.std.proofs.lemmas.List.FromFn.{length-range_with_len, get_or-range_with_len}
use Rattle.spec.specs.Limits.{max_count}
use Rattle.spec.specs.Matrix.{Vector}
use Rattle.spec.specs.Lists.{parts}
use Rattle.points.proofs.Parts.{length-parts, part_at}
use Rattle.points.proofs.Nearness.{within-part}
use Rattle.points.specs.Guesses.{wide_f, within, Clear, Lone, places, free, Guesses}

-- A comparison of two points tells this, where p is point j and q is point k as the code has them.
pub far-part : (d : ℕ) (l : List Float) (j k : ℕ) (p q : Vector) → j * d + d ≤ length l → p ≡ take d (drop (j * d) l) → take d q ≡ take d (drop (k * d) l)
    → within wide_f p (take (length p) q) ≡ false → within wide_f (take d (drop (j * d) l)) (take d (drop (k * d) l)) ≡ false
far-part d l j k p q h e f t = ap (within wide_f (take d (drop (j * d) l))) (sym f) ∙ sym (within-part wide_f d l q j p h e) ∙ t

-- A test of every number below n that has passed says this of each.
pub all_below : (P : ℕ → Type 0) (Q : Type 0) (n : ℕ) {r : Bool} → (let l = range_with_len 0 n in MatchBool r (AllWithin P l 0 (length l)) Q) → r ≡ true
    → (k : ℕ) → k < n → P k
all_below P Q n h e k m =
    let all : AllWithin P (range_with_len 0 n) 0 (length (range_with_len 0 n)) = rw e at h in
    let same : get_or (range_with_len 0 n) k 0 ≡ k = get_or-range_with_len 0 n k 0 m ∙ zero-add k in
    rw same at (all k 0 (omega arith) (rw (length-range_with_len 0 n) m))

-- The points are lone where each is clear of those before it.
pub each_lone : (n : ℕ) → {d : ℕ} {l : List Float} → ((k : ℕ) → k < n → Clear d l k k) → Lone (parts n d l)
each_lone n {d} {l} s = record {
  lone = λ j k a b.
      let t : k < n = omega (arith, length-parts n d l) in
      ap₂ (within wide_f) (part_at n d l j (omega arith)) (part_at n d l k t) ∙ (s k t).clear j a;
}

-- An empty table tells nothing of the points.
pub guesses_none : (ps : List Vector) → length ps ≤ max_count → Guesses ps (replicate places free)
guesses_none ps h = record { lone = λ i k l. absurd (omega (arith, get_or-replicate places i free 0 k)) }
