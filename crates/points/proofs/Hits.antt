-- A listed point that is near the point sought, where the points are lone, is found at its own number.
-- Assumes nothing.
use mathlib.Core.Path.{◌≡◌, refl, sym, ap, ◌∙◌}
use mathlib.Core.Bool.{Bool, true, false, true≢false}
use mathlib.Core.List.{List, []}
use Prim.Native.Nat.{ℕ, ◌*◌, ◌≤◌, ◌<◌}
use native.Mathlib.Omega.{arith}
use lib.ListN.{length, get_or, take, drop}
use lib.Ieee.{Float}
use Rattle.spec.specs.Matrix.{Vector}
use Rattle.spec.specs.Points.{near, find}
use Rattle.spec.specs.Lists.{parts}
use Rattle.points.specs.Guesses.{Lone}
use Rattle.points.proofs.Parts.{length-parts, part_at, part_long}
use Rattle.points.proofs.Nearness.{found_from, found_here}
use Rattle.points.proofs.Triangle.{near-triangle}

module _ (n d : ℕ) (l : List Float) (q : Vector) (k : ℕ) (low : k < n) (long : length q ≡ d) (room : n * d ≤ length l) (a : Lone (parts n d l))
    (near-k : near (take d (drop (k * d) l)) q ≡ true) where
  abbrev ps : List Vector
  ps = parts n d l

  many : length ps ≡ n
  many = length-parts n d l

  close : near (get_or ps k []) q ≡ true
  close = ap (λ (v : Vector). near v q) (part_at n d l k low) ∙ near-k

  wide : (j : ℕ) → j < n → length (get_or ps j []) ≡ length q
  wide j h = ap length (part_at n d l j h) ∙ part_long n d l j h room ∙ sym long

  no_lower : (j : ℕ) → j < k → (b : Bool) → near (get_or ps j []) q ≡ b → near (get_or ps j []) q ≡ false
  no_lower j i false e = e
  no_lower j i true e =
      let t = near-triangle (get_or ps j []) q (get_or ps k []) (omega (arith, wide j (omega arith))) e close in
      absurd (true≢false (sym t ∙ a.lone j k i (omega (arith, many))))

  pub lone_number : k ≡ find ps q
  lone_number = found_here (omega (arith, many)) (found_from k (omega (arith, many)) (λ j i. no_lower j i (near (get_or ps j []) q) refl)) close
