-- In the loop that looks for a pivot, what is left to scan gives what the whole scan gives.
-- Assumes nothing.
use mathlib.Core.Path.{◌≡◌, sym, ◌∙◌}
use mathlib.Core.Bool.{true, false}
use mathlib.Core.List.{List, ◌∷◌}
use Prim.Native.Nat.{ℕ, suc, ◌+◌, ◌-◌, ◌<◌, ◌≤◌}
use native.Mathlib.Numerals.{add-one}
use native.Mathlib.Omega.{arith}
use lib.ListN.{length}
use lib.Ieee.{Float, lt}
use Rattle.spec.specs.Lists.{range}
use Rattle.spec.specs.Float.{abs_f}
use Rattle.spec.specs.Matrix.{Matrix, entry, scan, pivot_row}

-- Row p is the pivot of the rows before r.
pub record Scanned (a : Matrix) (d c p r : ℕ) : Type 0 where
  pub is : scan a c p (range r (d - r)) ≡ pivot_row a c

module _ (a : Matrix) (c p r : ℕ) (rs : List ℕ) where
  scan_larger : lt (abs_f (entry a p c)) (abs_f (entry a r c)) ≡ true → scan a c p (r ∷ rs) ≡ scan a c r rs
  unfolding scan
  scan_larger t = rw (t, scan)

  scan_on : lt (abs_f (entry a p c)) (abs_f (entry a r c)) ≡ false → scan a c p (r ∷ rs) ≡ scan a c p rs
  unfolding scan
  scan_on t = rw (t, scan)

module _ {a : Matrix} {d c : ℕ} where
  pub first : length a ≡ d → Scanned a d c c (c + 1)
  unfolding pivot_row
  first e = record { is = rw (add-one, e) }

  module _ {p r : ℕ} (u v : Float) (h : r < d) (eu : u ≡ abs_f (entry a p c)) (ev : v ≡ abs_f (entry a r c)) (s : Scanned a d c p r) where
    turn : scan a c p (range r (d - r)) ≡ scan a c p (r ∷ range (r + 1) (d - (r + 1)))
    unfolding range
    turn = let k : d - r ≡ suc (d - (r + 1)) = omega arith in rw (k, add-one r)

    pub larger : lt u v ≡ true → Scanned a d c r (r + 1)
    larger t = record { is = sym (turn ∙ scan_larger a c p r _ (rw (eu, ev) at t)) ∙ s.is }

    pub not_larger : lt u v ≡ false → Scanned a d c p (r + 1)
    not_larger t = record { is = sym (turn ∙ scan_on a c p r _ (rw (eu, ev) at t)) ∙ s.is }

  pub end : {p r : ℕ} → d ≤ r → Scanned a d c p r → p ≡ pivot_row a c
  unfolding scan range
  end {p} {r} h s = let k : d - r ≡ 0 = omega arith in rw k at s.is
