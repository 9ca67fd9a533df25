-- The floats that preflight asks for are room for the coordinates, the list and the classes.
-- Assumes nothing.
use mathlib.Core.List.{List}
use Prim.Native.Nat.{ℕ, ◌+◌, ◌≤◌}
use native.Mathlib.Nat.{mul-le-mul_left}
use native.Mathlib.Omega.{arith}
use Rattle.spec.specs.Solid.{floats_for}
use Rattle.spec.specs.Types.{elements}
use Rattle.ranked.specs.declared.Shape.{Shape}
use Rattle.ranked.specs.Words.{size_at, abs_in, Held}
use Rattle.ranked.specs.Layout.{proper, classes_at}
use Rattle.ranked.proofs.Solids.{sizes_are}
use Rattle.ranked.proofs.Counted.{vertices_few}
use Rattle.ranked.proofs.Counted.{proper_is}

module _ (sh : Shape) (w : List ℕ) (h : Held sh w) where
  -- The room of "8 times (E+8) floats" holds the coordinates, the list and the classes.
  pub roomy-floats : (n : ℕ) → floats_for (elements (abs_in sh w)) ≤ n → classes_at sh + proper sh ≤ n
  roomy-floats n k =
      let a = mul-le-mul_left (size_at sh 1) h.wide in
      let b = vertices_few sh w h in
      omega (arith, sizes_are sh w h 1, proper_is sh w h)
