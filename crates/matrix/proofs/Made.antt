-- An array that is made by a function of the number lists what the function gives.
-- Assumes nothing.
use mathlib.Core.Path.{◌≡◌, sym, subst, ◌∙◌}
use mathlib.Core.List.{List, map}
use Prim.Native.Nat.{ℕ, zero, suc, ◌+◌, ◌<◌}
use native.Mathlib.Nat.{add-zero, zero-add}
use native.Mathlib.Omega.{arith}
use lib.ListN.{get_or}
use lib.Seq.{ext_get_or}
use Rattle.std.specs.Array.{IsFromFnResult, IsFromFnResultFrom}
use Rattle.std.specs.Fn.{Called, Mut}
use Rattle.spec.specs.Lists.{range}
use Rattle.laws.proofs.Lists.{get_d_table, length_table}

module _ {F B : Type 0} (g : Mut F (ℕ × Unit {0}) B) (f : F) (h : ℕ → B) (gives : (i : ℕ) (y : B) (q : F) → Called g f (i, tt) y q → (q ≡ f) × (y ≡ h i)) where
  entry-made : (ys : List B) (d : B) (i n j : ℕ) → j < n → IsFromFnResultFrom g f ys i n → get_or ys (i + j) d ≡ h (i + j)
  entry-made ys d i zero j k m = absurd (omega arith)
  entry-made ys d i (suc n) zero k m = rw add-zero (m.2.1 d ∙ (gives i m.1 m.0 m.3).1)
  entry-made ys d i (suc n) (suc j) k m =
      let e : i + suc j ≡ i + 1 + j = omega arith in
      rw e (entry-made ys d (i + 1) n j (omega arith) (subst (λ q. IsFromFnResultFrom g q ys (i + 1) n) (gives i m.1 m.0 m.3).0 m.4))

  pub made : (ys : List B) (n : ℕ) (d : B) → IsFromFnResult g f ys n → ys ≡ map h (range 0 n)
  made ys n d m =
      ext_get_or
      d
      ys
      (map h (range 0 n))
      (m.long ∙ sym (length_table h n))
      (λ j k. let e : j < n = omega (arith, m.long, k) in rw zero-add at (entry-made ys d 0 n j e m.each) ∙ sym (get_d_table h d n j e))
