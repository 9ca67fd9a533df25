-- No answer counts more than 2,048 copies, or 2,048 types a rank, so that its code fits 64 bits.
-- Assumes nothing.
use Rattle.std.specs.Prelude.{Err, Ok}
use mathlib.Core.Path.{◌≡◌, refl}
use mathlib.Core.Bool.{Bool, true, false, ◌&&◌}
use mathlib.Core.List.{List}
use Prim.Native.Nat.{ℕ, ◌*◌, ◌/◌, ◌^◌, ◌≤◌, ◌<◌, min}
use native.Mathlib.Omega.{arith}
use lib.ListN.{length, take, replicate, length-take}
use lib.Dec.{eqb, leb}
use lib.Ieee.{Float}
use Rattle.spec.specs.declared.Refusal.TheVariants.{ShortSheet, Open}
use Rattle.spec.specs.Refusal.{answer_count, Answer, refused_with}
use Rattle.spec.specs.Limits.{max_count}
use Rattle.spec.specs.Judged.{Judged}
use Rattle.spec.specs.Lists.{holds, join, written}
use Rattle.spec.specs.Matrix.{Vector, Matrix}
use Rattle.spec.specs.Calls.{TypesOut, types_call}
use Rattle.spec.specs.Copying.{copies, points, matrices, copy_table, judge_copy, copy_out, copy_call, no_image}
use Rattle.laws.proofs.Accepted.{le_test}
use Rattle.types.proofs.Few.{call-count}

pub types-count : (b : List ℕ) (words floats : ℕ) (old : TypesOut) → answer_count (types_call b words floats old).0 < 2 ^ 32
types-count b words floats old = omega (arith, call-count b words floats old)

module _ (n : ℕ) (ms : List Matrix) (cs : List Vector) (out_points : List Float) (out_table : List ℕ) where
  abbrev cells : ℕ
  cells = length ms * length cs

  abbrev CountWithin : Answer × List Float × List ℕ → Type 0
  CountWithin o = answer_count o.0 ≤ n

  out-count : CountWithin (copy_out n ms cs out_points out_table)
  unfolding copy_out
  out-count = go (leb (length cs) n) refl (leb cells (length out_table)) (holds eqb (length cs) (copy_table ms cs))
    where
      go : (a : Bool) → leb (length cs) n ≡ a → (b c : Bool) → CountWithin (elim (a && b) [
        | false ↦ (refused_with ShortSheet (length (take n cs)), written (join (take n cs)) out_points, out_table)
        | true ↦ elim c [
          | true ↦ (refused_with Open (length (take n cs)), written (join (take n cs)) out_points, written (replicate cells no_image) out_table)
          | false ↦ (Ok (length cs), written (join (take n cs)) out_points, written (copy_table ms cs) out_table)
        ]
      ])
      go false p b c = omega (arith, length-take n cs)
      go true p false c = omega (arith, length-take n cs)
      go true p true true = omega (arith, length-take n cs)
      go true p true false = le_test (length cs) n p

pub copy-count : (d : ℕ) (ps ts out_points : List Float) (out_table : List ℕ) → answer_count (copy_call d ps ts out_points out_table).0 < 2 ^ 32
unfolding copy_call
copy-count d ps ts out_points out_table = go (judge_copy d ps ts)
  where
    room : ℕ
    room = min max_count (length out_points / d)

    ms : List Matrix
    ms = matrices d ts

    cs : List Vector
    cs = copies ms (points d ps)

    CodeFits : Answer × List Float × List ℕ → Type 0
    CodeFits o = answer_count o.0 < 2 ^ 32

    go : (j : Judged (Unit {0})) → CodeFits (elim j [
      | Err why ↦ (refused_with why 0, out_points, out_table)
      | Ok u ↦ copy_out room ms cs out_points out_table
    ])
    go (Err why) = omega arith
    go (Ok u) = omega (arith, out-count room ms cs out_points out_table)
