-- The answer of a call of copying goes by the outputs' lengths and not by what they hold.
-- Assumes nothing.
use Rattle.std.specs.Prelude.{Err, Ok}
use mathlib.Core.Path.{◌≡◌, refl, sym, ap, ◌∙◌}
use mathlib.Core.Bool.{Bool, true, false, ◌&&◌}
use mathlib.Core.List.{List}
use Prim.Native.Nat.{ℕ, ◌*◌, ◌/◌, min}
use lib.ListN.{length, take, replicate, length-replicate}
use lib.Dec.{eqb, leb}
use lib.Ieee.{Float}
use Rattle.spec.specs.declared.Refusal.TheVariants.{ShortSheet, Open}
use Rattle.spec.specs.Refusal.{Answer, refused_with}
use Rattle.spec.specs.Limits.{max_count}
use Rattle.spec.specs.Lists.{join, holds, written}
use Rattle.spec.specs.Float.{zero_f}
use Rattle.spec.specs.Judged.{Judged}
use Rattle.spec.specs.Matrix.{Vector, Matrix}
use Rattle.spec.specs.Copying.{copies, points, matrices, copy_table, judge_copy, copy_out, copy_call, no_image}

abbrev Out : Type 0
Out = Answer × List Float × List ℕ

-- This is the answer, as the number of cells in the output of rows decides it.
abbrev answer : ℕ → List Matrix → List Vector → ℕ → Answer
answer n ms cs k = elim (leb (length cs) n && leb (length ms * length cs) k) as (λ _. Answer) [
  | false ↦ refused_with ShortSheet (length (take n cs))
  | true ↦ elim (holds eqb (length cs) (copy_table ms cs)) as (λ _. Answer) [ true ↦ refused_with Open (length (take n cs)) | false ↦ Ok (length cs) ]
]

out-answer : (n : ℕ) (ms : List Matrix) (cs : List Vector) (o : List Float) (t : List ℕ) → (copy_out n ms cs o t).0 ≡ answer n ms cs (length t)
unfolding copy_out
out-answer n ms cs o t = go (leb (length cs) n && leb (length ms * length cs) (length t)) (holds eqb (length cs) (copy_table ms cs))
  where
    go : (b c : Bool) →
        (elim b as (λ _. Out) [
          | false ↦ (refused_with ShortSheet (length (take n cs)), written (join (take n cs)) o, t)
          | true ↦ elim c as (λ _. Out) [
            | true ↦ (refused_with Open (length (take n cs)), written (join (take n cs)) o, written (replicate (length ms * length cs) no_image) t)
            | false ↦ (Ok (length cs), written (join (take n cs)) o, written (copy_table ms cs) t)
          ]
        ]).0
        ≡ elim b as (λ _. Answer) [
          | false ↦ refused_with ShortSheet (length (take n cs))
          | true ↦ elim c as (λ _. Answer) [ true ↦ refused_with Open (length (take n cs)) | false ↦ Ok (length cs) ]
        ]
    go false c = refl
    go true true = refl
    go true false = refl

out_same : (n : ℕ) (ms : List Matrix) (cs : List Vector) (o o' : List Float) (t t' : List ℕ) → length t ≡ length t' →
    (copy_out n ms cs o t).0 ≡ (copy_out n ms cs o' t').0
out_same n ms cs o o' t t' e = out-answer n ms cs o t ∙ ap (answer n ms cs) e ∙ sym (out-answer n ms cs o' t')

pub call_same : (d : ℕ) (ps ts o o' : List Float) (t t' : List ℕ) → length o ≡ length o' → length t ≡ length t' →
    (copy_call d ps ts o t).0 ≡ (copy_call d ps ts o' t').0
unfolding copy_call
call_same d ps ts o o' t t' e f = go (judge_copy d ps ts)
  where
    go : (j : Judged (Unit {0})) →
        (elim j as (λ _. Out) [ Err why ↦ (refused_with why 0, o, t) | Ok u ↦ copy_out (min max_count (length o / d)) (matrices d ts) (copies (matrices d ts) (points d ps)) o t ]).0
        ≡ (elim j as (λ _. Out) [ Err why ↦ (refused_with why 0, o', t') | Ok u ↦ copy_out (min max_count (length o' / d)) (matrices d ts) (copies (matrices d ts) (points d ps)) o' t' ]).0
    go (Err why) = refl
    go (Ok u) = rw e (out_same (min max_count (length o' / d)) (matrices d ts) (copies (matrices d ts) (points d ps)) o o' t t' f)

-- So outputs of zeros tell the answer for any with room for n points and 48 rows.
pub call_zeros : (d n : ℕ) (ps ts o : List Float) (t : List ℕ) → length o ≡ d * n → length t ≡ 48 * n →
    (copy_call d ps ts o t).0 ≡ (copy_call d ps ts (replicate (d * n) zero_f) (replicate (48 * n) 0)).0
call_zeros d n ps ts o t e f =
    call_same d ps ts o (replicate (d * n) zero_f) t (replicate (48 * n) 0) (e ∙ sym (length-replicate (d * n) zero_f)) (f ∙ sym (length-replicate (48 * n) 0))
