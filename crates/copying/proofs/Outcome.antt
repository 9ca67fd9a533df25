-- This file gives the answer and the two outputs together, for each way through the call.
-- Assumes nothing.
use Rattle.std.specs.Prelude.{Err, Ok}
use mathlib.Core.Path.{◌≡◌, sym, ap, ap₂, ◌∙◌}
use mathlib.Core.Bool.{true, false, ◌&&◌}
use mathlib.Core.List.{List, ◌++◌}
use Prim.Native.Nat.{ℕ, zero, suc, ◌+◌, ◌*◌, ◌/◌, ◌%◌, ◌≤◌, ◌<◌, min}
use native.Mathlib.Nat.{mul_comm, zero-mul, div-lt_iff_lt-mul, le-div_iff_mul-le, div-add-mod', div-mul-le_self, le_trans, mul-le-mul_right}
use native.Mathlib.Omega.{arith}
use lib.ListN.{length, take, drop, replicate}
use lib.Seq.{take_all, length-take-le}
use lib.Dec.{eqb, leb}
use lib.Ieee.{Float}
use borrow.Author.Tests.{le-leb, lt-leb}
use Rattle.spec.specs.declared.Refusal.{Refusal}
use Rattle.spec.specs.declared.Refusal.TheVariants.{ShortSheet, Open}
use Rattle.spec.specs.Refusal.{refused_with}
use Rattle.spec.specs.Limits.{max_count}
use Rattle.spec.specs.Lists.{join, holds, written}
use Rattle.spec.specs.Matrix.{Vector, Matrix}
use Rattle.spec.specs.Copying
use Rattle.spec.specs.Copying.{copies, matrices, copy_table, judge_copy, copy_out, copy_call, no_image}
use Rattle.laws.proofs.CopyLaws.{table_length}
use Rattle.points.proofs.Parts.{length-parts}
use Rattle.copying.proofs.Tables.{filled_is}
use Rattle.points.specs.Cells.{AllFound, SomeMissing}
use Rattle.copying.specs.Post.{Fitting, Overfull}

module _ (n : ℕ) (ms : List Matrix) (cs : List Vector) (points : List Float) (table : List ℕ) where
  abbrev cells : ℕ
  cells = length ms * length cs

  -- The definition has three branches, and each lemma gives one of them.
  short : (leb (length cs) n && leb cells (length table)) ≡ false
      → (refused_with ShortSheet (length (take n cs)), written (join (take n cs)) points, table) ≡ copy_out n ms cs points table
  unfolding copy_out
  short e = rw (e, copy_out)

  opened : (leb (length cs) n && leb cells (length table)) ≡ true → holds eqb (length cs) (copy_table ms cs) ≡ true
      → (refused_with Open (length (take n cs)), written (join (take n cs)) points, written (replicate cells no_image) table) ≡ copy_out n ms cs points table
  unfolding copy_out
  opened e f = rw (e, f, copy_out)

  done : (leb (length cs) n && leb cells (length table)) ≡ true → holds eqb (length cs) (copy_table ms cs) ≡ false
      → (Ok (length cs), written (join (take n cs)) points, written (copy_table ms cs) table) ≡ copy_out n ms cs points table
  unfolding copy_out
  done e f = rw (e, f, copy_out)

  -- There are more points than there is room for.
  pub answer-full : {after : List Float} → Overfull n cs points after → (refused_with ShortSheet n, after, table) ≡ copy_out n ms cs points table
  answer-full o =
      let k : length (take n cs) ≡ n = length-take-le n cs (omega (arith, o.more)) in
      ap₂ (λ (a : ℕ) (b : List Float). (refused_with ShortSheet a, b, table)) (sym k) o.is
      ∙ short (rw (lt-leb (length cs) n o.more))

  module _ {d m : ℕ} {after : List Float} (f : Fitting d n cs points after m) where
    count : length cs ≡ m
    count = ap length (sym f.read) ∙ length-parts m d after

    within : leb (length cs) n ≡ true
    within = le-leb (length cs) n (omega (arith, count, f.room))

    kept : take n cs ≡ cs
    kept = take_all n cs (omega (arith, count, f.room))

    kept-count : m ≡ length (take n cs)
    kept-count = sym (ap length kept ∙ count)

    points_are : after ≡ written (join (take n cs)) points
    points_are = f.is ∙ ap (λ (x : List Vector). written (join x) points) (sym kept)

    size : length ms * m ≡ cells
    size = ap (λ (x : ℕ). length ms * x) (sym count)

    -- There are more cells than there is room for.
    pub answer_short : length table < length ms * m → (refused_with ShortSheet m, after, table) ≡ copy_out n ms cs points table
    answer_short h =
        ap₂ (λ (a : ℕ) (b : List Float). (refused_with ShortSheet a, b, table)) kept-count points_are
        ∙ short (rw (within, lt-leb cells (length table) (omega (arith, h, size))))

    module _ (h : length ms * m ≤ length table) where
      room : (leb (length cs) n && leb cells (length table)) ≡ true
      room = rw (within, le-leb cells (length table) (omega (arith, h, size)))

      pub answer-done : {t : List ℕ} → AllFound m (copy_table ms cs) table t → (Ok m, after, t) ≡ copy_out n ms cs points table
      answer-done {t} c =
          ap (λ (a : ℕ). (Ok a, after, t)) (sym count)
          ∙ ap₂ (λ (a : List Float) (b : List ℕ). (Ok (length cs), a, b)) points_are c.is
          ∙ done room (ap (λ (a : ℕ). holds eqb a (copy_table ms cs)) count ∙ c.none)

      -- The table is filled over whatever of it was written.
      pub answer_open : {t : List ℕ} → SomeMissing m (copy_table ms cs) table t → (refused_with Open m, after, written (replicate (length ms * m) no_image) t) ≡ copy_out n ms cs points table
      answer_open {t} o =
          ap (λ (a : ℕ). (refused_with Open a, after, written (replicate (length ms * m) no_image) t)) kept-count
          ∙ ap₂ (λ (a : List Float) (b : List ℕ). (refused_with Open (length (take n cs)), a, b)) points_are filled
          ∙ opened room (ap (λ (a : ℕ). holds eqb a (copy_table ms cs)) count ∙ o.some)
        where
          past : drop cells t ≡ drop cells table
          past = rw (table_length ms cs) at o.past

          filled : written (replicate (length ms * m) no_image) t ≡ written (replicate cells no_image) table
          filled =
              ap (λ (k : ℕ). written (replicate k no_image) t) size
              ∙ sym (filled_is cells no_image t)
              ∙ ap (λ (l : List ℕ). replicate cells no_image ++ l) past
              ∙ filled_is cells no_image table

-- ---- compared by division, since a product can exceed a word

pub too_few : (l k n : ℕ) → 0 < k → l / k < n → l < k * n
too_few l k n h e = rw (mul_comm k n) ((div-lt_iff_lt-mul {k = k} {x = l} {y = n} h).0 e)

pub enough : (l k n : ℕ) → 0 < k → n ≤ l / k → k * n ≤ l
enough l k n h e = rw (mul_comm k n) ((le-div_iff_mul-le {k = k} {x = n} {y = l} h).0 e)

-- The points that fit, d floats each, take no more than the l cells that there are.
pub room_fits : (l d : ℕ) → min max_count (l / d) * d ≤ l
room_fits l d = le_trans (mul-le-mul_right d (omega arith)) (div-mul-le_self l d)

-- A slice that is not empty holds at least one matrix.
pub some_matrices : (d l : ℕ) → l % d ≡ 0 → 0 < l → 0 < l / d
some_matrices d l e h = go (l / d) (div-add-mod' l d)
  where
    go : (q : ℕ) → q * d + l % d ≡ l → 0 < q
    go zero f = absurd (omega (arith, f, e, zero-mul d))
    go (suc q) f = omega arith

-- ---- the whole call

module _ (d : ℕ) (ps ts points : List Float) (table : List ℕ) where
  pub call-refused : (why : Refusal) → judge_copy d ps ts ≡ Err why → (refused_with why 0, points, table) ≡ copy_call d ps ts points table
  unfolding copy_call
  call-refused why e = rw (e, copy_call)

  pub call_passed : judge_copy d ps ts ≡ Ok tt →
      copy_out (min max_count (length points / d)) (matrices d ts) (copies (matrices d ts) (Copying.points d ps)) points table ≡ copy_call d ps ts points table
  unfolding copy_call
  call_passed e = rw (e, copy_call)
