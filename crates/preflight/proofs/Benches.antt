-- The bench gives room and small numbers to those that work on it, and stays a bench while its first words stay.
-- Assumes nothing.
use mathlib.Core.Path.{◌≡◌, refl, sym, ◌∙◌, ap}
use Prim.Native.Nat.{ℕ, zero, suc, ◌+◌, ◌*◌, ◌^◌, ◌≤◌, ◌<◌}
use mathlib.Core.List.{List}
use native.Mathlib.Nat.{mul-le-mul_left, le_refl}
use native.Mathlib.Omega.{arith}
use lib.ListN.{length, take, replicate, length-replicate}
use lib.Seq.{take-take}
use lib.Ieee.{Float}
use Rattle.spec.specs.Limits.{max_elements}
use Rattle.spec.specs.Types.{Solid, size, elements}
use Rattle.spec.specs.Float.{zero_f}
use Rattle.spec.specs.Solid.{entries, floats_for}
use Rattle.ranked.specs.declared.Shape.{Shape}
use Rattle.ranked.specs.Words.{total, lists_of, abs_in, Held}
use Rattle.preflight.specs.Derive.{pairs}
use Rattle.ranked.specs.Layout.{sub_entries, low_of, sup_entries_at, sub_lists_of}
use Rattle.preflight.specs.Bench.{Bench, Laid}
use Rattle.ranked.proofs.Low.{entries_0, entries_1, sub-entries_is}
use Rattle.ranked.proofs.Solids.{size_is}
use Rattle.ranked.proofs.Counted.{total_few, vertices_few}
use Rattle.ranked.proofs.Counted.{proper_few}
use Rattle.preflight.proofs.Entries.{pairs_are}

-- ---- the number of entries

module _ (sh : Shape) (w : List ℕ) (h : Held sh w) where
  abbrev s : Solid
  s = abs_in sh w

  subs_few : sub_entries sh (entries s) ≤ 2 * elements s + entries s + 1
  subs_few = go sh.rank refl
    where
      go : (Q : ℕ) → sh.rank ≡ Q → sub_entries sh (entries s) ≤ 2 * elements s + entries s + 1
      go zero e = omega (arith, entries_0 sh (entries s) e)
      go (suc zero) e = omega (arith, entries_1 sh (entries s) e)
      go (suc (suc z)) e =
          omega (
            arith,
            sub-entries_is sh (entries s) z e,
            size_is sh w 1 (omega arith),
            size_is sh w (suc z) (omega arith),
            proper_few sh w h 1 (omega arith) (omega arith),
            proper_few sh w h (suc z) (omega arith) (omega arith),
          )

-- ---- the bench

module _ {sh : Shape} {ws : List ℕ} {fs : List Float} (b : Bench sh ws fs) where
  abbrev bench_solid : Solid
  bench_solid = abs_in sh (lists_of sh ws)

  pub sups_in_lem : sup_entries_at sh ≤ sh.low
  unfolding low_of
  sups_in_lem = omega (arith, b.low_is)

  -- All subs stand there, and as many sups after them.
  pub sups-end : sup_entries_at sh + length (pairs sh bench_solid) ≡ sh.low
  unfolding low_of
  sups-end = omega (arith, b.low_is, pairs_are sh (lists_of sh ws) b.held.sound b.held.filled)

  -- The coordinates lie in the floats.
  pub points_in : size bench_solid 1 * sh.dimension ≤ length fs
  points_in = omega (arith, mul-le-mul_left (size bench_solid 1) b.held.wide, vertices_few sh (lists_of sh ws) b.held, b.floats)

  -- There are two words for each element, and one for each vertex, after the solid's own.
  pub rows_in : sh.low + 2 * total sh + size bench_solid 1 ≤ length ws
  unfolding low_of
  rows_in =
      omega (
        arith,
        b.low_is,
        total_few sh (lists_of sh ws) b.held,
        vertices_few sh (lists_of sh ws) b.held,
        subs_few sh (lists_of sh ws) b.held,
        b.words,
      )

  pub elements_few : total sh ≤ max_elements
  elements_few = b.stored.small

  pub low_small : sh.low < 2 ^ 32
  unfolding low_of
  low_small =
      let p : length (pairs sh bench_solid) < 2 ^ 30 = rw b.subs_alone at b.stored.entries in
      omega (arith, b.low_is, pairs_are sh (lists_of sh ws) b.held.sound b.held.filled, elements_few)

-- The bench stays, whatever else changes.
pub bench_kept : {sh : Shape} {ws vs : List ℕ} {fs gs : List Float} → Bench sh ws fs → lists_of sh vs ≡ lists_of sh ws → length vs ≡ length ws
    → length gs ≡ length fs → Bench sh vs gs
bench_kept {sh} {ws} {vs} {fs} {gs} b e l m = record {
  held = rw e b.held;
  low_is = rw e b.low_is;
  words_in = rw l b.words_in;
  stored = rw same b.stored;
  subs_alone = rw (e, same) b.subs_alone;
  joined = rw e b.joined;
  diamonds = rw e b.diamonds;
  words = rw (e, l) b.words;
  floats = rw (e, m) b.floats;
}
  where
    same : sub_lists_of sh vs ≡ sub_lists_of sh ws
    same =
        let n = sup_entries_at sh in
        sym (take-take n sh.low vs (sups_in_lem b)) ∙ ap (take n) e ∙ take-take n sh.low ws (sups_in_lem b)

-- ---- the words' part

pub laid : {sh : Shape} {ws : List ℕ} {fs : List Float} → Bench sh ws fs → Laid sh ws
laid b = λ gs k. record {
  held = b.held;
  low_is = b.low_is;
  words_in = b.words_in;
  stored = b.stored;
  subs_alone = b.subs_alone;
  joined = b.joined;
  diamonds = b.diamonds;
  words = b.words;
  floats = k;
}

-- There is a bench of just enough floats.
pub some_bench : (sh : Shape) (ws : List ℕ) → Laid sh ws → Bench sh ws (replicate (floats_for (elements (abs_in sh (lists_of sh ws)))) zero_f)
some_bench sh ws l =
    let n = floats_for (elements (abs_in sh (lists_of sh ws))) in
    l (replicate n zero_f) (rw length-replicate (le_refl n))
