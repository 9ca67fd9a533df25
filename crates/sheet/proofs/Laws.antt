-- Callers use this of a judgement: of a sheet that passes, the header's E and I are those of its solid, and they are small.
-- Assumes nothing.
use Rattle.std.specs.Prelude.{Err, Ok, IsOk, IfOk}
use mathlib.Core.Bool.{false≢true}
use mathlib.Core.Path.{◌≡◌, refl, sym, ◌∙◌, ap, subst}
use mathlib.Core.Logic.{inl, inr}
use Prim.Native.Nat.{ℕ, zero, suc, ◌+◌, ◌-◌, ◌*◌, ◌≤◌, ◌<◌}
use native.Mathlib.Nat.{le_trans, mul-suc, mul-le-mul_left}
use native.Mathlib.Omega.{arith}
use mathlib.Core.List.{List, [], ◌∷◌, ◌++◌, map}
use lib.ListN.{length, get_or, drop, replicate, length-append, length-replicate}
use lib.Dec.{lit≤}
use Rattle.spec.specs.declared.Refusal.{Refusal}
use Rattle.spec.specs.Limits.{max_rank, max_dimension, max_count, max_entries, max_proper, max_stored}
use Rattle.spec.specs.Bits.{field}
use Rattle.spec.specs.Lists.{In, range, sum}
use Rattle.spec.specs.Judged.{Judged}
use Rattle.laws.proofs.Accepted.{same, bound_by, times-read, times-each, rank-read, dimension-read, count-read}
use Rattle.laws.proofs.Accepted as accepted
use Rattle.spec.specs.Sheet.{Parsed, done, count, list, lists_at, lists, read_sheet}
use Rattle.spec.specs.Types.{Solid, top, size, proper_ranks, elements}
use Rattle.spec.specs.Solid.{proper_lists, with_top, solid_of, entries}
use Rattle.sheet.specs.declared.Header.{Header}
use Rattle.sheet.specs.Judge.{proper, padded, rank_entries, all_entries, map_ok, header_of}
use Rattle.sheet.proofs.Readers.{refused_of, passed_of, rank-size}
use Rattle.sheet.proofs.Made.{padded_small}

-- ---- sums over ranks

map_range : (f : ℕ → ℕ) (a n : ℕ) → map f (range (suc a) n) ≡ map (λ r. f (suc r)) (range a n)
unfolding range
map_range f a zero = refl
map_range f a (suc n) = ap (λ l. f (suc a) ∷ l) (map_range f (suc a) n)

-- The sum of g over the ranks q does not go by what follows them.
over : (g : List (List ℕ) → ℕ) (q t : Solid) → sum (map (λ r. g (get_or (q ++ t) r [])) (range 0 (length q))) ≡ sum (map g q)
unfolding range sum
over g [] t = refl
over g (x ∷ q) t =
    ap (λ z. g x + sum z) (map_range (λ r. g (get_or (x ∷ (q ++ t)) r [])) 0 (length q)) ∙ ap (λ z. g x + z) (over g q t)

-- The proper ranks tell E and I of a solid.
tall : (q t : Solid) → length t ≡ 1 → top (([] ∷ []) ∷ (q ++ t)) ≡ length q + 1
tall q t e = let h = length-append q t in omega arith

elements-of : (q t : Solid) → length t ≡ 1 → elements (([] ∷ []) ∷ (q ++ t)) ≡ sum (map length q)
unfolding elements proper_ranks
elements-of q t e =
    let h = tall q t e in
    let n : top (([] ∷ []) ∷ (q ++ t)) - 1 ≡ length q = omega arith in
    ap (λ k. sum (map (λ r. size (([] ∷ []) ∷ (q ++ t)) r) (range 1 k))) n
    ∙ ap sum (map_range (λ r. size (([] ∷ []) ∷ (q ++ t)) r) 0 (length q))
    ∙ over length q t

entries-of : (x : List (List ℕ)) (q t : Solid) → length t ≡ 1 → entries (([] ∷ []) ∷ x ∷ (q ++ t)) ≡ all_entries q
unfolding entries all_entries rank_entries
entries-of x q t e =
    let h = length-append q t in
    let n : top (([] ∷ []) ∷ x ∷ (q ++ t)) - 2 ≡ length q = omega arith in
    let f : ℕ → ℕ = λ r. sum (map length (get_or (([] ∷ []) ∷ x ∷ (q ++ t)) r [])) in
    ap (λ k. sum (map f (range 2 k))) n
    ∙ ap sum (map_range f 1 (length q))
    ∙ ap sum (map_range (λ r. f (suc r)) 0 (length q))
    ∙ over (λ ls. sum (map length ls)) q t

-- ---- what was read

rank-count : (b : List ℕ) (c n used i : ℕ) (y : List (List ℕ) × ℕ) → lists_at b c n used i ≡ Ok y → length y.0 ≡ n
unfolding lists_at done
rank-count b c zero used i y e = ap (λ z. length z.0) (sym (same ([], i) y e))
rank-count b c (suc n) used i y e =
    let h₁ = bound_by (list b c used) _ i y e in
    let h₂ = bound_by (lists_at b c n (used + length h₁.0.0)) _ _ y h₁.2 in
    ap (λ z. length z.0) (sym (same _ y h₂.2)) ∙ ap suc (rank-count b c n (used + length h₁.0.0) _ h₂.0 h₂.1)

-- Each rank has as many lists as its count says, and few enough entries.
record RanksCounted (l : List ℕ) (ls : List (List (List ℕ))) : Type 0 where
  sizes : map length ls ≡ drop 1 l
  small : all_entries ls ≤ max_entries * (length l - 1)

ranks-read : (b l : List ℕ) (i : ℕ) (y : List (List (List ℕ)) × ℕ) → lists b l i ≡ Ok y → RanksCounted l y.0
unfolding lists done all_entries sum
ranks-read b [] i y e = subst (λ (z : List (List (List ℕ)) × ℕ). RanksCounted [] z.0) (same ([], i) y e) (record { sizes = refl; small = omega arith })
ranks-read b (c ∷ []) i y e = subst (λ (z : List (List (List ℕ)) × ℕ). RanksCounted (c ∷ []) z.0) (same ([], i) y e) (record { sizes = refl; small = omega arith })
ranks-read b (c ∷ d ∷ l) i y e =
    let h₁ = bound_by (lists_at b c d 0) _ i y e in
    let h₂ = bound_by (lists b (d ∷ l)) _ _ y h₁.2 in
    let r = ranks-read b (d ∷ l) _ h₂.0 h₂.1 in
    let s = (rank-size b c d 0 i h₁.0 (lit≤ tt) h₁.1).0 in
    subst (λ (z : List (List (List ℕ)) × ℕ). RanksCounted (c ∷ d ∷ l) z.0) (same _ y h₂.2) (record {
      sizes = ap (λ k. k ∷ map length h₂.0.0) (rank-count b c d 0 i h₁.0 h₁.1) ∙ ap (λ z. d ∷ z) r.sizes;
      small = more (rank_entries h₁.0.0) (all_entries h₂.0.0) (length l) s r.small;
    })
  where
    more : (a u n : ℕ) → 0 + a ≤ max_entries → u ≤ max_entries * (suc n - 1) → a + u ≤ max_entries * (suc (suc n) - 1)
    more a u n h g = omega arith

-- A sheet that passes has these numbers and lists.
record Said (p : Parsed) : Type 0 where
  low : p.rank ≤ max_rank
  flat : p.dimension ≤ max_dimension
  few : length p.counts ≡ p.rank - 1
  each : (n : ℕ) → In n p.counts → n ≤ max_count
  ranks : RanksCounted p.counts p.lists

said : (b : List ℕ) (p : Parsed) → read_sheet b ≡ Ok p → Said p
said b p e =
    let h = accepted.parts-read b p e in
    record {
      low = rank-read b 0 (p.rank, h.dimension-at) h.rank_is;
      flat = dimension-read b h.dimension-at (p.dimension, h.counts-at) h.dimension_is;
      few = times-read (p.rank - 1) (count b) h.counts-at (p.counts, h.points-at) h.counts_are;
      each = λ n m. (times-each (λ n. (0 < n) × (n ≤ max_count)) (count b) (count-read b) (p.rank - 1) h.counts-at (p.counts, h.points-at) h.counts_are n m).1;
      ranks = ranks-read b p.counts h.lists_at (p.lists, h.end-at) h.lists_are;
    }

-- ---- the laws

-- The solid's ranks are told by R and the counts.
module _ (ls : List (List (List ℕ))) where
  solid_by : ℕ → List ℕ → Solid
  solid_by R counts = elim R as (λ z. Solid) [ zero ↦ ([] ∷ []) ∷ [] | suc r ↦ with_top (([] ∷ []) ∷ proper_lists counts ls) ]

  no_lists : map length ls ≡ [] → ls ≡ []
  no_lists = go ls
    where
      go : (l : List (List (List ℕ))) → map length l ≡ [] → l ≡ []
      go [] e = refl
      go (x ∷ l) e = absurd (let h = ap length e in omega arith)

  elements-by : (R : ℕ) (counts : List ℕ) → length counts ≡ R - 1 → map length ls ≡ drop 1 counts → elements (solid_by R counts) ≡ sum counts
  unfolding solid_by with_top proper_lists sum
  elements-by zero [] h e = unfold elements proper_ranks range in refl
  elements-by zero (c ∷ counts) h e = absurd (omega arith)
  elements-by (suc r) [] h e = elements-of [] _ refl
  elements-by (suc r) (c ∷ counts) h e = elements-of (replicate c (0 ∷ []) ∷ ls) _ refl ∙ ap (λ k. k + sum (map length ls)) (length-replicate c (0 ∷ [])) ∙ ap (λ z. c + sum z) e

  entries_by : (R : ℕ) (counts : List ℕ) → length counts ≡ R - 1 → map length ls ≡ drop 1 counts → entries (solid_by R counts) ≡ all_entries ls
  unfolding solid_by with_top proper_lists sum all_entries
  entries_by zero [] h e = unfold entries range in (ap all_entries (sym (no_lists e)))
  entries_by zero (c ∷ counts) h e = absurd (omega arith)
  entries_by (suc r) [] h e = unfold entries range in (ap all_entries (sym (no_lists e)))
  entries_by (suc r) (c ∷ counts) h e = entries-of (replicate c (0 ∷ [])) ls _ refl

-- Numbers of at most m add up to at most m times their count.
sum_small : (m : ℕ) (l : List ℕ) → ((n : ℕ) → In n l → n ≤ m) → sum l ≤ m * length l
unfolding sum
sum_small m [] h = omega arith
sum_small m (x ∷ l) h =
    let a = h x (inl refl) in
    let b = sum_small m l (λ n i. h n (inr i)) in
    let c : m * suc (length l) ≡ m * length l + m = mul-suc m (length l) in
    omega arith

-- A header's numbers are within the limits, so that what a caller works out of them fits.
pub record Small (h : Header) : Type 0 where
  pub rank : h.rank ≤ max_rank
  pub dimension : h.dimension ≤ max_dimension
  pub counts : (k : ℕ) → get_or h.counts k 0 ≤ max_count
  pub elements : h.elements ≤ max_proper
  pub entries : h.entries ≤ max_stored

module _ (b : List ℕ) (p : Parsed) (e : read_sheet b ≡ Ok p) where
  -- The header's E and I are the solid's.
  pub elements_is : elements (solid_of p) ≡ (header_of p).elements
  unfolding solid_of header_of solid_by
  elements_is = let s = said b p e in elements-by p.lists p.rank p.counts s.few s.ranks.sizes

  pub entries_is : entries (solid_of p) ≡ (header_of p).entries
  unfolding solid_of header_of solid_by
  entries_is = let s = said b p e in entries_by p.lists p.rank p.counts s.few s.ranks.sizes

  pub header_small : Small (header_of p)
  unfolding header_of padded
  header_small =
      let s = said b p e in
      let n : length p.counts ≤ proper = omega (arith, s.few, s.low) in
      let ranks : length p.counts - 1 ≤ max_rank - 2 = omega (arith, n) in
      record {
        rank = s.low;
        dimension = s.flat;
        counts = padded_small max_count (proper - length p.counts) p.counts s.each;
        elements = le_trans (sum_small max_count p.counts s.each) (mul-le-mul_left max_count n);
        entries = le_trans s.ranks.small (mul-le-mul_left max_entries ranks);
      }

-- ---- what an answer says of the sheet

module _ (b : List ℕ) where
  pub accepted_is : {h : Header} → Ok h ≡ map_ok header_of (read_sheet b) → (p : Parsed) × (read_sheet b ≡ Ok p) × (h ≡ header_of p)
  accepted_is e = passed_of header_of (read_sheet b) e

  pub refused_is : {why : Refusal} → Err why ≡ map_ok header_of (read_sheet b) → read_sheet b ≡ Err why
  refused_is e = refused_of header_of (read_sheet b) e

-- ---- the dimension

-- The three bits behind R of an accepted sheet stand for its D.
pub dimension-field : (b : List ℕ) → IsOk (read_sheet b) → (6 ≤ 8 * length b) × IfOk (read_sheet b) (λ p. field b 3 3 ≡ p.dimension)
dimension-field b = go (read_sheet b) refl
  where
    go : (o : Judged Parsed) → read_sheet b ≡ o → IsOk o → (6 ≤ 8 * length b) × IfOk o (λ p. field b 3 3 ≡ p.dimension)
    go (Err why) q a = absurd (false≢true a)
    go (Ok p) q a = let r = accepted.read-dimension b p q in (r.0, sym r.1)
