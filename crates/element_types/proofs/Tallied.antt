-- Where types are numbered from 0 by first appearance, there is one more than the greatest number, and the ranks' numbers add up.
-- Assumes nothing.
use Rattle.std.specs.Prelude.{Option, Some, None}
use Rattle.std.specs.List.{fold, reduce}
use Rattle.std.specs.Option.{unwrap_or}
use mathlib.Core.Path.{◌≡◌, refl, sym, ap}
use mathlib.Core.Logic.{inl, inr}
use mathlib.Core.List.{List, [], ◌∷◌, map}
use Prim.Native.Nat.{ℕ, suc, max, ◌+◌, ◌-◌, ◌≤◌, ◌<◌}
use native.Mathlib.Decide.{dec_lt}
use native.Mathlib.Numerals.{add-one}
use native.Mathlib.Omega.{arith}
use lib.Dec.{eqb}
use lib.ListN.{length, length-take, length-drop}
use Rattle.spec.specs.Lists.{In, distinct, range, sum}
use Rattle.spec.specs.Types.{types_at, proper_ranks, type_count, in_use}
use Rattle.laws.proofs.Lists.{map_same, in_range_lem, of_range}
use Rattle.laws.proofs.Distinct.{pigeons, in_distinct, of-distinct, once_distinct}
use Rattle.laws.proofs.Counts.{numbers}
use Rattle.ranked.specs.declared.Shape.{Shape}
use Rattle.ranked.specs.Words.{first_at, size_at, total, lists_of, abs_in}
use Rattle.ranked.specs.Layout as layout
use Rattle.ranked.proofs.Solids.{top_is, in_order_lem}
use Rattle.element_types.specs.State.{types_in, state_in, Countable}
use Rattle.element_types.proofs.States.{types-at}

-- ---- one rank

-- The greatest of the numbers x and l is one of them, and none is above it.
top-in : (x : ℕ) (l : List ℕ) → In (fold max x l) (x ∷ l)
top-in x [] = inl refl
top-in x (y ∷ l) = go (top-in (max x y) l)
  where
    side : fold max (max x y) l ≡ max x y → Dec (x < y) → In (fold max (max x y) l) (x ∷ y ∷ l)
    side e (yes h) = inr (inl (omega arith))
    side e (no h) = inl (omega arith)

    go : In (fold max (max x y) l) (max x y ∷ l) → In (fold max (max x y) l) (x ∷ y ∷ l)
    go (inl e) = side e (dec_lt x y)
    go (inr m) = inr (inr m)

top-high : (x : ℕ) (l : List ℕ) (y : ℕ) → In y (x ∷ l) → y ≤ fold max x l
top-high x [] y (inl e) = omega arith
top-high x [] y (inr m) = elim m [ ]
top-high x (z ∷ l) y (inl e) = omega (arith, top-high (max x z) l (max x z) (inl refl))
top-high x (z ∷ l) y (inr (inl e)) = omega (arith, top-high (max x z) l (max x z) (inl refl))
top-high x (z ∷ l) y (inr (inr m)) = top-high (max x z) l y (inr m)

-- Where the types l are numbered from 0, there is one more than the greatest says.
module _ (l : List ℕ) (first : distinct eqb l ≡ range 0 (length (distinct eqb l))) where
  type_low : (t : ℕ) → In t l → t < length (distinct eqb l)
  type_low t m = omega (arith, of_range 0 (length (distinct eqb l)) t (rw first at (in_distinct eqb numbers t l m)))

  type_met : (q : ℕ) → q < length (distinct eqb l) → In q l
  type_met q h = of-distinct eqb numbers q l (rw first (in_range_lem 0 (length (distinct eqb l)) q (omega arith) (omega arith)))

pub types_none : (l : List ℕ) → reduce max l ≡ None → 0 ≡ length (distinct eqb l)
unfolding distinct
types_none [] e = refl
types_none (x ∷ l) e = absurd (cc)

pub types_some : (l : List ℕ) → distinct eqb l ≡ range 0 (length (distinct eqb l)) → (t : ℕ) → reduce max l ≡ Some t → t + 1 ≡ length (distinct eqb l)
types_some [] first t e = absurd (cc)
types_some (x ∷ l) first t e =
    let q : fold max x l ≡ t = ap (λ (o : Option ℕ). unwrap_or o 0) e in
    let low = type_low (x ∷ l) first (fold max x l) (top-in x l) in
    let k = length (distinct eqb (x ∷ l)) in
    omega (arith, low, q, top-high x l (k - 1) (type_met (x ∷ l) first (k - 1) (omega (arith, low))))

-- There are no more types than elements.
types_few : (l : List ℕ) → length (distinct eqb l) ≤ length l
types_few l = pigeons eqb numbers (distinct eqb l) l (once_distinct eqb numbers l) (λ t m. of-distinct eqb numbers t l m)

-- ---- all ranks

unfoldable pub count_in : Shape → List ℕ → ℕ → ℕ
count_in sh w r = length (distinct eqb (types_in sh w r))

-- Counts the types of rank r and above.
unfoldable pub counts_from : Shape → List ℕ → ℕ → ℕ
counts_from sh w r = sum (map (count_in sh w) (range r (sh.rank - r)))

module _ (sh : Shape) (w : List ℕ) where
  pub counts_all : counts_from sh w 1 ≡ type_count (abs_in sh (lists_of sh w)) (state_in sh w)
  unfolding counts_from type_count proper_ranks count_in
  counts_all =
      rw (top_is sh (lists_of sh w))
      (ap sum (map_same (count_in sh w) (λ r. length (distinct eqb (types_at (state_in sh w) r))) (range 1 (sh.rank - 1))
      (λ r m. ap (λ (t : List ℕ). length (distinct eqb t)) (sym (types-at sh w r (omega (arith, of_range 1 (sh.rank - 1) r m)))))))

  counts-next : (r : ℕ) → r < sh.rank → counts_from sh w r ≡ count_in sh w r + counts_from sh w (r + 1)
  unfolding counts_from range sum
  counts-next r h = let e : sh.rank - r ≡ suc (sh.rank - suc r) = omega arith in rw (e, add-one r) refl

  counts_end : (r : ℕ) → sh.rank ≤ r → counts_from sh w r ≡ 0
  unfolding counts_from range sum
  counts_end r h = let e : sh.rank - r ≡ 0 = omega arith in rw e refl

-- Below rank r, n types were counted.
pub record TypesTally (sh : Shape) (w : List ℕ) (n r : ℕ) : Type 0 where
  pub proper : 1 ≤ r
  pub few : n ≤ first_at sh r
  pub rest : n + counts_from sh w r ≡ counts_from sh w 1

pub tally_first : (sh : Shape) (w : List ℕ) → TypesTally sh w 0 1
tally_first sh w = record { proper = omega arith; few = omega arith; rest = omega arith }

module _ (sh : Shape) (w : List ℕ) (a : Countable sh w) (n r : ℕ) (i : TypesTally sh w n r) where
  module _ (h : r < sh.rank) where
    -- The rank's elements are among all elements.
    pub offsets : (first_at sh r < first_at sh (suc r)) × (first_at sh (suc r) ≤ total sh)
    offsets = (a.held.some r (omega arith), in_order_lem sh (lists_of sh w) a.held (suc r) (suc sh.rank) (omega arith) (omega arith))

    -- There is a type for each of the rank's elements.
    run_in : layout.types_at sh r + size_at sh r ≤ length w
    run_in = omega (arith, offsets, a.room)

    pub run_long : length (types_in sh w r) ≡ size_at sh r
    unfolding types_in
    run_long = simp (length-take, length-drop) (omega (arith, run_in))

    pub run_numbered : distinct eqb (types_in sh w r) ≡ range 0 (length (distinct eqb (types_in sh w r)))
    unfolding in_use
    run_numbered = rw (sym (types-at sh w r (omega arith))) (a.numbered r i.proper h).first

    module _ (k : ℕ) (e : k ≡ length (distinct eqb (types_in sh w r))) where
      few_more : n + k ≤ first_at sh (suc r)
      few_more = omega (arith, e, types_few (types_in sh w r), run_long, i.few, offsets)

      pub sum_fits : n + k ≤ length w
      sum_fits = omega (arith, few_more, offsets, a.room)

      pub tally_next : TypesTally sh w (n + k) (r + 1)
      unfolding count_in
      tally_next = record { proper = omega arith; few = rw (add-one r) few_more; rest = omega (arith, e, i.rest, counts-next sh w r h) }

  pub tally_end : sh.rank ≤ r → n ≡ type_count (abs_in sh (lists_of sh w)) (state_in sh w)
  tally_end h = omega (arith, i.rest, counts_end sh w r h, counts_all sh w)
