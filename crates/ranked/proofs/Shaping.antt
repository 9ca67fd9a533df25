-- The shape of a solid comes from the counts. This file says what holds at each turn of the loop that works the starts of the ranks out, and which shape
-- they give.
-- Assumes nothing.
use mathlib.Core.Path.{◌≡◌, refl, sym, ◌∙◌}
use mathlib.Core.Logic.{◌⊎◌, inl, inr}
use Prim.Native.Nat.{ℕ, zero, suc, ◌+◌, ◌-◌, ◌*◌, ◌^◌, ◌≤◌, ◌<◌}
use mathlib.Core.List.{List, map}
use native.Mathlib.Numerals.{add-one}
use native.Mathlib.Omega.{arith}
use native.Mathlib.Decide.{ℕ_discrete}
use lib.ListN.{length, get_or, replicate, set, length-set}
use lib.Seq.{get_or-set_same, get_or-set_other, ext_get_or}
use borrow.Author.Tests.{lt-ltb, le-ltb}
use Rattle.spec.specs.Limits.{max_rank, max_count, max_starts}
use Rattle.spec.specs.Lists.{range}
use Rattle.spec.specs.Types.{top}
use Rattle.spec.specs.Solid.{Concrete, entries}
use Rattle.laws.proofs.Lists.{get_d_table, length_table}
use Rattle.ranked.specs.declared.Shape.{Shape}
use Rattle.ranked.specs.Words.{first_at, total, FullStarts}
use Rattle.ranked.specs.Layout.{sub_entries, low_of, sized}
use Rattle.ranked.specs.Shapes.{running, CountsFit, size_in, StartsCounted, ShapeCounted, start_in, shape_of}
use Rattle.ranked.proofs.Starts.{lt_or_le}

-- ---- how many elements a rank has

module _ (R : ℕ) (counts : List ℕ) where
  pub size-first : (r : ℕ) → r ≡ 0 → 1 ≡ size_in R counts r
  unfolding size_in
  size-first r e = rw e

  pub size-proper : (k : ℕ) → suc k < R → size_in R counts (suc k) ≡ get_or counts k 0
  unfolding size_in
  size-proper k h = rw (lt-ltb (suc k) R h, size_in)

  pub size_past : (k : ℕ) → R ≤ suc k → size_in R counts (suc k) ≡ 1
  unfolding size_in
  size_past k h = rw (le-ltb (suc k) R h, size_in)

  -- At a number from 1 to R - 1, the size is the count before it, and at every other it is 1.
  pub proper-at : (r : ℕ) → 0 < r → r < R → get_or counts (r - 1) 0 ≡ size_in R counts r
  proper-at zero n h = absurd (omega arith)
  proper-at (suc k) n h = let e : suc k - 1 ≡ k = omega arith in rw e (sym (size-proper k h))

  pub other_at : (r : ℕ) → ((0 < r) × (R ≤ r)) ⊎ (r ≤ 0) → 1 ≡ size_in R counts r
  other_at zero h = size-first zero refl
  other_at (suc k) (inl h) = sym (size_past k h.1)
  other_at (suc k) (inr h) = absurd (omega arith)

  module _ (fit : CountsFit R counts) where
    pub size_few : (r : ℕ) → size_in R counts r ≤ max_count
    unfolding size_in
    size_few zero = omega arith
    size_few (suc k) = go (lt_or_le (suc k) R)
      where
        go : (suc k < R) ⊎ (R ≤ suc k) → size_in R counts (suc k) ≤ max_count
        go (inl h) = rw (size-proper k h) (fit k h).1
        go (inr h) = rw (size_past k h) (omega arith)

    size_some : (r : ℕ) → 0 < size_in R counts r
    unfolding size_in
    size_some zero = omega arith
    size_some (suc k) = go (lt_or_le (suc k) R)
      where
        go : (suc k < R) ⊎ (R ≤ suc k) → 0 < size_in R counts (suc k)
        go (inl h) = rw (size-proper k h) (fit k h).0
        go (inr h) = rw (size_past k h) (omega arith)

    pub running_few : (r : ℕ) → running 0 (size_in R counts) r ≤ max_count * r
    unfolding running
    running_few zero = omega arith
    running_few (suc r) = omega (arith, running_few r, size_few r)

-- ---- the loop, r turns in

pub zeros : (n q : ℕ) → ◌≡◌ {A = ℕ} (get_or (replicate n 0) q 0) 0
zeros zero q = refl
zeros (suc n) zero = refl
zeros (suc n) (suc q) = zeros n q

pub record Firsts (R : ℕ) (counts : List ℕ) (first : List ℕ) (r : ℕ) : Type 0 where
  pub tall : R ≤ max_rank
  pub fit : CountsFit R counts
  pub len : length first ≡ max_starts
  pub at : (q : ℕ) → q ≤ r → get_or first q 0 ≡ running 0 (size_in R counts) q
  pub rest : (q : ℕ) → r < q → get_or first q 0 ≡ 0

module _ (R : ℕ) (counts : List ℕ) where
  pub firsts_none : R ≤ max_rank → CountsFit R counts → (first : List ℕ) → length first ≡ max_starts → ((q : ℕ) → get_or first q 0 ≡ 0) → Firsts R counts first 0
  unfolding running
  firsts_none t f first l e = record { tall = t; fit = f; len = l; at = λ q h. let z : q ≡ 0 = omega arith in rw z (e 0); rest = λ q h. e q }

  module _ (first : List ℕ) (r : ℕ) (s : Firsts R counts first r) where
    module _ (more : r ≤ R) (n : ℕ) (en : n ≡ size_in R counts r) where
      pub sum_small : get_or first r 0 + n < 2 ^ 32
      sum_small =
          let h = running_few R counts s.fit r in
          omega (arith, s.at r (omega arith), size_few R counts s.fit r, s.tall)

      pub firsts_more : Firsts R counts (set first (r + 1) (get_or first r 0 + n)) (r + 1)
      unfolding running
      firsts_more = record {
        tall = s.tall;
        fit = s.fit;
        len = length-set first (r + 1) (get_or first r 0 + n) ∙ s.len;
        at = λ q h. go q h (ℕ_discrete q (r + 1));
        rest = λ q h. get_or-set_other first (r + 1) q (get_or first r 0 + n) 0 (λ e. omega arith) ∙ s.rest q (omega arith);
      }
        where
          go : (q : ℕ) → q ≤ r + 1 → Dec (q ≡ r + 1) → get_or (set first (r + 1) (get_or first r 0 + n)) q 0 ≡ running 0 (size_in R counts) q
          go q h (yes e) =
              rw e (get_or-set_same first (r + 1) (get_or first r 0 + n) 0 (omega (arith, s.len, s.tall)) ∙ rw (add-one r, s.at r (omega arith), en))
          go q h (no e) = get_or-set_other first (r + 1) q (get_or first r 0 + n) 0 e ∙ s.at q (omega arith)

-- ---- the shape

-- The number of words is worked out from the ranks alone.
low_same : (sh : Shape) (n I : ℕ) → low_of (record { rank = sh.rank; dimension = sh.dimension; first = sh.first; low = n }) I ≡ low_of sh I
unfolding low_of sub_entries
low_same sh n I = refl

module _ (R D : ℕ) (counts first : List ℕ) (I : ℕ) (tall : R ≤ max_rank) (small : I < 2 ^ 32) (fit : CountsFit R counts) (st : StartsCounted R counts first) where
  abbrev ranks : Shape
  ranks = record { rank = R; dimension = D; first = first; low = 0 }

  -- The number of words is worked out from these.
  pub starts_fit : ((R ≤ max_rank) × (total ranks < 2 ^ 32) × (I < 2 ^ 32)) × ((r : ℕ) → r ≤ R → first_at ranks r < first_at ranks (suc r))
  unfolding running
  starts_fit = (
    (tall, omega (arith, st.at (suc R) (omega arith), running_few R counts fit (suc R)), small),
    λ r h. omega (arith, st.at (suc r) (omega arith), st.at r (omega arith), size_some R counts fit r),
  )

  pub counted : (sh : Shape) → sh ≡ sized ranks I → ShapeCounted R D counts I sh
  unfolding sized
  counted sh e = rw e (record { rank = refl; dimension = refl; starts = st; low = sym (low_same ranks (low_of ranks I) I) })

-- A shape with the rank, the dimension, the starts and the number of words of a solid is the solid's.
pub shape_is : (c : Concrete) (sh : Shape) → sh.rank ≡ top c.abs → sh.dimension ≡ c.dimension → FullStarts sh
    → ((r : ℕ) → first_at sh r ≡ start_in c.abs r) → sh.low ≡ low_of sh (entries c.abs) → sh ≡ shape_of c
unfolding shape_of sized
shape_is c sh er ed len at el =
    same er ed
    (ext_get_or 0 sh.first (map (start_in c.abs) (range 0 (max_starts))) (len ∙ sym (length_table (start_in c.abs) (max_starts)))
    (λ i h. at i ∙ sym (get_d_table (start_in c.abs) 0 (max_starts) i (omega (arith, len)))))
  where
    same : {q d : ℕ} {l : List ℕ} → sh.rank ≡ q → sh.dimension ≡ d → sh.first ≡ l
        → sh ≡ sized (record { rank = q; dimension = d; first = l; low = 0 }) (entries c.abs)
    same x y z = rw (← x, ← y, ← z, low_same sh 0 (entries c.abs), ← el)
