-- With the lists of two facets in each other's place, the words hold the exchanged solid.
-- Assumes nothing.
use mathlib.Core.Path.{◌≡◌, sym, ◌∙◌, ap}
use mathlib.Core.Logic.{◌≢◌}
use Prim.Native.Nat.{ℕ, suc, ◌+◌, ◌-◌, ◌*◌, ◌^◌, ◌≤◌, ◌<◌}
use mathlib.Core.Bool.{true}
use mathlib.Core.List.{List, []}
use native.Mathlib.Numerals.{add-one}
use native.Mathlib.Omega.{arith}
use native.Mathlib.Decide.{ℕ_discrete}
use lib.ListN.{length, get_or, take, drop, replicate, length-set}
use lib.Seq.{ext_get_or, drop-drop}
use lib.Ieee.{Float}
use borrow.Author.Tests.{eq-eqb, ne_eqb}
use Rattle.spec.specs.Limits.{max_rank}
use Rattle.spec.specs.Float.{zero_f}
use Rattle.spec.specs.Types.{Solid, top, size, subs, elements}
use Rattle.spec.specs.Solid.{entries, bound, diamond, floats_for}
use Rattle.spec.specs.Search.{exchanged_in, exchanged}
use Rattle.laws.specs.SolidLaws.{swap}
use Rattle.laws.specs.Passed.{ExchangeKept}
use Rattle.laws.proofs.Exchange.{swap-low, size_same, subs-n, subs-other, elements_same, entries_same, bound_same, every-exchange}
use Rattle.ranked.specs.declared.Shape.{Shape}
use Rattle.ranked.specs.Words.{first_at, size_at, total, lists_of, list_at, subs_in, abs_in, Held}
use Rattle.ranked.specs.Layout.{sup_entries_at, sub_lists_of, abstract_in, solid_in, sub_entries, low_of}
use Rattle.preflight.specs.Derive.{pairs, Stored, stored_in, SupsRoom}
use Rattle.preflight.specs.Bench.{Bench, Laid}
use Rattle.ranked.proofs.Solids.{top_is, size_is, subs_is}
use Rattle.preflight.proofs.store.Places.{first-le}
use Rattle.preflight.proofs.store.Derived.{stored_on}
use Rattle.preflight.proofs.Entries.{pairs_are}
use Rattle.preflight.proofs.Benches.{sups_in_lem, sups-end, low_small, some_bench}
use Rattle.symmetry.specs.Swapping.{swapped_lists}
use Rattle.symmetry.proofs.exchange.Swaps.{CameFrom, lists_length, stays, comes_first, comes_second, lists-drop, lists-take}

-- ---- solids

solid_ext : (s t : Solid) → length s ≡ length t → ((r : ℕ) → r < length s → size s r ≡ size t r)
    → ((r e : ℕ) → r < length s → e < size s r → subs s r e ≡ subs t r e) → s ≡ t
unfolding subs
solid_ext s t n sizes same = ext_get_or [] s t n λ r h. ext_get_or [] (get_or s r []) (get_or t r []) (sizes r h) λ e k. same r e h k

swap-zero : (f e : ℕ) → e ≡ 0 → swap f e ≡ f
unfolding swap
swap-zero f e p = rw (eq-eqb e 0 p, swap)

swap_here : (f e : ℕ) → e ≢ 0 → e ≡ f → swap f e ≡ 0
unfolding swap
swap_here f e n p = rw (ne_eqb e 0 n, eq-eqb e f p, swap)

swap_past : (f e : ℕ) → e ≢ 0 → e ≢ f → swap f e ≡ e
unfolding swap
swap_past f e n m = rw (ne_eqb e 0 n, ne_eqb e f m, swap)

-- ---- facets

module _ (sh : Shape) (w : List ℕ) where
  top_facets : top (abs_in sh w) - 1 ≡ sh.rank - 1
  top_facets = ap (λ (n : ℕ). n - 1) (top_is sh w)

  module _ (tall : 2 ≤ sh.rank) where
    tall_s : 2 ≤ top (abs_in sh w)
    tall_s = rw (top_is sh w) tall

    low-s : (f : ℕ) → f < size_at sh (sh.rank - 1) → f < size (abs_in sh w) (top (abs_in sh w) - 1)
    low-s f h = rw (top_facets, size_is sh w (sh.rank - 1) (omega arith)) h

-- ---- the words below the sups' entries

module _ (sh : Shape) (w : List ℕ) (st : Stored sh w) (d : diamond (abs_in sh w) ≡ true) (tall : 2 ≤ sh.rank) (f : ℕ) (low : f < size_at sh (sh.rank - 1)) where
  abbrev s : Solid
  s = abs_in sh w

  abbrev g : ℕ
  g = first_at sh (sh.rank - 1)

  abbrev w' : List ℕ
  w' = swapped_lists w (4 * g) (4 * (g + f))

  facets_end : suc (sh.rank - 1) ≡ sh.rank
  facets_end = omega arith

  -- The facets are elements.
  pub facet_in : (e : ℕ) → e < size_at sh (sh.rank - 1) → g + e < total sh
  facet_in e h = omega (arith, first-le sh w st (suc (sh.rank - 1)) (suc sh.rank) (omega arith) (omega arith))

  first_in_lem : 4 * g + 1 < length w
  first_in_lem = omega (arith, facet_in f low, st.room)

  other_in_lem : 4 * (g + f) + 1 < length w
  other_in_lem = omega (arith, facet_in f low, st.room)

  -- What stands behind the starts and lengths is as it was.
  rest : drop (4 * total sh) w' ≡ drop (4 * total sh) w
  rest = lists-drop w g (g + f) (4 * total sh) (omega (arith, facet_in f low)) (omega (arith, facet_in f low))

  past : (a : ℕ) → 4 * total sh ≤ a → drop a w' ≡ drop a w
  past a h =
      let n = 4 * total sh in
      let e : n + (a - n) ≡ a = omega arith in
      rw e at (sym (drop-drop (a - n) n w') ∙ ap (drop (a - n)) rest ∙ drop-drop (a - n) n w)

  list_came : (k j : ℕ) → j < total sh → CameFrom w w' k j → list_at w' (4 * k) ≡ list_at w (4 * j)
  unfolding list_at
  list_came k j h e =
      let q : get_or w' (suc (4 * k)) 0 ≡ get_or w (suc (4 * j)) 0 = rw (add-one (4 * k), add-one (4 * j)) at e.1 in
      rw (q, e.0) (ap (take (get_or w (suc (4 * j)) 0)) (past (get_or w (4 * j) 0) (st.apart j h)))

  -- Each element's list came from some element.
  came : (k : ℕ) → k < total sh → (j : ℕ) × (j < total sh) × CameFrom w w' k j
  came k h = go (ℕ_discrete k g) (ℕ_discrete k (g + f))
    where
      go : Dec (k ≡ g) → Dec (k ≡ g + f) → (j : ℕ) × (j < total sh) × CameFrom w w' k j
      go (yes p) q = (g + f, facet_in f low, rw p (comes_first w g (g + f) first_in_lem other_in_lem))
      go (no n) (yes q) = (g, omega (arith, facet_in f low), rw q (comes_second w g (g + f) first_in_lem other_in_lem))
      go (no n) (no m) = (k, h, stays w g (g + f) k n m)

  -- ---- the subs

  facet_list : (e : ℕ) → e < size_at sh (sh.rank - 1) → list_at w' (4 * (g + e)) ≡ list_at w (4 * (g + swap f e))
  facet_list e h = go (ℕ_discrete e 0) (ℕ_discrete e f)
    where
      go : Dec (e ≡ 0) → Dec (e ≡ f) → list_at w' (4 * (g + e)) ≡ list_at w (4 * (g + swap f e))
      go (yes p) q =
          let a : g + e ≡ g = omega arith in
          rw (a, swap-zero f e p) (list_came g (g + f) (facet_in f low) (comes_first w g (g + f) first_in_lem other_in_lem))
      go (no n) (yes q) =
          let a : g + e ≡ g + f = omega arith in
          let z : g + swap f e ≡ g = omega (arith, swap_here f e n q) in
          rw (a, z) (list_came (g + f) g (omega (arith, facet_in f low)) (comes_second w g (g + f) first_in_lem other_in_lem))
      go (no n) (no m) =
          rw (swap_past f e n m) (list_came (g + e) (g + e) (facet_in e h) (stays w g (g + f) (g + e) (λ q. n (omega arith)) (λ q. m (omega arith))))

  other-list : (r e : ℕ) → r ≤ sh.rank → e < size_at sh r → r ≢ sh.rank - 1 → list_at w' (4 * (first_at sh r + e)) ≡ list_at w (4 * (first_at sh r + e))
  other-list r e h k n = go (ℕ_discrete r sh.rank)
    where
      go : Dec (r ≡ sh.rank) → list_at w' (4 * (first_at sh r + e)) ≡ list_at w (4 * (first_at sh r + e))
      go (yes p) =
          let a : first_at sh (suc (sh.rank - 1)) ≡ first_at sh r = ap (first_at sh) (facets_end ∙ sym p) in
          list_came (first_at sh r + e) (first_at sh r + e) (omega (arith, first-le sh w st (suc r) (suc sh.rank) (omega arith) (omega arith))) (stays w g (g + f) (first_at sh r + e) (λ q. omega arith) (λ q. omega arith))
      go (no m) =
          let a : first_at sh (suc r) ≤ g = first-le sh w st (suc r) (sh.rank - 1) (omega arith) (omega arith) in
          list_came (first_at sh r + e) (first_at sh r + e) (omega (arith, facet_in f low)) (stays w g (g + f) (first_at sh r + e) (λ q. omega arith) (λ q. omega arith))

  -- ---- the solid

  abbrev tall_here : 2 ≤ top s
  tall_here = tall_s sh w tall

  abbrev low_here : f < size s (top s - 1)
  low_here = low-s sh w tall f low

  abbrev t : Solid
  t = exchanged_in s f

  same_subs : (r e : ℕ) → r ≤ sh.rank → e < size_at sh r → subs (abs_in sh w') r e ≡ subs t r e
  unfolding subs_in
  same_subs r e h k = subs_is sh w' r e h k ∙ go (ℕ_discrete r (sh.rank - 1))
    where
      go : Dec (r ≡ sh.rank - 1) → list_at w' (4 * (first_at sh r + e)) ≡ subs t r e
      go (yes p) =
          let k' : e < size_at sh (sh.rank - 1) = rw p at k in
          rw p (facet_list e k'
          ∙ sym (subs_is sh w (sh.rank - 1) (swap f e) (omega arith) (swap-low f e (size_at sh (sh.rank - 1)) low k'))
          ∙ sym (rw (top_facets sh w) at (subs-n s tall_here f low_here e)))
      go (no n) = other-list r e h k n ∙ sym (subs_is sh w r e h k) ∙ sym (subs-other s tall_here f low_here r (λ q. n (q ∙ top_facets sh w)) e)

  ranks : length (abs_in sh w') ≡ suc sh.rank
  ranks = omega (arith, top_is sh w')

  pub solid_is : abs_in sh w' ≡ t
  unfolding exchanged_in
  solid_is =
      solid_ext (abs_in sh w') t (ranks ∙ sym (length-set s (top s - 1) _ ∙ omega (arith, top_is sh w)))
      (λ r h. size_is sh w' r (omega (arith, ranks)) ∙ sym (size_is sh w r (omega (arith, ranks))) ∙ sym (size_same s tall_here f low_here r))
      (λ r e h k. same_subs r e (omega (arith, ranks)) (rw (size_is sh w' r (omega (arith, ranks))) at k))

  pub kept : ExchangeKept s t
  kept = every-exchange s st.sound d st.filled tall_here f low_here

  pub entries_is : entries t ≡ entries s
  entries_is = entries_same s tall_here f low_here

  pub elements_is : elements t ≡ elements s
  elements_is = elements_same s tall_here f low_here

  pub bound_is : bound t ≡ bound s
  bound_is = bound_same s tall_here f low_here

  pub pairs_same : length (pairs sh (abs_in sh w')) ≡ length (pairs sh s)
  pairs_same =
      pairs_are sh w' (rw solid_is kept.sound) (rw solid_is kept.filled)
      ∙ ap (sub_entries sh) (ap entries solid_is ∙ entries_is)
      ∙ sym (pairs_are sh w st.sound st.filled)

  pub stored : Stored sh w'
  stored =
      stored_on st (rw (lists_length w g (g + f)) st.room)
      (λ k h. let c = came k h in rw c.2.0 (st.apart c.0 c.1))
      (λ k h.
      let c = came k h in
      let q : get_or w' (suc (4 * k)) 0 ≡ get_or w (suc (4 * c.0)) 0 = rw (add-one (4 * k), add-one (4 * c.0)) at c.2.1 in
      rw (q, c.2.0, lists_length w g (g + f)) (st.subs_inside c.0 c.1))
      (rw solid_is kept.sound) (rw solid_is kept.filled) (omega (arith, pairs_same, st.entries))

-- ---- the whole bench

module _ (sh : Shape) (ws : List ℕ) (l : Laid sh ws) (f : ℕ) (asked : (2 ≤ sh.rank) × (f < size_at sh (sh.rank - 1))) where
  b : Bench sh ws (replicate (floats_for (elements (abs_in sh (lists_of sh ws)))) zero_f)
  b = some_bench sh ws l

  abbrev whole : Solid
  whole = abs_in sh (lists_of sh ws)

  abbrev base : ℕ
  base = sup_entries_at sh

  abbrev v : List ℕ
  v = take base ws

  alone : abs_in sh v ≡ whole
  alone = b.subs_alone

  diamonds : diamond (abs_in sh v) ≡ true
  diamonds = rw alone b.diamonds

  -- ---- the steps' numbers

  pub tall : sh.rank ≤ max_rank
  tall = b.held.tall

  base-fits : base ≤ length ws
  base-fits = omega (arith, sups_in_lem b, b.words_in)

  heads_fit : 4 * total sh ≤ base
  unfolding low_of
  heads_fit = omega (arith, b.low_is)

  abbrev a : ℕ
  a = first_at sh (sh.rank - 1)

  facet_low : a + f < total sh
  facet_low = facet_in sh v b.stored diamonds asked.0 f asked.1 f asked.1

  pub facet_fits : a + f < 2 ^ 32
  facet_fits = omega (arith, facet_low, b.stored.small)

  -- The words of facets 0 and f.
  module _ (i : ℕ) (ei : i ≡ 4 * (a + 0)) (j : ℕ) (ej : j ≡ 4 * (a + f)) where
    first_is : i ≡ 4 * a
    first_is = omega (arith, ei)

    pub lists_fit : (i + 1 < length ws) × (j + 1 < length ws)
    lists_fit = (omega (arith, first_is, facet_low, heads_fit, base-fits), omega (arith, ej, facet_low, heads_fit, base-fits))

    module _ (ws₁ : List ℕ) (swapped₁ : ws₁ ≡ swapped_lists ws i j) where
      e₁ : ws₁ ≡ swapped_lists ws (4 * a) (4 * (a + f))
      e₁ = rw (first_is, ej) at swapped₁

      len₁ : length ws₁ ≡ length ws
      len₁ = rw e₁ (lists_length ws a (a + f))

      -- Below base the exchanged solid stands.
      low₁ : take base ws₁ ≡ swapped_lists v (4 * a) (4 * (a + f))
      low₁ = rw e₁ (lists-take ws a (a + f) base (omega (arith, facet_low, heads_fit)) (omega (arith, facet_low, heads_fit)))

      stored₁ : Stored sh (take base ws₁)
      stored₁ = rw low₁ (stored sh v b.stored diamonds asked.0 f asked.1)

      solid₁ : abs_in sh (take base ws₁) ≡ exchanged_in whole f
      solid₁ = rw low₁ (solid_is sh v b.stored diamonds asked.0 f asked.1 ∙ ap (λ (t : Solid). exchanged_in t f) alone)

      low_is : base + length (pairs sh (abs_in sh (take base ws₁))) ≡ sh.low
      low_is =
          let p : length (pairs sh (abs_in sh (take base ws₁))) ≡ length (pairs sh whole) = rw low₁ (pairs_same sh v b.stored diamonds asked.0 f asked.1 ∙ ap (λ (t : Solid). length (pairs sh t)) alone) in
          omega (arith, sups-end b)

      pub derive_call : Stored sh (sub_lists_of sh ws₁) × SupsRoom sh ws₁
      derive_call = (stored₁, record { end = low_is; room = omega (arith, b.words_in, len₁); small = low_small b })

      -- The sups are derived.
      module _ (ws₂ : List ℕ) (len₂ : length ws₂ ≡ length ws₁)
          (held₂ : Held sh (lists_of sh ws₂)) (s' : abstract_in sh ws₂ ≡ stored_in sh ws₁)
          (stored₂ : Stored sh (sub_lists_of sh ws₂)) (a' : stored_in sh ws₂ ≡ stored_in sh ws₁)
          (p' : drop sh.low ws₂ ≡ drop sh.low ws₁) where
        pub solid₂ : abs_in sh (lists_of sh ws₂) ≡ exchanged_in whole f
        solid₂ = s' ∙ solid₁

        alone₂ : abs_in sh (take base ws₂) ≡ exchanged_in whole f
        alone₂ = a' ∙ solid₁

        pub past₂ : drop sh.low ws₂ ≡ drop sh.low ws
        past₂ = p' ∙ rw e₁ (lists-drop ws a (a + f) sh.low (omega (arith, facet_low, heads_fit, sups_in_lem b)) (omega (arith, facet_low, heads_fit, sups_in_lem b)))

        tests : ExchangeKept whole (exchanged_in whole f)
        tests = rw alone at (kept sh v b.stored diamonds asked.0 f asked.1)

        entries₂ : entries (exchanged_in whole f) ≡ entries whole
        entries₂ = rw alone at (entries_is sh v b.stored diamonds asked.0 f asked.1)

        elements₂ : elements (exchanged_in whole f) ≡ elements whole
        elements₂ = rw alone at (elements_is sh v b.stored diamonds asked.0 f asked.1)

        bound₂ : bound (exchanged_in whole f) ≡ bound whole
        bound₂ = rw alone at (bound_is sh v b.stored diamonds asked.0 f asked.1)

        pub laid₂ : Laid sh ws₂
        laid₂ fs k = record {
          held = held₂;
          low_is = rw (solid₂, entries₂) b.low_is;
          words_in = omega (arith, len₂, len₁, b.words_in);
          stored = stored₂;
          subs_alone = rw solid₂ alone₂;
          joined = rw (solid₂, bound₂) b.joined;
          diamonds = rw solid₂ tests.diamonds;
          words = rw (solid₂, entries₂, elements₂, len₂, len₁) b.words;
          floats = k;
        }

-- ---- for callers: what was a bench is one, of the exchanged solid, and its vertices are where they were

module _ {sh : Shape} {ws : List ℕ} {fs : List Float} (o : Bench sh ws fs) (f : ℕ) (asked : (2 ≤ sh.rank) × (f < size_at sh (sh.rank - 1)))
    (vs : List ℕ) (e : abs_in sh (lists_of sh vs) ≡ exchanged_in (abs_in sh (lists_of sh ws)) f) where
  pub bench_exchanged : Laid sh vs → Bench sh vs fs
  bench_exchanged l = l fs (rw (e, elements_same (abs_in sh (lists_of sh ws)) (tall_s sh (lists_of sh ws) asked.0) f (low-s sh (lists_of sh ws) asked.0 f asked.1)) o.floats)

  pub solid-exchanged : solid_in sh vs fs ≡ exchanged (solid_in sh ws fs) f
  unfolding exchanged
  solid-exchanged = rw e
