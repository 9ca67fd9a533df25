-- The types are given out of all proper ranks, one after another.
-- Assumes nothing.
use mathlib.Core.Path.{◌≡◌, refl, sym, ap, ap₂, ◌∙◌}
use mathlib.Core.Logic.{◌⊎◌, inl, inr}
use mathlib.Core.List.{List, [], ◌∷◌, ◌++◌, map, append-nil}
use Prim.Native.Nat.{ℕ, suc, ◌+◌, ◌-◌, ◌*◌, ◌≤◌, ◌<◌}
use native.Mathlib.Omega.{arith}
use native.Mathlib.Numerals.{add-one}
use lib.Dec.{eqb}
use lib.ListN.{length, get_or, take, set, length-append, length-map}
use lib.Seq.{sets, length-sets, take-suc, take_all, length-take-le}
use Rattle.spec.specs.Limits.{max_count}
use Rattle.spec.specs.Lists.{In, distinct, range, join, written}
use Rattle.spec.specs.Types.{Solid, State, types_at, proper_ranks, elements, type_count, given, ElementType, element_types_at, element_types, in_use}
use Rattle.laws.proofs.Lists.{in_get_d, map_same, of_range}
use Rattle.laws.proofs.FlagList.{in_either}
use Rattle.laws.proofs.Shapes.{type_cells_lem}
use Rattle.ranked.specs.declared.Shape.{Shape}
use Rattle.ranked.specs.Words.{lists_of, abs_in}
use Rattle.ranked.proofs.Solids.{top_is, size_is}
use Rattle.ranked.proofs.Counted.{proper_is}
use Rattle.element_types.specs.State.{types_in, state_in, Countable}
use Rattle.element_types.proofs.States.{types-at}
use Rattle.element_types.proofs.Given.{given_long}
use Rattle.element_types.proofs.Appeared.{table_snoc}
use Rattle.element_types.proofs.Tallied.{counts_all, TypesTally, tally_first, run_long, run_numbered, tally_next, tally_end}
use Rattle.types.specs.Cells.{cells_of, Listable}
use Rattle.types.proofs.Sets.{join-append, sets_append, sets_written}
use Rattle.types.proofs.Rows.{order_low, cells_in, cells-append}

of-join : {A B : Type 0} (g : A → List B) (x : B) (l : List A) → In x (join (map g l)) → (r : A) × In r l × In x (g r)
unfolding join
of-join {A = A} {B = B} g x [] h = elim h [ ]
of-join {A} g x (r ∷ l) h = go (in_either x (g r) (join (map g l)) h) (λ (m : In x (join (map g l))). of-join g x l m)
  where
    go : In x (g r) ⊎ In x (join (map g l)) → (In x (join (map g l)) → (q : A) × In q l × In x (g q)) → (q : A) × In q (r ∷ l) × In x (g q)
    go (inl m) ih = (r, inl refl, m)
    go (inr m) ih = let z = ih m in (z.0, inr z.1, z.2)

-- The first k types of l are written.
abbrev pub Copied : List ℕ → List ℕ → List ℕ → ℕ → Type 0
Copied l old of k = of ≡ sets old 0 (take k l)

module _ (sh : Shape) (w : List ℕ) where
  abbrev pub cells_at : ℕ → List ℕ
  cells_at r = cells_of r (types_in sh w r)

  unfoldable pub cells_below : ℕ → List ℕ
  cells_below r = join (map cells_at (range 1 (r - 1)))

  -- The m types of the ranks below r are written.
  pub record RanksTabled (old table : List ℕ) (m r : ℕ) : Type 0 where
    pub tally : TypesTally sh w m r
    pub bound : r - 1 ≤ sh.rank - 1
    pub many : length (cells_below r) ≡ 4 * m
    pub cells : table ≡ sets old 0 (cells_below r)

  pub tabled_first : (old : List ℕ) → RanksTabled old old 0 1
  unfolding cells_below range join
  tabled_first old = record { tally = tally_first sh w; bound = omega arith; many = refl; cells = refl }

module _ (sh : Shape) (w : List ℕ) (a : Countable sh w) where
  abbrev s : Solid
  s = abs_in sh (lists_of sh w)

  abbrev z : State
  z = state_in sh w

  abbrev ts : List ℕ
  ts = given s z

  pub proper-low : (r : ℕ) → In r (proper_ranks s) → (1 ≤ r) × (r < sh.rank)
  unfolding proper_ranks
  proper-low r m = let b = of_range 1 (sh.rank - 1) r (rw (top_is sh (lists_of sh w)) at m) in (b.0, omega (arith, b))

  -- ---- the type of each proper element

  given_small : (t : ℕ) → In t ts → t < max_count
  unfolding given in_use
  given_small t m =
      let j = of-join (types_at z) t (proper_ranks s) m in
      let b = proper-low j.0 j.1 in
      let n = a.numbered j.0 b.0 b.1 in
      omega (arith, order_low (types_at z j.0) n.first t j.2, n.each, size_is sh (lists_of sh w) j.0 (omega (arith, b)), a.held.few j.0 (omega (arith, b)))

  module _ (old : List ℕ) (room : elements s ≤ length old) where
    pub cells_in_lem : length ts ≤ length old
    cells_in_lem = omega (arith, given_long sh w a, proper_is sh (lists_of sh w) a.held)

    module _ (of : List ℕ) (k : ℕ) (i : Copied ts old of k) where
      pub copied-end : length ts ≤ k → of ≡ written ts old
      copied-end h = i ∙ ap (sets old 0) (take_all k ts h) ∙ sets_written old ts cells_in_lem

      module _ (h : k < length ts) where
        pub copied_small : get_or ts k 0 < max_count
        copied_small = given_small (get_or ts k 0) (in_get_d 0 ts k h)

        pub copied_next : Copied ts old (set of k (get_or ts k 0)) (k + 1)
        copied_next =
            let m : length (take k ts) ≡ k = length-take-le k ts (omega arith) in
            let q : k ≡ 0 + length (take k ts) = omega arith in
            let more : take (k + 1) ts ≡ take k ts ++ get_or ts k 0 ∷ [] = rw add-one (take-suc ts k 0 h) in
            ap₂ (λ (x : List ℕ) (y : ℕ). set x y (get_or ts k 0)) i q
            ∙ sym (sets_append old 0 (take k ts) (get_or ts k 0 ∷ [])) ∙ ap (sets old 0) (sym more)

  -- ---- the types

  cells-join : (g : ℕ → List ElementType) (l : List ℕ) → cells_in (join (map g l)) ≡ join (map (λ r. cells_in (g r)) l)
  unfolding join
  cells-join g [] = refl
  cells-join g (r ∷ l) = cells-append (g r) (join (map g l)) ∙ ap (λ (x : List ℕ). cells_in (g r) ++ x) (cells-join g l)

  all-cells : cells_below sh w sh.rank ≡ cells_in (element_types s z)
  unfolding cells_below cells_of element_types element_types_at proper_ranks
  all-cells =
      rw (top_is sh (lists_of sh w))
      (sym (cells-join (element_types_at z) (range 1 (sh.rank - 1))
      ∙ ap join (map_same (λ r. cells_in (element_types_at z r)) (cells_at sh w) (range 1 (sh.rank - 1))
      (λ r m. ap (cells_of r) (types-at sh w r (omega (arith, of_range 1 (sh.rank - 1) r m)))))))

  module _ (old : List ℕ) (room : 4 * type_count s z ≤ length old) where
    pub tabled_long : (table : List ℕ) (m r : ℕ) → RanksTabled sh w old table m r → length table ≡ length old
    tabled_long table m r i = ap length i.cells ∙ length-sets old 0 (cells_below sh w r)

    pub tabled_end : (table : List ℕ) (m r : ℕ) → RanksTabled sh w old table m r → sh.rank ≤ r → table ≡ written (cells_in (element_types s z)) old
    unfolding cells_below
    tabled_end table m r i h =
        let e : r - 1 ≡ sh.rank - 1 = omega (arith, i.bound) in
        let q : cells_below sh w r ≡ cells_below sh w sh.rank = ap (λ (k : ℕ). join (map (cells_at sh w) (range 1 k))) e in
        let c = q ∙ all-cells in
        i.cells ∙ ap (sets old 0) c ∙ sets_written old (cells_in (element_types s z)) (omega (arith, ap length c, i.many, tally_end sh w a m r i.tally h))

    module _ (table : List ℕ) (m r : ℕ) (i : RanksTabled sh w old table m r) (h : r < sh.rank) where
      abbrev l : List ℕ
      l = types_in sh w r

      listable : Listable l r (length table) m
      listable = record {
        order = run_numbered sh w a m r i.tally h;
        few = rw (run_long sh w a m r i.tally h) (a.held.few r (omega arith));
        low = omega (arith, a.held.tall);
        room = omega (arith, (tally_next sh w a m r i.tally h (length (distinct eqb l)) refl).rest, counts_all sh w, tabled_long table m r i);
      }

      pub list_ready : (types : List ℕ) → types ≡ l → Listable types r (length table) m
      list_ready types e = rw e listable

      cells_more : cells_below sh w (r + 1) ≡ cells_below sh w r ++ cells_of r l
      unfolding cells_below join
      cells_more =
          let p : r + 1 - 1 ≡ suc (r - 1) = omega (arith, i.tally.proper) in
          ap (λ (k : ℕ). join (map (cells_at sh w) (range 1 k))) p
          ∙ ap join (table_snoc (cells_at sh w) 1 (r - 1) r (omega (arith, i.tally.proper)))
          ∙ join-append (map (cells_at sh w) (range 1 (r - 1))) ((cells_at sh w) r ∷ [])
          ∙ ap (λ (x : List ℕ). cells_below sh w r ++ x) (append-nil ((cells_at sh w) r))

      cells_long : length (cells_of r l) ≡ 4 * length (distinct eqb l)
      unfolding cells_of
      cells_long = type_cells_lem (map _ (distinct eqb l)) ∙ ap (λ (k : ℕ). 4 * k) (length-map (distinct eqb l) _)

      module _ (k : ℕ) (c : k ≡ length (distinct eqb l)) where
        pub types_fit : 4 * (m + k) ≤ length old
        types_fit = omega (arith, (tally_next sh w a m r i.tally h k c).rest, counts_all sh w)

        pub tabled_next : RanksTabled sh w old (sets table (4 * m) (cells_of r l)) (m + k) (r + 1)
        tabled_next = record {
          tally = tally_next sh w a m r i.tally h k c;
          bound = omega arith;
          many = omega (arith, ap length cells_more ∙ length-append (cells_below sh w r) (cells_of r l), i.many, cells_long);
          cells =
              let q : 4 * m ≡ 0 + length (cells_below sh w r) = omega (arith, i.many) in
              ap₂ (λ (x : List ℕ) (y : ℕ). sets x y (cells_of r l)) i.cells q
              ∙ sym (sets_append old 0 (cells_below sh w r) (cells_of r l)) ∙ ap (sets old 0) (sym cells_more);
        }
