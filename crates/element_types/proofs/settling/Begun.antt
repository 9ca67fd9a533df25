-- The start of each rank stands in the words, one rank after another.
-- Assumes nothing.
use mathlib.Core.Path.{◌≡◌, refl, sym, ◌∙◌, ap, ap₂}
use mathlib.Core.Logic.{◌≢◌, ◌⊎◌, inl, inr}
use mathlib.Core.Bool.{Bool, true, false, ◌&&◌}
use mathlib.Core.List.{List, [], ◌∷◌, ◌++◌, map}
use borrow.Rule.Slice.PartMut.{put_mid}
use Prim.Native.Nat.{ℕ, suc, ◌+◌, ◌-◌, ◌≤◌, ◌<◌}
use native.Mathlib.Decide.{ℕ_discrete}
use native.Mathlib.Omega.{arith}
use borrow.Author.Tests.{lt-ltb, le-ltb}
use lib.ListN.{length, get_or, set, take, drop, length-set, length-take, length-drop, length-append}
use lib.Seq.{get_or-take, get_or-drop, get_or-set_same, get_or-set_other, drop-cons, take-set-le, take_at}
use lib.Dec.{eqb, ltb}
use lib.Ieee.{Float, nan}
use Rattle.spec.specs.Lists.{renumber, range}
use Rattle.spec.specs.Types.{Solid, top, size, Classes, is_proper, start_at, start, up}
use Rattle.spec.specs.Hull.{classes}
use Rattle.spec.specs.Classes.{distances, class_table, by_table}
use Rattle.laws.proofs.Lists.{map_same, length_table, of_range}
use Rattle.ranked.specs.declared.Shape.{Shape}
use Rattle.ranked.specs.Words.{first_at, size_at, total, lists_of, abs_in, Held}
use Rattle.ranked.specs.Layout.{proper, before, types_at, scratch_at, solid_in}
use Rattle.ranked.proofs.Solids.{top_is, size_is, in_order_lem}
use Rattle.geometry.specs.Classes.{same_class}
use Rattle.geometry.specs.Solids.{before_in}
use Rattle.geometry.proofs.elements.ClassCells.{same_class-at, before_is}
use Rattle.element_types.specs.Runs.{over}
use Rattle.element_types.specs.State.{types_in, state_in, needed}
use Rattle.element_types.proofs.Sweeps.{sweepable_kept}
use Rattle.element_types.specs.Start.{Shares, ClassesFit, ByClass, Startable, Begins}
use Rattle.element_types.proofs.Parts.{length_over, put_over}
use Rattle.element_types.proofs.Room.{least-one, top_one}
use Rattle.element_types.proofs.Replaced.{replaced, other, lists-kept}

-- ---- a rank's types

module _ (sh : Shape) where
  -- A rank with one element has the one type that is written.
  type_one : (v : List ℕ) (q x : ℕ) → size_at sh q ≡ 1 → types_at sh q < length v → get_or v (types_at sh q) 0 ≡ x → types_in sh v q ≡ x ∷ []
  unfolding types_in
  type_one v q x one h e =
      ap (λ (n : ℕ). take n (drop (types_at sh q) v)) one ∙ ap (take 1) (drop-cons v (types_at sh q) 0 h) ∙ ap (λ (y : ℕ). y ∷ []) e

-- A word that is 0 stays so.
zero-kept : (l : List ℕ) (i j : ℕ) → j < length l → get_or l j 0 ≡ 0 → get_or (set l i 0) j 0 ≡ 0
zero-kept l i j h e = go (ℕ_discrete j i)
  where
    go : Dec (j ≡ i) → get_or (set l i 0) j 0 ≡ 0
    go (yes q) = rw q (get_or-set_same l i 0 0 (rw q at h))
    go (no q) = get_or-set_other l i j 0 0 q ∙ e

-- ---- the definition's ranks

module _ (s : Solid) (cls : Classes) (r : ℕ) where
  start-proper : 0 < r → r < top s → start_at s cls r ≡ renumber eqb (map (cls r) (range 0 (size s r)))
  unfolding start_at
  start-proper a b =
      let e : is_proper s r ≡ true = ap₂ ◌&&◌ (lt-ltb 0 r a) (lt-ltb r (top s) b) in
      rw (start_at, e)

  start-least : r ≡ 0 → size s r ≡ 1 → start_at s cls r ≡ 0 ∷ []
  unfolding start_at
  start-least a one =
      let e : is_proper s r ≡ false = ap (λ (b : Bool). b && ltb r (top s)) (le-ltb 0 r (omega arith)) in
      rw (start_at, e, one)

  start-top : r ≡ top s → size s r ≡ 1 → start_at s cls r ≡ 0 ∷ []
  unfolding start_at
  start-top a one = go (ltb 0 r) refl
    where
      f : ltb r (top s) ≡ false
      f = le-ltb r (top s) (omega arith)

      go : (b : Bool) → ltb 0 r ≡ b → start_at s cls r ≡ 0 ∷ []
      go true q = let e : is_proper s r ≡ false = ap₂ ◌&&◌ q f in rw (start_at, e, one)
      go false q = let e : is_proper s r ≡ false = ap₂ ◌&&◌ q f in rw (start_at, e, one)

-- ---- the loop

-- The proper ranks below r have their types, and the least and the top those they had.
pub record TypesBegun (sh : Shape) (w v : List ℕ) (cells : List Float) (r : ℕ) : Type 0 where
  pub above : 1 ≤ r
  pub long : length v ≡ length w
  pub lists : lists_of sh v ≡ lists_of sh w
  pub ends : (q : ℕ) → (q ≡ 0) ⊎ (q ≡ sh.rank) → types_in sh v q ≡ types_in sh w q
  pub types : (fs : List Float) → take (proper sh) cells ≡ classes (distances (solid_in sh w fs)) → (q : ℕ) → 1 ≤ q → q < r → q < sh.rank
      → types_in sh v q ≡ start_at (abs_in sh (lists_of sh w)) (by_table (class_table (solid_in sh w fs))) q

-- The least and the top have type 0. Their types stand at the words `least` and `last`.
abbrev pub opened : List ℕ → ℕ → ℕ → List ℕ
opened w least last = set (set w least 0) last 0

module _ (sh : Shape) (w : List ℕ) (cells : List Float) (a : Startable sh w cells) where
  h : Held sh (lists_of sh w)
  h = a.sweepable.held

  abbrev s : Solid
  s = abs_in sh (lists_of sh w)

  rank_in : (q : ℕ) → q ≤ sh.rank → (first_at sh q < first_at sh (suc q)) × (first_at sh (suc q) ≤ total sh)
  rank_in q k = (h.some q k, in_order_lem sh (lists_of sh w) h (suc q) (suc sh.rank) (omega arith) (omega arith))

  pub starts_in : (q : ℕ) → q ≤ sh.rank → types_at sh q < length w
  starts_in q k = omega (arith, rank_in q k, a.room)

  -- ---- the least and the top

  module _ (least last : ℕ) (el : least ≡ types_at sh 0) (et : last ≡ types_at sh sh.rank) where
    abbrev w₁ : List ℕ
    w₁ = set w least 0

    abbrev w₂ : List ℕ
    w₂ = opened w least last

    long₁ : length w₁ ≡ length w
    long₁ = length-set w least 0

    pub long₂ : length w₂ ≡ length w
    long₂ = length-set w₁ last 0 ∙ long₁

    lists₂ : lists_of sh w₂ ≡ lists_of sh w
    lists₂ = take-set-le sh.low w₁ last 0 (omega arith) ∙ take-set-le sh.low w least 0 (omega arith)

    pub startable_opened : Startable sh w₂ cells
    startable_opened = record { sweepable = sweepable_kept sh w w₂ long₂ lists₂ a.sweepable; room = omega (arith, a.room, long₂); inside = a.inside }

    first-types : (cls : Classes) (q : ℕ) → q ≤ sh.rank → (q ≡ 0) ⊎ (q ≡ sh.rank) → types_in sh w₂ q ≡ start_at s cls q
    first-types cls q k (inl z) =
        let one : size s q ≡ 1 = ap (size s) z ∙ least-one sh (lists_of sh w) h in
        let p : types_at sh q ≡ least = ap (types_at sh) z ∙ sym el in
        let b : least < length w₁ = omega (arith, starts_in q k, long₁) in
        type_one sh w₂ q 0 (sym (size_is sh (lists_of sh w) q k) ∙ one) (omega (arith, starts_in q k, long₂))
        (ap (λ (i : ℕ). get_or w₂ i 0) p ∙ zero-kept w₁ last least b (get_or-set_same w least 0 0 (omega (arith, b, long₁))))
        ∙ sym (start-least s cls q z one)
    first-types cls q k (inr c) =
        let one : size s q ≡ 1 = ap (size s) c ∙ top_one sh (lists_of sh w) h in
        let p : types_at sh q ≡ last = ap (types_at sh) c ∙ sym et in
        let b : last < length w₁ = omega (arith, starts_in q k, long₁) in
        type_one sh w₂ q 0 (sym (size_is sh (lists_of sh w) q k) ∙ one) (omega (arith, starts_in q k, long₂))
        (ap (λ (i : ℕ). get_or w₂ i 0) p ∙ get_or-set_same w₁ last 0 0 b)
        ∙ sym (start-top s cls q (c ∙ sym (top_is sh (lists_of sh w))) one)

    pub begun-end : (v : List ℕ) (r : ℕ) → TypesBegun sh w₂ v cells r → sh.rank ≤ r → Begins sh w v cells
    unfolding state_in start abs_in
    begun-end v r i k = record {
      lists = i.lists ∙ lists₂;
      state = λ fs e. let cls = by_table (class_table (solid_in sh w fs)) in
          map_same (types_in sh v) (start_at s cls) (range 0 (suc sh.rank)) (λ q m. each fs e q (omega (arith, of_range 0 (suc sh.rank) q m)) (ℕ_discrete q 0) (ℕ_discrete q sh.rank))
          ∙ ap (λ (m : ℕ). map (start_at s cls) (range 0 m)) (sym (length_table _ (suc sh.rank)));
    }
      where
        each : (fs : List Float) → take (proper sh) cells ≡ classes (distances (solid_in sh w fs)) → (q : ℕ) → q ≤ sh.rank → Dec (q ≡ 0) → Dec (q ≡ sh.rank)
            → types_in sh v q ≡ start_at s (by_table (class_table (solid_in sh w fs))) q
        each fs e q b (yes z) d = i.ends q (inl z) ∙ first-types (by_table (class_table (solid_in sh w fs))) q b (inl z)
        each fs e q b (no z) (yes d) = i.ends q (inr d) ∙ first-types (by_table (class_table (solid_in sh w fs))) q b (inr d)
        each fs e q b (no z) (no d) = (rw lists₂ at i.types) fs e q (omega arith) (omega arith) (omega arith)

  -- ---- the proper ranks

  module _ (v : List ℕ) (r : ℕ) (i : TypesBegun sh w v cells r) (k : r < sh.rank) where
    -- The rank's elements are proper, and their types lie within the words.
    pub offsets : (first_at sh 1 ≤ first_at sh r) × (first_at sh r < first_at sh (suc r)) × (first_at sh (suc r) ≤ first_at sh sh.rank) × (types_at sh (suc r) ≤ length w)
    offsets =
        let b = rank_in r (omega arith) in
        (in_order_lem sh (lists_of sh w) h 1 r i.above (omega arith), b.0, in_order_lem sh (lists_of sh w) h (suc r) sh.rank (omega arith) (omega arith), omega (arith, b.1, a.room))

    -- In the code's terms, the types of the rank's n elements stand from word `to` on and their classes from cell `from` on, and the words are in two
    -- parts, those below word `out` and the free ones.
    module _ (to out n from : ℕ) (to_is : to ≡ types_at sh r) (out-is : out ≡ scratch_at sh) (n_is : n ≡ size_at sh r) (from_is : from ≡ before sh r + 0)
        (H F : List ℕ) (v_is : v ≡ H ++ F) (H_long : length H ≡ out) where
      -- These are the classes of the rank's elements, as a slice of the cells has them.
      abbrev part : List Float
      part = take (from + n - from) (drop from cells)

      part_long : length part ≡ n
      part_long = simp (length-take, length-drop) (omega (arith, offsets, a.inside))

      to-in : to + n ≤ length H
      to-in = omega (arith, rank_in r (omega arith))

      run-long : length (take (to + n - to) (drop to H)) ≡ n
      run-long = simp (length-take, length-drop) (omega (arith, to-in))

      pub fitting : ClassesFit part (take (to + n - to) (drop to H)) F
      unfolding needed
      fitting = record {
        numbered = run-long ∙ sym part_long;
        room = omega (arith, part_long, i.long, ap length v_is ∙ length-append H F, a.sweepable.room (up r) i.above k);
        small = omega (arith, part_long, a.sweepable.small (up r) i.above k);
      }

      module _ (N G : List ℕ) (N_long : length N ≡ length (take (to + n - to) (drop to H))) (G_long : length G ≡ length F) (c : ByClass part N) where
        abbrev H' : List ℕ
        H' = put_mid to (to + n - to) H N

        abbrev u : List ℕ
        u = H' ++ G

        many : length N ≡ n
        many = N_long ∙ run-long

        H'-is : H' ≡ over H to (to + n) N
        H'-is = put_over H to (to + n - to) (to + n) N (omega (arith, many)) (omega arith)

        H'-long : length H' ≡ length H
        H'-long = ap length H'-is ∙ length_over H to (to + n) N (omega (arith, many)) to-in

        u-long : length u ≡ length v
        u-long = length-append H' G ∙ ap₂ (λ (x y : ℕ). x + y) H'-long G_long ∙ sym (ap length v_is ∙ length-append H F)

        front : take (scratch_at sh) u ≡ over (take (scratch_at sh) v) (types_at sh r) (types_at sh r + size_at sh r) N
        front =
            take_at H' G (scratch_at sh) (H'-long ∙ H_long ∙ out-is) ∙ H'-is
            ∙ ap₂ (λ (l : List ℕ) (b : ℕ). over l b (b + n) N) (sym (ap (take (scratch_at sh)) v_is ∙ take_at H F (scratch_at sh) (H_long ∙ out-is))) to_is
            ∙ ap (λ (m : ℕ). over (take (scratch_at sh) v) (types_at sh r) (types_at sh r + m) N) n_is

        v-held : Held sh (lists_of sh v)
        v-held = rw i.lists h

        v-room : scratch_at sh ≤ length v
        v-room = omega (arith, i.long, a.room)

        stays : (q : ℕ) → q ≤ sh.rank → q ≢ r → types_in sh u q ≡ types_in sh v q
        stays = other sh v v-held v-room r (omega arith) u N (many ∙ n_is) front

        module _ (fs : List Float) (e : take (proper sh) cells ≡ classes (distances (solid_in sh w fs))) where
          cls : Classes
          cls = by_table (class_table (solid_in sh w fs))

          size-n : size s r ≡ n
          size-n = size_is sh (lists_of sh w) r (omega arith) ∙ sym n_is

          cell_is : (j : ℕ) → j < n → get_or (classes (distances (solid_in sh w fs))) (before_in s r + j) nan ≡ get_or part j nan
          cell_is j d =
              let z : before_in s r ≡ from = before_is sh (lists_of sh w) h r i.above (omega arith) ∙ omega (arith, from_is) in
              ap (λ (z : ℕ). get_or (classes (distances (solid_in sh w fs))) (z + j) nan) z
              ∙ ap (λ (l : List Float). get_or l (from + j) nan) (sym e) ∙ get_or-take (proper sh) cells (from + j) nan (omega (arith, offsets))
              ∙ sym (get_or-take (from + n - from) (drop from cells) j nan (omega arith) ∙ get_or-drop from cells j nan)

          shares : Shares part (cls r)
          unfolding cls
          shares g j d b =
              let t : r < top s = rw (top_is sh (lists_of sh w)) k in
              let d' : g < n = omega (arith, part_long) in
              let b' : j < n = omega (arith, part_long) in
              same_class-at (solid_in sh w fs) r g j i.above t (rw size-n d') (rw size-n b') ∙ ap₂ same_class (cell_is g d') (cell_is j b')

          here : types_in sh u r ≡ start_at s cls r
          here =
              replaced sh v v-held v-room r (omega arith) u N (many ∙ n_is) front ∙ c (cls r) shares
              ∙ ap (λ (m : ℕ). renumber eqb (map (cls r) (range 0 m))) (part_long ∙ sym size-n)
              ∙ sym (start-proper s cls r i.above (rw (top_is sh (lists_of sh w)) k))

          types-next : (q : ℕ) → 1 ≤ q → q < r + 1 → q < sh.rank → types_in sh u q ≡ start_at s cls q
          unfolding cls
          types-next q b d g = go (ℕ_discrete q r)
            where
              go : Dec (q ≡ r) → types_in sh u q ≡ start_at s cls q
              go (yes p) = rw p here
              go (no p) = stays q (omega arith) p ∙ i.types fs e q b (omega arith) g

        ends_next : (q : ℕ) → (q ≡ 0) ⊎ (q ≡ sh.rank) → types_in sh u q ≡ types_in sh w q
        ends_next q (inl z) = stays q (omega arith) (λ d. omega (arith, i.above)) ∙ i.ends q (inl z)
        ends_next q (inr z) = stays q (omega arith) (λ d. omega arith) ∙ i.ends q (inr z)

        pub begun-next : TypesBegun sh w u cells (r + 1)
        unfolding cls
        begun-next = record {
          above = omega arith;
          long = u-long ∙ i.long;
          lists = lists-kept sh v v-held v-room r (omega arith) u N (many ∙ n_is) front ∙ i.lists;
          ends = ends_next;
          types = λ fs e q b d g. types-next fs e q b d g;
        }
