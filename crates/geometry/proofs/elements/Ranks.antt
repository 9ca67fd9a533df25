-- This file follows the loops over a rank's elements and over the proper ranks.
-- Assumes nothing.
use mathlib.Core.Path.{◌≡◌, refl, sym, ap, ◌∙◌}
use mathlib.Core.List.{List, [], ◌∷◌, ◌++◌, map, append-nil, append_assoc}
use Prim.Native.Nat.{ℕ, zero, suc, ◌+◌, ◌-◌, ◌≤◌, ◌<◌}
use native.Mathlib.Numerals.{add-one}
use native.Mathlib.Omega.{arith}
use lib.ListN.{length, take, drop, set, length-append}
use lib.Seq.{take_all, take_at, take-take, take-suc-set, drop_at, drop-drop, length-take-le}
use Rattle.std.proofs.lemmas.List.{take-append-le}
use borrow.Rule.Slice.PartMut.{post_of, put_mid}
use lib.Ieee.{Float}
use Rattle.spec.specs.Lists.{range, join}
use Rattle.spec.specs.Types.{size, proper_ranks}
use Rattle.spec.specs.Hull.{classes}
use Rattle.spec.specs.Solid.{Concrete}
use Rattle.spec.specs.Classes.{distance_of, distances}
use Rattle.laws.proofs.Lists.{length_table}
use Rattle.float.proofs.Written.{range_snoc}
use Rattle.ranked.specs.declared.Shape.{Shape}
use Rattle.ranked.specs.declared.solid.Solid as declared
use Rattle.ranked.specs.declared.solid.Realized.{Realized}
use Rattle.ranked.specs.Words.{first_at, size_at, abs_in}
use Rattle.ranked.specs.Layout.{proper, coordinates, classes_at, solid_on}
use Rattle.ranked.specs.Layout.{before as before_at}
use Rattle.ranked.specs.Lying.{abs_of, concrete_of}
use Rattle.ranked.proofs.Solids.{top_is, sizes_are, in_order_lem}
use Rattle.geometry.specs.declared.classes.ListedValue.{ListedValue}
use Rattle.geometry.specs.Classes.{Takes}
use Rattle.geometry.specs.Listed.{rank_distances, ListGrown, Classed}
use Rattle.geometry.proofs.elements.Grown.{grown_none, grown_one, grown_more}

-- ---- a rank's elements

-- The first e elements of rank r were taken.
pub record RankTurn (z : Realized) (r : ℕ) (before after : List Float) (n m : ℕ) (cells : List Float) (e : ℕ) : Type 0 where
  pub grown : ListGrown before after n m (map (distance_of (concrete_of z) r) (range 0 e)) (take e cells)

pub first_turn : {z : Realized} {r n : ℕ} {listed cells : List Float} → RankTurn z r listed listed n n cells 0
unfolding range
first_turn {n = n} {listed = listed} = record { grown = grown_none listed n }

module _ {z : Realized} {r : ℕ} {before after : List Float} {n m : ℕ} {cells : List Float} {e : ℕ} (t : RankTurn z r before after n m cells e) where
  pub turn_few : m ≤ n + e
  turn_few = omega (arith, t.grown.few, length_table (distance_of (concrete_of z) r) e)

  -- One element more is taken.
  pub next_turn : e < length cells → {x : Float} → x ≡ distance_of (concrete_of z) r e → {new : List Float} {v : ListedValue} → Takes after new m x v
      → RankTurn z r before new n v.count (set cells e v.value) (e + 1)
  next_turn h {x} q {new} {v} took =
      let f = distance_of (concrete_of z) r in
      let xs : map f (range 0 e) ++ (x ∷ []) ≡ map f (range 0 (e + 1)) =
      ap (λ (y : Float). map f (range 0 e) ++ (y ∷ [])) q ∙ range_snoc f 0 e e (omega arith) ∙ ap (λ (i : ℕ). map f (range 0 i)) (sym (add-one e)) in
      let vs : take e cells ++ (v.value ∷ []) ≡ take (e + 1) (set cells e v.value) = sym (rw add-one (take-suc-set cells e v.value h)) in
      record { grown = rw (xs, vs) at (grown_more t.grown (grown_one took)) }

  pub last_turn : r ≤ z.solid.shape.rank → length cells ≡ size_at z.solid.shape r → e ≤ length cells → length cells ≤ e
      → ListGrown before after n m (rank_distances (concrete_of z) r) cells
  unfolding rank_distances
  last_turn h s low high =
      let many : e ≡ size (abs_in z.solid.shape z.solid.lists.now) r = omega (arith, s, sizes_are z.solid.shape z.solid.lists.now z.solid.held r) in
      rw (take_all e cells high, many) at t.grown

-- ---- the proper ranks

join-snoc : (ls : List (List Float)) (l : List Float) → join (ls ++ (l ∷ [])) ≡ join ls ++ l
unfolding join
join-snoc [] l = append-nil l
join-snoc (k ∷ ls) l = ap (λ (x : List Float). k ++ x) (join-snoc ls l) ∙ sym (append_assoc k (join ls) l)

-- These are the distances of the proper ranks below r.
unfoldable pub below : Concrete → ℕ → List Float
below c r = join (map (rank_distances c) (range 1 (r - 1)))

below_next : (c : Concrete) (r : ℕ) → 1 ≤ r → below c r ++ rank_distances c r ≡ below c (r + 1)
unfolding below
below_next c r h =
    let e : suc (r - 1) ≡ r + 1 - 1 = omega arith in
    sym (join-snoc (map (rank_distances c) (range 1 (r - 1))) (rank_distances c r))
    ∙ ap join (range_snoc (rank_distances c) 1 (r - 1) r (omega arith) ∙ ap (λ (i : ℕ). map (rank_distances c) (range 1 i)) e)

below_none : (c : Concrete) → below c 1 ≡ []
unfolding below range join
below_none c = refl

module _ (s : declared.Solid) (fs : List Float) where
  abbrev sh : Shape
  sh = s.shape

  abbrev c : Concrete
  c = solid_on s.shape s.lists.now fs

  below_all : (r : ℕ) → r - 1 ≡ sh.rank - 1 → below c r ≡ distances c
  unfolding below rank_distances distances proper_ranks
  below_all r e = rw (top_is sh s.lists.now, e)

  rank-length : (r : ℕ) → length (rank_distances c r) ≡ size_at sh r
  unfolding rank_distances
  rank-length r = length_table (distance_of c r) (size (abs_of s) r) ∙ sizes_are sh s.lists.now s.held r

  -- The ranks below r were taken. Where R = 0 there is none, and r is 1 all the same.
  pub record Round (before after : List Float) (n : ℕ) (cells : List Float) (r : ℕ) : Type 0 where
    pub low : 1 ≤ r
    pub high : r - 1 ≤ sh.rank - 1
    pub many : length (below c r) ≡ before_at sh r
    pub grown : ListGrown before after 0 n (below c r) (take (before_at sh r) cells)

  pub first_round : (listed cells : List Float) → Round listed listed 0 cells 1
  first_round listed cells =
      let e = below_none c in
      let z : before_at sh 1 ≡ 0 = omega arith in
      record {
        low = omega arith;
        high = omega arith;
        many = rw (e, z);
        grown = rw (e, z) (grown_none listed 0);
      }

  module _ {before after : List Float} {n : ℕ} {cells : List Float} {r : ℕ} (t : Round before after n cells r) where
    -- A proper rank's elements lie among the proper elements.
    module _ (k : r < sh.rank) (at many : ℕ) (e : at ≡ before_at sh r + 0) (m : many ≡ size_at sh r) where
      pub rank_in : at + many ≤ proper sh
      rank_in =
          let a = in_order_lem sh s.lists.now s.held 1 r t.low (omega arith) in
          let b = s.held.some r (omega arith) in
          let d = in_order_lem sh s.lists.now s.held (suc r) sh.rank k (omega arith) in
          omega arith

      pub next_round : {new part : List Float} {p : ℕ} → ListGrown after new n p (rank_distances c r) part → length part ≡ many → at + many ≤ length cells
          → Round before new p (put_mid at (at + many - at) cells part) (r + 1)
      next_round {new} {part} {p} g long room =
          let f = below_next c r t.low in
          let l = rank-length r in
          let a = in_order_lem sh s.lists.now s.held 1 r t.low (omega arith) in
          let b = s.held.some r (omega arith) in
          let to : at ≡ before_at sh r = omega arith in
          let size : length (take at cells ++ part) ≡ before_at sh (r + 1) = rw (length-append, add-one) (omega (arith, length-take-le at cells (omega arith))) in
          let front : take at cells ++ part ≡ take (before_at sh (r + 1)) (put_mid at (at + many - at) cells part) =
          sym (ap (take (before_at sh (r + 1))) (sym (append_assoc (take at cells) part (post_of at (at + many - at) cells))) ∙ take_at (take at cells ++ part) _ (before_at sh (r + 1)) size) in
          record {
            low = omega arith;
            high = omega arith;
            many = rw (← f, add-one) (omega (arith, length-append (below c r) (rank_distances c r), t.many));
            grown = rw (f, front) at (grown_more (rw (← to) at t.grown) g);
          }

    -- All proper elements lie below the rank after the last proper one.
    all-before : sh.rank ≤ r → before_at sh r ≡ proper sh
    all-before k = go sh.rank refl
      where
        go : (R : ℕ) → sh.rank ≡ R → before_at sh r ≡ proper sh
        go zero e =
            let f : r ≡ 1 = omega (arith, t.low, t.high) in
            omega (arith, ap (first_at sh) f, ap (first_at sh) e, s.held.start)
        go (suc q) e = let f : r ≡ sh.rank = omega (arith, t.low, t.high) in ap (before_at sh) f

    -- When all ranks' distances were taken, the whole solid is classed. The coordinates, the list and the classes stand one after another.
    pub last_round : sh.rank ≤ r → {old new : List Float} → fs ≡ take (coordinates sh) old → length fs ≡ coordinates sh → length after ≡ proper sh
        → new ≡ fs ++ (after ++ cells) → length new ≡ length old → Classed sh s.lists.now old new n
    unfolding classes
    last_round k {old} {new} front wide room is long =
        let ds = distances (solid_on sh s.lists.now old) in
        let same : c ≡ solid_on sh s.lists.now old = rw (front, take-take (coordinates sh) (coordinates sh) old (omega arith)) in
        let e : below c r ≡ ds = below_all r (omega (arith, t.low, t.high)) ∙ ap distances same in
        let b = all-before k in
        let few : n ≤ proper sh = omega (arith, t.grown.few, t.many, b) in
        let g : ListGrown before after 0 n ds (take (proper sh) cells) = rw (e, b) at t.grown in
        let past : drop (coordinates sh) new ≡ after ++ cells = ap (drop (coordinates sh)) is ∙ drop_at fs (after ++ cells) (coordinates sh) wide in
        let last : drop (classes_at sh) new ≡ cells = sym (drop-drop (proper sh) (coordinates sh) new) ∙ ap (drop (proper sh)) past ∙ drop_at after cells (proper sh) room in
        record {
          same = ap (take (coordinates sh)) is ∙ take_at fs (after ++ cells) (coordinates sh) wide ∙ front;
          long = long;
          few = few;
          list = ap (take n) past ∙ take-append-le n after cells (omega (arith, room, few)) ∙ g.list;
          cells = ap (take (proper sh)) last ∙ g.taken;
        }
