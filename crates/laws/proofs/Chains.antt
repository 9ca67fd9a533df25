-- The maximal chains of a solid are the sets of elements of its flags.
-- Assumes nothing.
use mathlib.Core.Path.{◌≡◌, refl, sym, ◌∙◌, ap, subst}
use mathlib.Core.Logic.{◌⊎◌, ◌↔◌, inl, inr}
use Prim.Native.Nat.{ℕ, zero, suc, ◌-◌, ◌≤◌, ◌<◌}
use mathlib.Core.Bool.{true}
use mathlib.Core.List.{List, [], ◌∷◌, ◌++◌, map}
use native.Mathlib.Nat.{le_antisymm}
use native.Mathlib.Omega.{arith}
use native.Mathlib.Decide.{ℕ_discrete, dec_lt}
use lib.ListN.{length, length-map, get_or-append}
use lib.Seq.{ext_get_or}
use lib.Dec.{eqb}
use Rattle.spec.specs.Lists.{In, range}
use Rattle.spec.specs.Types.{Solid, top, subs}
use Rattle.spec.specs.Demand.{Sound}
use Rattle.spec.specs.Solid.{bound}
use Rattle.spec.specs.Flags.{Flag, element_at, IsFlag}
use Rattle.spec.specs.Polytope.{Element, element, IsElement, IsSub, AtMost, itself, over, Comparable, least_element, top_element, IsChain, IsMaximal, SameSet, NoneTwice, elements_of}
use Rattle.laws.specs.PolytopeLaws.{Filled, EveryMaximalChain}
use Rattle.laws.proofs.Distinct.{Once, pigeons}
use Rattle.laws.proofs.Lists.{map_in, in_map, once_map, in_range_lem, of_range, once_range, length-range}
use Rattle.laws.proofs.Counts.{numbers}
use Rattle.laws.proofs.FlagList.{To, more, every_flag_once}
use Rattle.laws.proofs.Order.{transitive, by_rank_lem, alike, last, closed, least_is, top_is, least_under, top-over}

-- ---- any solid

either_way : {s : Solid} {F G : Element} → Comparable s F G → Comparable s G F
either_way (inl a) = inr a
either_way (inr a) = inl a

module _ (s : Solid) where
  -- Every element that is comparable with all of C is in C.
  abbrev Saturated : List Element → Type 0
  Saturated C = (F : Element) → IsElement s F → ((G : Element) → In G C → Comparable s F G) → In F C

  one_more : (C : List Element) → IsChain s C → (F : Element) → IsElement s F → ((G : Element) → In G C → Comparable s F G) → IsChain s (F ∷ C)
  one_more C c F h k = record { elements = elements; comparable = comparable }
    where
      elements : (G : Element) → In G (F ∷ C) → IsElement s G
      elements G (inl q) = rw q h
      elements G (inr m) = c.elements G m

      comparable : (G H : Element) → In G (F ∷ C) → In H (F ∷ C) → Comparable s G H
      comparable G H (inl q) (inl p) = rw (q, p) (inl itself)
      comparable G H (inl q) (inr m) = rw q (k H m)
      comparable G H (inr m) (inl p) = rw p (either_way (k G m))
      comparable G H (inr m) (inr n) = c.comparable G H m n

  pub saturated : (C : List Element) → IsMaximal s C ↔ (IsChain s C × Saturated C)
  saturated C = (
    λ w. (w.chain, λ F h k. w.largest (F ∷ C) (one_more C w.chain F h k) (λ G m. inr m) F (inl refl)),
    λ w. record { chain = w.0; largest = λ D d i F m. w.1 F (d.elements F m) (λ G n. d.comparable F G m (i G n)) },
  )

  -- Tells whether a list is a maximal chain depends only on the set that it stands for.
  same_maximal : (C D : List Element) → SameSet C D → IsMaximal s D → IsMaximal s C
  same_maximal C D e w = record {
    chain = record {
      elements = λ F m. w.chain.elements F (e.0 F m);
      comparable = λ F G m n. w.chain.comparable F G (e.0 F m) (e.0 G n);
    };
    largest = λ B b i F m. e.1 F (w.largest B b (λ G n. i G (e.1 G n)) F m);
  }

-- ---- the elements of a flag

in_flag : (F : Flag) (r : ℕ) → r < length F → In (element r (element_at F r)) (elements_of F)
unfolding elements_of
in_flag F r h = map_in (λ (q : ℕ). element q (element_at F q)) r (range 0 (length F)) (in_range_lem 0 (length F) r (omega arith) (omega arith))

of_flag : (F : Flag) (G : Element) → In G (elements_of F) → (G.rank < length F) × (G.number ≡ element_at F G.rank)
unfolding elements_of
of_flag F G m =
    let k = in_map (λ (q : ℕ). element q (element_at F q)) G (range 0 (length F)) m in
    let r : G.rank ≡ k.0 = ap (λ (H : Element). H.rank) k.2 in
    let h = of_range 0 (length F) k.0 k.1 in
    (omega (arith, h.1), ap (λ (H : Element). H.number) k.2 ∙ ap (element_at F) (sym r))

-- ---- the highest of some elements below a rank

record Highest (n : ℕ) (C : List Element) (B : Element) : Type 0 where
  it : Element
  here : (it ≡ B) ⊎ In it C
  low : it.rank < n
  over_first : B.rank ≤ it.rank
  over-all : (L : Element) → In L C → L.rank < n → L.rank ≤ it.rank

highest : (n : ℕ) (C : List Element) (B : Element) → B.rank < n → Highest n C B
highest n [] B h = record { it = B; here = inl refl; low = h; over_first = omega arith; over-all = λ L m. absurd m }
highest n (K ∷ C) B h = go (dec_lt K.rank n) (dec_lt B.rank K.rank) (highest n C B h) (highest n C K)
  where
    here_in : (H : Element) → (H ≡ B) ⊎ In H C → (H ≡ B) ⊎ In H (K ∷ C)
    here_in H (inl q) = inl q
    here_in H (inr m) = inr (inr m)

    here_at : (H : Element) → (H ≡ K) ⊎ In H C → (H ≡ B) ⊎ In H (K ∷ C)
    here_at H q = inr q

    all : (H : Element) → (K.rank < n → K.rank ≤ H.rank) → ((L : Element) → In L C → L.rank < n → L.rank ≤ H.rank) → (L : Element) → In L (K ∷ C) → L.rank < n → L.rank ≤ H.rank
    all H f g L (inl q) l = rw q (f (rw q at l))
    all H f g L (inr m) l = g L m l

    keep-first : (K.rank < n → K.rank ≤ B.rank) → Highest n C B → Highest n (K ∷ C) B
    keep-first f w = record {
      it = w.it;
      here = here_in w.it w.here;
      low = w.low;
      over_first = w.over_first;
      over-all = all w.it (λ l. omega (arith, f l, w.over_first)) w.over-all;
    }

    go : Dec (K.rank < n) → Dec (B.rank < K.rank) → Highest n C B → (K.rank < n → Highest n C K) → Highest n (K ∷ C) B
    go (no a) b w f = keep-first (λ l. absurd (a l)) w
    go (yes a) (no b) w f = keep-first (λ l. omega arith) w
    go (yes a) (yes b) w f =
        let u = f a in
        record {
          it = u.it;
          here = here_at u.it u.here;
          low = u.low;
          over_first = omega (arith, u.over_first);
          over-all = all u.it (λ l. u.over_first) u.over-all;
        }

module _ (s : Solid) (v : Sound s) (full : Filled s) (b : bound s ≡ true) where
  -- ---- a maximal chain goes down by subs

  module _ (C : List Element) (w : IsMaximal s C) where
    sat : Saturated s C
    sat = ((saturated s C).0 w).1

    has_least : In least_element C
    has_least = sat least_element (least_is s v) (λ G m. inl (least_under s v full G (w.chain.elements G m)))

    has_top : In (top_element s) C
    has_top = sat (top_element s) (top_is s v) (λ G m. inr (top-over s v full b G (w.chain.elements G m)))

    -- Let H be the highest of the members of rank r or less. It is at most a sub X of the given member of rank r + 1. Every member is either at most
    -- H or at least the given one, so X is comparable with all of them, and is a member itself.
    sub_in : (r e : ℕ) → In (element (suc r) e) C → (x : ℕ) × In x (subs s (suc r) e) × In (element r x) C
    sub_in r e m =
        let G = element (suc r) e in
        let h = highest (suc r) C least_element (omega arith) in
        let H = h.it in
        let mH : In H C = there H h.here in
        let l = last (by_rank_lem (w.chain.comparable H G mH m) (omega (arith, h.low))) h.low in
        let X = l.0 in
        let k : X.rank ≡ r = omega (arith, l.2.0) in
        let mX : In X C = sat X (closed s v (w.chain.elements G m) (over itself l.2)) (λ L n. at L n h mH X l.1 l.2 (dec_lt L.rank (suc r))) in
        (X.number, l.2.1, subst (λ (q : ℕ). In (element q X.number) C) k mX)
      where
        there : (H : Element) → (H ≡ least_element) ⊎ In H C → In H C
        there H (inl q) = rw q has_least
        there H (inr n) = n

        at : (L : Element) → In L C → (h : Highest (suc r) C least_element) → In h.it C → (X : Element) → AtMost s h.it X → IsSub s X (element (suc r) e) → Dec (L.rank < suc r) → Comparable s X L
        at L n h mH X a c (yes l) = inr (transitive (by_rank_lem (w.chain.comparable L h.it n mH) (h.over-all L n l)) a)
        at L n h mH X a c (no l) = inl (transitive (over itself c) (by_rank_lem (w.chain.comparable (element (suc r) e) L m n) (omega arith)))

    -- From any member the chain goes down, rank by rank, as a flag up to that member.
    down : (r e : ℕ) → In (element r e) C → (F : Flag) × To s r e F × ((q : ℕ) → q ≤ r → In (element q (element_at F q)) C)
    down zero e m = (
      e ∷ [],
      record { long = refl; end = refl; chain = λ q h. absurd (omega arith) },
      λ q h. let z : q ≡ 0 = omega arith in rw z m,
    )
    down (suc r) e m =
        let k = sub_in r e m in
        let d = down r k.0 k.2 in
        let u = more s r k.0 e d.0 d.1 k.1 in
        (d.0 ++ (e ∷ []), u, λ q h. go d.0 d.1.long d.2 u.end q h (ℕ_discrete q (suc r)))
      where
        go : (G : Flag) → length G ≡ suc r → ((q : ℕ) → q ≤ r → In (element q (element_at G q)) C) → element_at (G ++ (e ∷ [])) (suc r) ≡ e
            → (q : ℕ) → q ≤ suc r → Dec (q ≡ suc r) → In (element q (element_at (G ++ (e ∷ [])) q)) C
        go G l i p q h (yes z) = rw (z, p) m
        go G l i p q h (no n) = rw (get_or-append G (e ∷ []) 0 q (omega arith)) (i q (omega arith))

    flag_of : (F : Flag) × IsFlag s F × SameSet C (elements_of F)
    flag_of =
        let d = down (top s) 0 has_top in
        let F = d.0 in
        let t = d.1 in (
          F,
          record { ranks = t.long; peak = t.end; chain = t.chain },
          (
            λ G m. let low = (w.chain.elements G m).0 in
                let q : element G.rank (element_at F G.rank) ≡ G = alike (w.chain.comparable _ G (d.2 G.rank low) m) refl in
                subst (λ (H : Element). In H (elements_of F)) q (in_flag F G.rank (omega (arith, t.long))),
            λ G m. let k = of_flag F G m in
                subst (λ (e : ℕ). In (element G.rank e) C) (sym k.1) (d.2 G.rank (omega (arith, t.long, k.0))),
          ),
        )

  -- ---- a flag's elements are a maximal chain

  module _ (F : Flag) (w : IsFlag s F) where
    on : ℕ → Element
    on r = element r (element_at F r)

    climb : (p q : ℕ) → p ≤ q → q ≤ top s → AtMost s (on p) (on q)
    unfolding on
    climb p zero h k = let z : p ≡ 0 = omega arith in rw z itself
    climb p (suc q) h k = go (ℕ_discrete p (suc q)) (λ l. climb p q l (omega arith))
      where
        go : Dec (p ≡ suc q) → (p ≤ q → AtMost s (on p) (on q)) → AtMost s (on p) (on (suc q))
        go (yes z) f = rw z itself
        go (no n) f = over (f (omega arith)) (refl, w.chain q (omega arith))

    on_is : (r : ℕ) → r ≤ top s → IsElement s (on r)
    unfolding on
    on_is r h = closed s v (rw w.peak (top_is s v)) (climb r (top s) h (omega arith))

    -- A member of the set is the flag's element of its rank.
    is_on : (G : Element) → In G (elements_of F) → (G ≡ on G.rank) × (G.rank ≤ top s)
    unfolding on
    is_on G m = let k = of_flag F G m in (ap (element G.rank) k.1, omega (arith, k.0, w.ranks))

    flag_chain : IsChain s (elements_of F)
    unfolding on
    flag_chain = record {
      elements = λ G m. let k = is_on G m in rw k.0 (on_is G.rank k.1);
      comparable = λ G H m n.
          let k = is_on G m in
          let l = is_on H n in
          rw (k.0, l.0) (pair G.rank H.rank k.1 l.1 (dec_lt G.rank H.rank));
    }
      where
        pair : (p q : ℕ) → p ≤ top s → q ≤ top s → Dec (p < q) → Comparable s (on p) (on q)
        pair p q h k (yes l) = inl (climb p q (omega arith) k)
        pair p q h k (no l) = inr (climb q p (omega arith) h)

    flag_maximal : IsMaximal s (elements_of F)
    unfolding on
    flag_maximal = record {
      chain = flag_chain;
      largest = λ D d i G m.
          let low = (d.elements G m).0 in
          let n = in_flag F G.rank (omega (arith, w.ranks)) in
          subst (λ (H : Element). In H (elements_of F)) (alike (d.comparable (on G.rank) G (i _ n) m) refl) n;
    }

  -- ---- and only a flag's are

  maximal_flag : (F : Flag) → IsMaximal s (elements_of F) → IsFlag s F
  maximal_flag F w =
      let C = elements_of F in
      let t = of_flag F (top_element s) (has_top C w) in
      let n = w.chain.elements (element (length F - 1) (element_at F (length F - 1))) (in_flag F (length F - 1) (omega (arith, t.0))) in
      record {
        ranks = omega (arith, t.0, n.0);
        peak = sym t.1;
        chain = λ r h.
            let k = sub_in C w r (element_at F (suc r)) (in_flag F (suc r) (omega (arith, t.0))) in
            subst (λ (x : ℕ). In x (subs s (suc r) (element_at F (suc r)))) (of_flag F (element r k.0) k.2).1 k.1;
      }

  -- ---- one of each rank

  one_each : (C : List Element) → IsMaximal s C → (r : ℕ) → r ≤ top s → (e : ℕ) × In (element r e) C × ((f : ℕ) → In (element r f) C → f ≡ e)
  one_each C w r h =
      let F = flag_of C w in (
        element_at F.0 r,
        F.2.1 _ (in_flag F.0 r (omega (arith, F.1.ranks))),
        λ f m. (of_flag F.0 (element r f) (F.2.0 _ m)).1,
      )

  as_many : (C : List Element) → IsMaximal s C → NoneTwice C → length C ≡ suc (top s)
  as_many C w o =
      let n = suc (top s) in
      let rs = map (λ F. F.rank) C in
      let once = once_map (λ (F : Element). F.rank) C (λ F G m k e. alike (w.chain.comparable F G m k) e) (once_of C o) in
      sym (length-map C (λ F. F.rank)) ∙ le_antisymm
      (rw (length-range 0 n) at (pigeons eqb numbers rs (range 0 n) once (λ r m. let k = in_map (λ (F : Element). F.rank) r C m in in_range_lem 0 n r (omega arith) (omega (arith, k.2, (w.chain.elements k.0 k.1).0)))))
      (rw (length-range 0 n) at (pigeons eqb numbers (range 0 n) rs (once_range 0 n) (λ r m. map_in (λ (F : Element). F.rank) _ C (one_each C w r (omega (arith, (of_range 0 n r m).1))).1)))
    where
      once_of : (D : List Element) → NoneTwice D → Once D
      once_of [] o = tt
      once_of (F ∷ D) o = (o.0, once_of D o.1)

pub every_maximal_chain : EveryMaximalChain
every_maximal_chain s v full b = record {
  saturated = saturated s;
  flag = λ F. (flag_maximal s v full b F, maximal_flag s v full b F);
  exact = λ C. (flag_of s v full b C, λ k. same_maximal s C (elements_of k.0) k.2 (flag_maximal s v full b k.0 k.1));
  listed = λ C. (
    λ w. let F = flag_of s v full b C w in (F.0, ((every_flag_once s v).exact F.0).1 F.1, F.2),
    λ k. same_maximal s C (elements_of k.0) k.2 (flag_maximal s v full b k.0 (((every_flag_once s v).exact k.0).0 k.1)),
  );
  only = λ F G w u e. ext_get_or 0 F G (w.ranks ∙ sym u.ranks) (λ i h. (of_flag G _ (e.0 _ (in_flag F i h))).1);
  one_each = one_each s v full b;
  as_many = as_many s v full b;
}
