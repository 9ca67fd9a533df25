-- This file has the order that subs generate: its laws, its least and its greatest element, and the test behind refusal 5.
-- Assumes nothing.
use mathlib.Core.Path.{◌≡◌, refl, sym, ap, subst}
use mathlib.Core.Logic.{◌≢◌, inl, inr}
use Prim.Native.Nat.{ℕ, zero, suc, ◌+◌, ◌-◌, ◌≤◌, ◌<◌}
use mathlib.Core.Bool.{true}
use mathlib.Core.List.{List, [], ◌∷◌}
use native.Mathlib.Omega.{arith}
use native.Mathlib.Decide.{dec_lt}
use lib.ListN.{length, get_or}
use lib.Dec.{ltb, lt→ltb}
use Rattle.spec.specs.Lists.{In, range, every}
use Rattle.spec.specs.Types.{Solid, top, size, subs, sups}
use Rattle.spec.specs.Demand.{Sound}
use Rattle.spec.specs.Solid.{bound}
use Rattle.spec.specs.Polytope.{Element, element, IsElement, IsSub, AtMost, itself, over, Comparable, least_element, top_element}
use Rattle.laws.specs.PolytopeLaws.{Filled, EveryOrder, EveryBound}
use Rattle.laws.proofs.Lists.{in_get_d, in_range_lem, of_range}
use Rattle.laws.proofs.Counts.{T→true}
use Rattle.laws.proofs.Marked.{lt_test, every_in}
use Rattle.laws.proofs.Exchange.{in_every}
use Rattle.laws.proofs.SolidLaws.{every-sups}

not_empty : (x : ℕ) (l : List ℕ) → In x l → ltb 0 (length l) ≡ true
not_empty x (y ∷ l) m = T→true (ltb 0 (length (y ∷ l))) (lt→ltb 0 (length (y ∷ l)) (omega arith))
not_empty x [] m = elim m [ ]

module _ {s : Solid} where
  -- ---- ranks

  pub at-most-rank : {F G : Element} → AtMost s F G → F.rank ≤ G.rank
  at-most-rank itself = omega arith
  at-most-rank (over a c) = omega (arith, at-most-rank a, c.0)

  -- An element is at most no other of its rank.
  pub same_rank : {F G : Element} → AtMost s F G → G.rank ≤ F.rank → F ≡ G
  same_rank itself h = refl
  same_rank (over a c) h = absurd (omega (arith, at-most-rank a, c.0))

  pub transitive : {F G H : Element} → AtMost s F G → AtMost s G H → AtMost s F H
  transitive a itself = a
  transitive a (over b c) = over (transitive a b) c

  pub below-rank : {F G : Element} → AtMost s F G → F ≢ G → F.rank < G.rank
  below-rank itself n = absurd (n refl)
  below-rank (over a c) n = omega (arith, at-most-rank a, c.0)

  -- Of two comparable elements the one of the lower rank is at most the other.
  pub by_rank_lem : {F G : Element} → Comparable s F G → F.rank ≤ G.rank → AtMost s F G
  by_rank_lem (inl a) h = a
  by_rank_lem {F} {G} (inr a) h = subst (λ (H : Element). AtMost s F H) (sym (same_rank a h)) itself

  pub alike : {F G : Element} → Comparable s F G → F.rank ≡ G.rank → F ≡ G
  alike c e = same_rank (by_rank_lem c (omega arith)) (omega arith)

  -- ---- the last step up to an element

  pub last : {F G : Element} → AtMost s F G → F.rank < G.rank → (H : Element) × AtMost s F H × IsSub s H G
  last itself h = absurd (omega arith)
  last (over {G = H} a c) h = (H, a, c)

  pub one_up : {F G : Element} → AtMost s F G → G.rank ≡ suc F.rank → IsSub s F G
  one_up {F} {G} a e =
      let l = last a (omega arith) in
      subst (λ (H : Element). IsSub s H G) (sym (same_rank l.1 (omega (arith, l.2.0)))) l.2

  -- ---- the first step up from an element

  pub first_step : {F G : Element} → AtMost s F G → F.rank < G.rank → (H : Element) × IsSub s F H × AtMost s H G
  first_step itself h = absurd (omega arith)
  first_step {F} {G = H} (over {G} a c) h = go (dec_lt F.rank G.rank) (first_step a)
    where
      go : Dec (F.rank < G.rank) → (F.rank < G.rank → (K : Element) × IsSub s F K × AtMost s K G) → (K : Element) × IsSub s F K × AtMost s K H
      go (yes l) f = let k = f l in (k.0, k.1, over k.2 c)
      go (no l) f = (H, subst (λ (K : Element). IsSub s K H) (sym (same_rank a (omega arith))) c, itself)

module _ (s : Solid) (v : Sound s) where
  pub closed : {F G : Element} → IsElement s G → AtMost s F G → IsElement s F
  closed h itself = h
  closed {G = H} h (over {G} a c) = closed sub a
    where
      sub : IsElement s G
      sub = (omega (arith, h.0, c.0), v.below G.rank H.number G.number (subst (λ (r : ℕ). In G.number (subs s r H.number)) c.0 c.1))

  -- The least and the top are the only elements of their ranks.
  one-least : size s 0 ≡ 1
  one-least = ap length v.least

  long : 0 < length s
  long = go s one-least
    where
      go : (t : Solid) → size t 0 ≡ 1 → 0 < length t
      go [] e = absurd (omega arith)
      go (x ∷ t) e = omega arith

  pub least_is : IsElement s least_element
  least_is = (omega arith, omega (arith, one-least))

  pub top_is : IsElement s (top_element s)
  top_is = (omega arith, omega (arith, v.one))

  module _ (full : Filled s) where
    from-least : (r e : ℕ) → e < size s r → AtMost s least_element (element r e)
    from-least zero e h = let z : e ≡ 0 = omega (arith, one-least) in rw z itself
    from-least (suc r) e h =
        let m = in_get_d 0 (subs s (suc r) e) 0 (full r e h) in
        over (from-least r (get_or (subs s (suc r) e) 0 0) (v.below r e _ m)) (refl, m)

    -- The test behind refusal 5 says this of one element.
    has_sup : bound s ≡ true → (r e : ℕ) → 0 < r → suc r < top s → e < size s r → (f : ℕ) × (f < size s (suc r)) × In e (subs s (suc r) f)
    unfolding bound
    has_sup b r e h₀ h₁ low =
        let k = lt_test 0 (length (sups s r e))
        (every_in (λ x. ltb 0 (length (sups s r x))) (range 0 (size s r))
        (every_in (λ q. every (λ x. ltb 0 (length (sups s q x))) (range 0 (size s q))) (range 1 (top s - 2)) b
        r (in_range_lem 1 (top s - 2) r (omega arith) (omega arith))) e (in_range_lem 0 (size s r) e (omega arith) (omega arith))) in
        let w = ((every-sups s).derived r e (get_or (sups s r e) 0 0)).0 (in_get_d 0 (sups s r e) 0 k) in
        (get_or (sups s r e) 0 0, w.0, w.1)

    -- The proof is by induction on d, which is how many ranks stand above r.
    to_top : bound s ≡ true → (d r e : ℕ) → r + d ≡ top s → e < size s r → AtMost s (element r e) (top_element s)
    to_top b zero r e h low =
        let p : r ≡ top s = omega arith in
        let z : e ≡ 0 = omega (arith, v.one, rw p at low) in
        rw (p, z) itself
    to_top b (suc zero) r e h low =
        let p : top s - 1 ≡ r = omega arith in
        let c : IsSub s (element r e) (top_element s) = (omega arith, rw (v.all (omega arith), p) (in_range_lem 0 (size s r) e (omega arith) (omega arith))) in
        over itself c
    to_top b (suc (suc d)) zero e h low = let z : e ≡ 0 = omega (arith, one-least) in rw z (from-least (top s) 0 top_is.1)
    to_top b (suc (suc d)) (suc r) e h low =
        let k = has_sup b (suc r) e (omega arith) (omega arith) low in
        transitive (over itself (refl, k.2)) (to_top b (suc d) (suc (suc r)) k.0 (omega arith) k.1)

    pub least_under : (F : Element) → IsElement s F → AtMost s least_element F
    least_under F h = from-least F.rank F.number h.1

    pub top-over : bound s ≡ true → (F : Element) → IsElement s F → AtMost s F (top_element s)
    top-over b F h = to_top b (top s - F.rank) F.rank F.number (omega (arith, h.0)) h.1

    -- Where every element is at most the top, each has a sup.
    bound_of : ((F : Element) → IsElement s F → AtMost s F (top_element s)) → bound s ≡ true
    unfolding bound
    bound_of f =
        in_every _ (range 1 (top s - 2)) (λ r mr.
        in_every _ (range 0 (size s r)) (λ e me.
        let kr = of_range 1 (top s - 2) r mr in
        let ke = of_range 0 (size s r) e me in
        let k = first_step (f (element r e) (omega (arith, kr.1), omega (arith, ke.1))) (omega (arith, kr.1)) in
        not_empty _ (sups s r e) (((every-sups s).derived r e k.0.number).1 (up r e k.0 k.1 (closed top_is k.2)))))
      where
        up : (r e : ℕ) (H : Element) → IsSub s (element r e) H → IsElement s H → (H.number < size s (suc r)) × In e (subs s (suc r) H.number)
        up r e H c h = (rw c.0 at h.1, rw c.0 at c.1)

pub every_order : EveryOrder
every_order s v full b = record {
  reflexive = λ F. itself;
  transitive = λ F G H. transitive;
  antisymmetric = λ F G a c. same_rank a (at-most-rank c);
  ranks = λ F G h. below-rank h.0 h.1;
  closed = λ F G. closed s v;
  least = (least_is s v, least_under s v full);
  greatest = (top_is s v, top-over s v full b);
}

pub every-bound : EveryBound
every-bound s v full = (top-over s v full, bound_of s v full)
