-- A flag is changed at a proper rank, in a solid that has the diamond property.
-- Assumes nothing.
use mathlib.Core.Path.{◌≡◌, refl, sym, ◌∙◌, ap}
use mathlib.Core.Logic.{◌≢◌, inl, inr}
use Prim.Native.Nat.{ℕ, zero, suc, ◌-◌, ◌<◌}
use mathlib.Core.Bool.{Bool, true, false, not}
use mathlib.Core.List.{List, [], ◌∷◌}
use native.Mathlib.Omega.{arith}
use native.Mathlib.Decide.{ℕ_discrete}
use lib.ListN.{length, get_or, set, length-set}
use lib.Seq.{get_or-set_same, get_or-set_other, set-set, set-get_or, ext_get_or}
use lib.Dec.{eqb}
use Rattle.spec.specs.Lists.{In, holds, range, keep, every}
use Rattle.spec.specs.Types.{Solid, top, size, subs, proper_ranks}
use Rattle.spec.specs.Demand.{Sound}
use Rattle.spec.specs.Solid.{between, diamond}
use Rattle.spec.specs.Flags.{Flag, element_at, other, change, IsFlag}
use Rattle.laws.specs.FlagLaws.{DifferAt, Changed, EveryChange}
use Rattle.laws.proofs.Distinct.{Once, Split, split}
use Rattle.laws.proofs.Lists.{in_range_lem}
use Rattle.laws.proofs.Counts.{numbers, keep_in, in_keep, once_keep, holds_in, in_holds}
use Rattle.laws.proofs.Carry.{rising_once}
use Rattle.laws.proofs.Marked.{every_in}

-- ---- a list of two

-- The two members of l are x and y, and `other` goes from each to the other.
record Two (l : List ℕ) (x y : ℕ) : Type 0 where
  apart : x ≢ y
  there : other x l ≡ y
  back : other y l ≡ x
  holds_y : In y l
  only : (z : ℕ) → In z l → z ≢ x → z ≡ y

unlike : (a b : ℕ) → a ≢ b → eqb a b ≡ false
unlike a b n = go (split eqb numbers a b)
  where
    go : Split eqb numbers a b → eqb a b ≡ false
    go (inl p) = absurd (n p.0)
    go (inr p) = p.1

keep_yes : (p : ℕ → Bool) (x : ℕ) (l : List ℕ) → p x ≡ true → keep p (x ∷ l) ≡ x ∷ keep p l
unfolding keep
keep_yes p x l e = rw (e, keep)

keep_no : (p : ℕ → Bool) (x : ℕ) (l : List ℕ) → p x ≡ false → keep p (x ∷ l) ≡ keep p l
unfolding keep
keep_no p x l e = rw (e, keep)

from_first : (a b : ℕ) → a ≢ b → other a (a ∷ b ∷ []) ≡ b
unfolding other
from_first a b n =
    let p : ℕ → Bool = λ x. not (eqb x a) in
    ap (λ (l : List ℕ). get_or l 0 a) (keep_no p a (b ∷ []) (ap not (numbers.pass a)) ∙ keep_yes p b [] (ap not (unlike b a (λ e. n (sym e)))))

from_second : (a b : ℕ) → a ≢ b → other b (a ∷ b ∷ []) ≡ a
unfolding other
from_second a b n =
    let p : ℕ → Bool = λ x. not (eqb x b) in
    ap (λ (l : List ℕ). get_or l 0 b) (keep_yes p a (b ∷ []) (ap not (unlike a b n)))

two : (l : List ℕ) → Once l → length l ≡ 2 → (x : ℕ) → In x l → (y : ℕ) × Two l x y
two [] o k x m = absurd (omega arith)
two (a ∷ []) o k x m = absurd (omega arith)
two (a ∷ b ∷ c ∷ l) o k x m = absurd (omega arith)
two (a ∷ b ∷ []) o k x m = go m
  where
    n : a ≢ b
    n p = o.0 (inl p)

    go : In x (a ∷ b ∷ []) → (y : ℕ) × Two (a ∷ b ∷ []) x y
    go (inl p) = (
      b,
      record {
        apart = λ q. n (sym p ∙ q);
        there = rw p (from_first a b n);
        back = rw p (from_second a b n);
        holds_y = inr (inl refl);
        only = λ z h u. pick z h (λ q. u (q ∙ sym p));
      },
    )
      where
        pick : (z : ℕ) → In z (a ∷ b ∷ []) → z ≢ a → z ≡ b
        pick z (inl q) u = absurd (u q)
        pick z (inr (inl q)) u = q
        pick z (inr (inr x13)) u = elim x13 [ ]
    go (inr (inr x11)) = elim x11 [ ]
    go (inr (inl p)) = (
      a,
      record {
        apart = λ q. n (sym (sym p ∙ q));
        there = rw p (from_second a b n);
        back = rw p (from_first a b n);
        holds_y = inl refl;
        only = λ z h u. pick z h (λ q. u (q ∙ sym p));
      },
    )
      where
        pick : (z : ℕ) → In z (a ∷ b ∷ []) → z ≢ b → z ≡ a
        pick z (inr (inr x14)) u = elim x14 [ ]
        pick z (inl q) u = q
        pick z (inr (inl q)) u = absurd (u q)

-- ---- the diamond, at an element, a sub of it and a sub of that

pub diamond-at : (s : Solid) → diamond s ≡ true → (r : ℕ) → 0 < r → r < top s → (g h x : ℕ) → g < size s (suc r) → In x (subs s (suc r) g) → In h (subs s r x) → length (between s r g h) ≡ 2
unfolding diamond proper_ranks
diamond-at s d r k₀ k₁ g h x k a b =
    numbers.sound (length (between s r g h)) 2
    (every_in (λ e. eqb (length (between s r g e)) 2) (subs s r x)
    (every_in (λ f. every (λ e. eqb (length (between s r g e)) 2) (subs s r f)) (subs s (suc r) g)
    (every_in (λ g. every (λ f. every (λ e. eqb (length (between s r g e)) 2) (subs s r f)) (subs s (suc r) g)) (range 0 (size s (suc r)))
    (every_in (λ r. every (λ g. every (λ f. every (λ e. eqb (length (between s r g e)) 2) (subs s r f)) (subs s (suc r) g)) (range 0 (size s (suc r)))) (proper_ranks s) d
    r (in_range_lem 1 (top s - 1) r (omega arith) (omega arith)))
    g (in_range_lem 0 (size s (suc r)) g (omega arith) (omega arith))) x a) h b)

-- ---- the change

module _ (s : Solid) (v : Sound s) (d : diamond s ≡ true) (q : ℕ) (high : suc q < top s) where
  -- An element of a flag is one of its rank's.
  low_flag : (F : Flag) → IsFlag s F → element_at F (suc (suc q)) < size s (suc (suc q))
  low_flag F w = go (ℕ_discrete (suc (suc q)) (top s))
    where
      go : Dec (suc (suc q) ≡ top s) → element_at F (suc (suc q)) < size s (suc (suc q))
      go (yes p) = rw (p, w.peak, v.one) (omega arith)
      go (no n) = v.below (suc (suc q)) (element_at F (suc (suc (suc q)))) (element_at F (suc (suc q))) (w.chain (suc (suc q)) (omega arith))

  -- Lists the elements of rank r between g and h.
  mid : ℕ → ℕ → List ℕ
  mid g h = between s (suc q) g h

  to_mid : (g h x : ℕ) → In x (subs s (suc (suc q)) g) → In h (subs s (suc q) x) → In x (mid g h)
  unfolding between mid
  to_mid g h x a b = keep_in (λ f. holds eqb h (subs s (suc q) f)) x (subs s (suc (suc q)) g) a (holds_in h (subs s (suc q) x) b)

  of_mid : (g h x : ℕ) → In x (mid g h) → In x (subs s (suc (suc q)) g) × In h (subs s (suc q) x)
  unfolding between mid
  of_mid g h x m =
      let k = in_keep (λ f. holds eqb h (subs s (suc q) f)) x (subs s (suc (suc q)) g) m in
      (k.0, in_holds h (subs s (suc q) x) k.1)

  once_mid : (g h : ℕ) → Once (mid g h)
  unfolding between mid
  once_mid g h = once_keep (λ f. holds eqb h (subs s (suc q) f)) (subs s (suc (suc q)) g) (rising_once (subs s (suc (suc q)) g) (v.rising (suc (suc q)) g))

  two_mid : (g h x : ℕ) → g < size s (suc (suc q)) → In x (subs s (suc (suc q)) g) → In h (subs s (suc q) x) → length (mid g h) ≡ 2
  unfolding mid
  two_mid g h x k a b = diamond-at s d (suc q) (omega arith) high g h x k a b

  module _ (F : Flag) (w : IsFlag s F) where
    L : List ℕ
    L = mid (element_at F (suc (suc q))) (element_at F q)

    up_link : In (element_at F (suc q)) (subs s (suc (suc q)) (element_at F (suc (suc q))))
    up_link = w.chain (suc q) high

    down_link : In (element_at F q) (subs s (suc q) (element_at F (suc q)))
    down_link = w.chain q (omega arith)

    pair : (y : ℕ) × Two L (element_at F (suc q)) y
    unfolding L
    pair =
        let g = element_at F (suc (suc q)) in
        let h = element_at F q in
        two (mid g h) (once_mid g h) (two_mid g h (element_at F (suc q)) (low_flag F w) up_link down_link) (element_at F (suc q)) (to_mid g h (element_at F (suc q)) up_link down_link)

    y : ℕ
    y = pair.0

    t : Two L (element_at F (suc q)) y
    unfolding y
    t = pair.1

    inside : suc q < length F
    inside = omega (arith, w.ranks)

    new : Flag
    new = set F (suc q) y

    at_new : element_at new (suc q) ≡ y
    unfolding new
    at_new = get_or-set_same F (suc q) y 0 inside

    off_new : (p : ℕ) → p ≢ suc q → element_at new p ≡ element_at F p
    unfolding new
    off_new p n = get_or-set_other F (suc q) p y 0 n

    change_is : change s (suc q) F ≡ new
    unfolding change new L mid
    change_is = ap (λ (e : ℕ). set F (suc q) e) t.there

    links : In y (subs s (suc (suc q)) (element_at F (suc (suc q)))) × In (element_at F q) (subs s (suc q) y)
    unfolding L
    links = of_mid (element_at F (suc (suc q))) (element_at F q) y t.holds_y

    new_flag : IsFlag s new
    unfolding new
    new_flag = record {
      ranks = length-set F (suc q) y ∙ w.ranks;
      peak = off_new (top s) (omega arith) ∙ w.peak;
      chain = λ p h. go p h (ℕ_discrete p (suc q)) (ℕ_discrete p q);
    }
      where
        go : (p : ℕ) → p < top s → Dec (p ≡ suc q) → Dec (p ≡ q) → In (element_at new p) (subs s (suc p) (element_at new (suc p)))
        go p h (yes a) b = rw (a, at_new, off_new (suc (suc q)) (omega arith)) links.0
        go p h (no a) (yes b) = rw (b, at_new, off_new q (omega arith)) links.1
        go p h (no a) (no b) = rw (off_new p a, off_new (suc p) (omega arith)) (w.chain p h)

    only_new : (G : Flag) → IsFlag s G → DifferAt (suc q) F G → G ≡ new
    unfolding L
    only_new G u k = ext_get_or 0 G new (u.ranks ∙ sym new_flag.ranks) (λ i h. go i (ℕ_discrete i (suc q)))
      where
        g_same : element_at F (suc (suc q)) ≡ element_at G (suc (suc q))
        g_same = k.1 (suc (suc q)) (omega arith)

        h_same : element_at F q ≡ element_at G q
        h_same = k.1 q (omega arith)

        member : In (element_at G (suc q)) L
        member = to_mid (element_at F (suc (suc q))) (element_at F q) (element_at G (suc q)) (rw g_same (u.chain (suc q) high)) (rw h_same (u.chain q (omega arith)))

        go : (i : ℕ) → Dec (i ≡ suc q) → element_at G i ≡ element_at new i
        go i (yes a) = rw (a, at_new) (t.only (element_at G (suc q)) member (λ p. k.0 (sym p)))
        go i (no a) = sym (k.1 i a) ∙ sym (off_new i a)

    twice_new : change s (suc q) new ≡ F
    unfolding change L mid new
    twice_new =
        let a : between s (suc q) (element_at new (suc (suc q))) (element_at new q) ≡ L = rw (off_new (suc (suc q)) (omega arith), off_new q (omega arith)) in
        let b : other (element_at new (suc q)) (between s (suc q) (element_at new (suc (suc q))) (element_at new q)) ≡ element_at F (suc q) = rw (a, at_new) t.back in
        ap (λ (e : ℕ). set new (suc q) e) b ∙ set-set F (suc q) y (element_at F (suc q)) ∙ set-get_or F (suc q) 0

    changed : Changed s (suc q) F
    changed = record {
      flag = rw change_is new_flag;
      differs = rw change_is (λ p. t.apart (p ∙ at_new), λ p n. sym (off_new p n));
      only = λ G u k. rw change_is (only_new G u k);
      twice = rw change_is twice_new;
    }

pub every-change : EveryChange
every-change s v d zero p F w = absurd (omega (arith, p.0))
every-change s v d (suc q) p F w = changed s v d q p.1 F w
