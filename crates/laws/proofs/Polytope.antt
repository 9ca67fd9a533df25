-- The test behind refusal 6 is the book's P4, and every solid that passes preflight has the book's properties, as read and as search walks it.
-- Assumes nothing.
use mathlib.Core.Path.{◌≡◌, refl, sym, ◌∙◌, ap, subst}
use mathlib.Core.Logic.{◌⊎◌, inl, inr}
use Prim.Native.Nat.{ℕ, zero, suc, ◌-◌, ◌<◌}
use mathlib.Core.Bool.{true}
use mathlib.Core.List.{List, [], ◌∷◌}
use native.Mathlib.Nat.{le_antisymm}
use native.Mathlib.Omega.{arith}
use lib.ListN.{length}
use lib.Dec.{eqb}
use Rattle.spec.specs.Lists.{In, holds, range}
use Rattle.spec.specs.Types.{Solid, top, size, subs, proper_ranks}
use Rattle.spec.specs.Demand.{Sound}
use Rattle.spec.specs.Solid.{bound, between, diamond}
use Rattle.spec.specs.Polytope.{Element, element, IsElement, IsSub, AtMost, itself, over, Below, ExactlyTwo, Between, Diamonds, Polytope}
use Rattle.laws.specs.PolytopeLaws.{Filled, EveryDiamond, EveryPolytope}
use Rattle.laws.proofs.Distinct.{Once, pigeons}
use Rattle.laws.proofs.Lists.{of_range}
use Rattle.laws.proofs.Counts.{numbers, keep_in, in_keep, once_keep, holds_in, in_holds}
use Rattle.laws.proofs.Carry.{rising_once}
use Rattle.laws.proofs.FlagChange.{diamond-at}
use Rattle.laws.proofs.Exchange.{in_every, every-exchange}
use Rattle.laws.proofs.Accepted.{every_passed}
use Rattle.laws.proofs.Order.{below-rank, last, one_up, every_order}
use Rattle.laws.proofs.Chains.{every_maximal_chain}

-- ---- the list of the elements between two

module _ (s : Solid) (r g h : ℕ) where
  to_between : (x : ℕ) → In x (subs s (suc r) g) → In h (subs s r x) → In x (between s r g h)
  unfolding between
  to_between x a b = keep_in (λ f. holds eqb h (subs s r f)) x (subs s (suc r) g) a (holds_in h (subs s r x) b)

  of-between : (x : ℕ) → In x (between s r g h) → In x (subs s (suc r) g) × In h (subs s r x)
  unfolding between
  of-between x m = let k = in_keep (λ f. holds eqb h (subs s r f)) x (subs s (suc r) g) m in (k.0, in_holds h (subs s r x) k.1)

  once_between : Sound s → Once (between s r g h)
  unfolding between
  once_between v = once_keep (λ f. holds eqb h (subs s r f)) (subs s (suc r) g) (rising_once (subs s (suc r) g) (v.rising (suc r) g))

-- ---- its members are the elements strictly between

step : {s : Solid} {F G : Element} → IsSub s F G → Below s F G
step c = (over itself c, λ e. omega (arith, c.0, ap (λ (H : Element). H.rank) e))

module _ (s : Solid) (r g h : ℕ) where
  abbrev lower : Element
  lower = element r h

  abbrev upper : Element
  upper = element (suc (suc r)) g

  middle : (x : ℕ) → In x (between s (suc r) g h) → Between s lower upper (element (suc r) x)
  middle x m = let k = of-between s (suc r) g h x m in (step (refl, k.1), step (refl, k.0))

  -- An element strictly between has the rank between, is a sub of the upper and has the lower as a sub.
  in_middle : (H : Element) → Between s lower upper H → (H ≡ element (suc r) H.number) × In H.number (between s (suc r) g h)
  in_middle H b =
      let e : H.rank ≡ suc r = omega (arith, below-rank b.0.0 b.0.1, below-rank b.1.0 b.1.1) in
      let c = one_up b.0.0 e in
      let d = one_up b.1.0 (omega arith) in (
        ap (λ (q : ℕ). element q H.number) e,
        to_between s (suc r) g h H.number d.1 (subst (λ (q : ℕ). In h (subs s q H.number)) e c.1),
      )

  two-of : (l : List ℕ) → Once l → length l ≡ 2 → ((x : ℕ) → In x l → Between s lower upper (element (suc r) x))
      → ((H : Element) → Between s lower upper H → (H ≡ element (suc r) H.number) × In H.number l) → ExactlyTwo (Between s lower upper)
  two-of [] o k f i = absurd (omega arith)
  two-of (a ∷ []) o k f i = absurd (omega arith)
  two-of (a ∷ b ∷ c ∷ l) o k f i = absurd (omega arith)
  two-of (a ∷ b ∷ []) o k f i = record {
    first = element (suc r) a;
    second = element (suc r) b;
    differ = λ e. o.0 (inl (ap (λ (H : Element). H.number) e));
    first_has = f a (inl refl);
    second_has = f b (inr (inl refl));
    no_other = λ H w. let n = i H w in go H n.0 n.1;
  }
    where
      go : (H : Element) → H ≡ element (suc r) H.number → In H.number (a ∷ b ∷ []) → (H ≡ element (suc r) a) ⊎ (H ≡ element (suc r) b)
      go H e (inl q) = inl (e ∙ ap (element (suc r)) q)
      go H e (inr (inl q)) = inr (e ∙ ap (element (suc r)) q)
      go H e (inr (inr x8)) = elim x8 [ ]

  -- Exactly two elements between are counted as two.
  two-counted : Sound s → ExactlyTwo (Between s lower upper) → length (between s (suc r) g h) ≡ 2
  two-counted v w =
      let a = w.first.number in
      let b = w.second.number in
      let l = between s (suc r) g h in
      let ia = in_middle w.first w.first_has in
      let ib = in_middle w.second w.second_has in
      let pair : List ℕ = a ∷ b ∷ [] in
      le_antisymm
      (pigeons eqb numbers l pair (once_between s (suc r) g h v) (λ x m. which x (w.no_other (element (suc r) x) (middle x m))))
      (pigeons eqb numbers pair l (λ m. apart m ia ib, (λ m. m, tt)) (λ x m. here x m ia.1 ib.1))
    where
      which : (x : ℕ) → (element (suc r) x ≡ w.first) ⊎ (element (suc r) x ≡ w.second) → In x (w.first.number ∷ w.second.number ∷ [])
      which x (inl e) = inl (ap (λ (H : Element). H.number) e)
      which x (inr e) = inr (inl (ap (λ (H : Element). H.number) e))

      apart : In w.first.number (w.second.number ∷ [])
          → (w.first ≡ element (suc r) w.first.number) × In w.first.number (between s (suc r) g h)
          → (w.second ≡ element (suc r) w.second.number) × In w.second.number (between s (suc r) g h) → ⊥
      apart (inl q) i j = w.differ (i.0 ∙ ap (element (suc r)) q ∙ sym j.0)
      apart (inr x3) i j = elim x3 [ ]

      here : (x : ℕ) → In x (w.first.number ∷ w.second.number ∷ []) → In w.first.number (between s (suc r) g h) → In w.second.number (between s (suc r) g h) → In x (between s (suc r) g h)
      here x (inr (inr x5)) i j = elim x5 [ ]
      here x (inl q) i j = rw q i
      here x (inr (inl q)) i j = rw q j

-- ---- the test and the property

module _ (s : Solid) (v : Sound s) where
  diamonds_of : diamond s ≡ true → Diamonds s
  diamonds_of d F G f i b e = subst (λ (q : ℕ). IsElement s (element q G.number) → AtMost s F (element q G.number) → ExactlyTwo (Between s F (element q G.number))) (sym e) at i b.0
    where
      at : IsElement s (element (suc (suc F.rank)) G.number) → AtMost s F (element (suc (suc F.rank)) G.number) → ExactlyTwo (Between s F (element (suc (suc F.rank)) G.number))
      at i a =
          let r = F.rank in
          let h = F.number in
          let g = G.number in
          let l = last a (omega arith) in
          let X = l.0 in
          let k : X.rank ≡ suc r = omega (arith, l.2.0) in
          let c = one_up l.1 k in
          two-of s r g h (between s (suc r) g h) (once_between s (suc r) g h v)
          (diamond-at s d (suc r) (omega arith) (omega (arith, i.0)) g h X.number i.1 l.2.1 (subst (λ (q : ℕ). In h (subs s q X.number)) k c.1))
          (middle s r g h) (in_middle s r g h)

  of_diamonds : Diamonds s → diamond s ≡ true
  unfolding diamond proper_ranks
  of_diamonds w =
      in_every _ (range 1 (top s - 1)) (λ r mr.
      in_every _ (range 0 (size s (suc r))) (λ g mg.
      in_every _ (subs s (suc r) g) (λ x mx.
      in_every _ (subs s r x) (λ h mh.
      let kr = of_range 1 (top s - 1) r mr in
      let kg = of_range 0 (size s (suc r)) g mg in
      rw (at r kr.0 (omega (arith, kr.1)) g h x (omega (arith, kg.1)) mx mh) refl))))
    where
      at : (r : ℕ) → 0 < r → r < top s → (g h x : ℕ) → g < size s (suc r) → In x (subs s (suc r) g) → In h (subs s r x) → length (between s r g h) ≡ 2
      at zero k₀ k₁ g h x low a b = absurd (omega arith)
      at (suc r) k₀ k₁ g h x low a b =
          let F = element r h in
          let G = element (suc (suc r)) g in
          let c : IsSub s F (element (suc r) x) = (refl, b) in
          let d : IsSub s (element (suc r) x) G = (refl, a) in
          two-counted s r g h v (w F G (omega arith, v.below r x h b) (omega arith, low) (over (over itself c) d, λ e. omega (arith, ap (λ (H : Element). H.rank) e)) refl)

pub every-diamond : EveryDiamond
every-diamond s v = (diamonds_of s v, of_diamonds s v)

-- ---- every solid that passes preflight

polytope : (s : Solid) → Sound s → Filled s → bound s ≡ true → diamond s ≡ true → Polytope s
polytope s v full b d = record { order = every_order s v full b; chains = every_maximal_chain s v full b; diamonds = (every-diamond s v).0 d }

pub every_polytope : EveryPolytope
every_polytope b words floats c e =
    let p = every_passed b words floats c e in
    record {
      read = polytope c.abs p.sound p.filled p.joined p.diamonds;
      searched = λ tall f low.
          let k = every-exchange c.abs p.sound p.diamonds p.filled tall f low in
          polytope _ k.sound k.filled (k.joined ∙ p.joined) k.diamonds;
    }
