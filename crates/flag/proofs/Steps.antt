-- A step to the next flag is made as the loop over ranks makes it.
-- Assumes nothing.
use mathlib.Core.Path.{◌≡◌, sym, ◌∙◌, ap, subst}
use mathlib.Core.Logic.{inl, inr}
use mathlib.Core.List.{List, [], ◌∷◌, ◌++◌, append_assoc, append-nil}
use Prim.Native.Nat.{ℕ, zero, suc, ◌+◌, ◌-◌, ◌≤◌, ◌<◌}
use native.Mathlib.Nat.{add-zero}
use native.Mathlib.Omega.{arith}
use native.Mathlib.Decide.{ℕ_discrete}
use lib.ListN.{length, get_or, take, drop, drop_of_length-le}
use lib.Seq.{take-suc, drop-cons}
use lib.Dec.{eqb}
use Rattle.spec.specs.Lists.{In, place}
use Rattle.spec.specs.Types.{Solid, size, subs}
use Rattle.spec.specs.Demand.{Sound}
use Rattle.spec.specs.Flags.{Flag, first_to, flags_to}
use Rattle.ranked.proofs.Turns.{place_here, place_past}
use Rattle.flag.proofs.Order.{Last, After, starts_to, after-up, last_up, cross_up}

-- ---- where x stands in a list

split : (x : ℕ) (l : List ℕ) → In x l → l ≡ take (place eqb x l) l ++ (x ∷ drop (suc (place eqb x l)) l)
split x [] m = absurd m
split x (y ∷ l) m = go (ℕ_discrete y x) m (λ n. split x l n)
  where
    go : Dec (y ≡ x) → In x (y ∷ l) → (In x l → l ≡ take (place eqb x l) l ++ (x ∷ drop (suc (place eqb x l)) l))
        → y ∷ l ≡ take (place eqb x (y ∷ l)) (y ∷ l) ++ (x ∷ drop (suc (place eqb x (y ∷ l))) (y ∷ l))
    go (yes e) m ih = rw (place_here x y l e) (ap (λ (z : ℕ). z ∷ l) e)
    go (no e) (inl q) ih = absurd (e (sym q))
    go (no e) (inr n) ih = rw (place_past x y l e) (ap (λ (z : List ℕ). y ∷ z) (ih n))

-- ---- up the ranks of a flag

module _ (s : Solid) (ok : Sound s) (filled : (r e : ℕ) → e < size s (suc r) → 0 < length (subs s (suc r) e)) (els : List ℕ) (R : ℕ) (long : R < length els)
    (chain : (r : ℕ) → r < R → In (get_or els r 0) (subs s (suc r) (get_or els (suc r) 0))) where
  abbrev at : ℕ → ℕ
  at r = get_or els r 0

  abbrev list : ℕ → List ℕ
  list r = subs s (suc r) (at (suc r))

  more : (r : ℕ) → r < R → take (suc (suc r)) els ≡ take (suc r) els ++ (at (suc r) ∷ [])
  more r k = take-suc els (suc r) 0 (omega arith)

  pub last_step : (r : ℕ) → r < R → Last (take (suc r) els) (flags_to s r (at r)) → length (list r) ≤ suc (place eqb (at r) (list r))
      → Last (take (suc (suc r)) els) (flags_to s (suc r) (at (suc r)))
  last_step r k t h =
      rw (more r k)
      (last_up s r (at (suc r)) (take (place eqb (at r) (list r)) (list r)) (at r) (drop (suc (place eqb (at r) (list r))) (list r)) (split (at r) (list r) (chain r k)) (take (suc r) els) (take (suc r) els)
      (drop_of_length-le (list r) h) t)

  pub cross_step : (r : ℕ) → r < R → Last (take (suc r) els) (flags_to s r (at r)) → (k : ℕ) → k ≡ suc (place eqb (at r) (list r)) → k < length (list r)
      → get_or (list r) k 0 < size s r
      → After (take (suc (suc r)) els) (first_to s r (get_or (list r) k 0) ++ (at (suc r) ∷ [])) (flags_to s (suc r) (at (suc r)))
  cross_step r b t k q h low =
      rw (more r b)
      (cross_up s r (at (suc r)) (take (place eqb (at r) (list r)) (list r)) (at r) (drop (suc (place eqb (at r) (list r))) (list r)) (split (at r) (list r) (chain r b)) (take (suc r) els) (first_to s r (get_or (list r) k 0))
      (get_or (list r) k 0) (drop (suc k) (list r)) (ap (λ (n : ℕ). drop n (list r)) (sym q) ∙ drop-cons (list r) k 0 h) t (starts_to s ok filled r (get_or (list r) k 0) low))

  pub after-step : (r : ℕ) → r < R → (G : Flag) → After (take (suc r) els) G (flags_to s r (at r)) → After (take (suc (suc r)) els) (G ++ (at (suc r) ∷ [])) (flags_to s (suc r) (at (suc r)))
  after-step r k G t =
      rw (more r k)
      (after-up s r (at (suc r)) (take (place eqb (at r) (list r)) (list r)) (at r) (drop (suc (place eqb (at r) (list r))) (list r)) (split (at r) (list r) (chain r k)) (take (suc r) els) G t)

  -- The step goes on from rank q through n ranks more.
  pub climb : (n q : ℕ) → q + n ≤ R → (G : Flag) → After (take (suc q) els) G (flags_to s q (at q))
      → After (take (suc (q + n)) els) (G ++ take n (drop (suc q) els)) (flags_to s (q + n) (at (q + n)))
  climb zero q h G t = rw (add-zero q, append-nil G) t
  climb (suc n) q h G t =
      let e : q + suc n ≡ suc q + n = omega arith in
      let x : drop (suc q) els ≡ at (suc q) ∷ drop (suc (suc q)) els = drop-cons els (suc q) 0 (omega arith) in
      rw (e, x, ← append_assoc G (at (suc q) ∷ []) (take n (drop (suc (suc q)) els))) (climb n (suc q) (omega arith) (G ++ (at (suc q) ∷ [])) (after-step q (omega arith) G t))

  -- The element at r moves on to the next sub, with first subs below it, up to the top.
  pub next_flag : (r : ℕ) → r < R → Last (take (suc r) els) (flags_to s r (at r)) → (k : ℕ) → k ≡ suc (place eqb (at r) (list r)) → k < length (list r)
      → get_or (list r) k 0 < size s r
      → After (take (suc R) els) (first_to s r (get_or (list r) k 0) ++ take (R - r) (drop (suc r) els)) (flags_to s R (at R))
  next_flag r b t k q h low =
      let n = R - suc r in
      let e : suc r + n ≡ R = omega arith in
      let m : R - r ≡ suc n = omega arith in
      let x : drop (suc r) els ≡ at (suc r) ∷ drop (suc (suc r)) els = drop-cons els (suc r) 0 (omega arith) in
      let c = climb n (suc r) (omega arith) (first_to s r (get_or (list r) k 0) ++ (at (suc r) ∷ [])) (cross_step r b t k q h low) in
      rw (m, x, ← append_assoc (first_to s r (get_or (list r) k 0)) (at (suc r) ∷ []) (take n (drop (suc (suc r)) els))) (subst (λ (j : ℕ). After (take (suc j) els) ((first_to s r (get_or (list r) k 0) ++ (at (suc r) ∷ [])) ++ take n (drop (suc (suc r)) els)) (flags_to s j (at j))) e c)
