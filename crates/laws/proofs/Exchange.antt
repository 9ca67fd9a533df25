-- The exchange of facets keeps a solid sound, its numbers of elements, entries and sups, and its diamonds; done twice, or of facet 0, or
-- where R = 2, it changes nothing.
-- Assumes nothing.
use mathlib.Core.Path.{◌≡◌, refl, sym, ◌∙◌, ap, fun_ext}
use mathlib.Core.Logic.{◌≢◌, inl, inr}
use Prim.Native.Nat.{ℕ, zero, suc, ◌+◌, ◌-◌, ◌≤◌, ◌<◌}
use mathlib.Core.Bool.{Bool, true}
use mathlib.Core.List.{List, [], ◌∷◌, map}
use native.Mathlib.Omega.{arith}
use native.Mathlib.Nat.{le_antisymm}
use native.Mathlib.Decide.{ℕ_discrete}
use lib.ListN.{length, get_or, set, length-set, length-map}
use lib.Seq.{get_or-set_same, get_or-set_other, set-set, set-get_or, ext_get_or}
use lib.Dec.{eqb, ltb}
use Rattle.spec.specs.Lists.{In, holds, range, keep, sum, every}
use Rattle.spec.specs.Types.{Solid, top, size, subs, sups, proper_ranks, elements}
use Rattle.spec.specs.Demand.{Rising, Sound}
use Rattle.spec.specs.Solid.{entries, bound, between, diamond}
use Rattle.spec.specs.Search.{swap_with_first, exchanged_in}
use Rattle.laws.specs.SolidLaws.{swap}
use Rattle.laws.specs.Passed.{EveryExchange}
use Rattle.laws.proofs.Distinct.{Split, split, pigeons}
use Rattle.laws.proofs.Lists.{in_map, once_map, in_range_lem, of_range, once_range}
use Rattle.laws.proofs.Counts.{numbers, keep_in, in_keep, once_keep}
use Rattle.laws.proofs.FlagChange.{diamond-at}

-- ---- lists

pub in_every : {A : Type 0} (p : A → Bool) (l : List A) → ((x : A) → In x l → p x ≡ true) → every p l ≡ true
unfolding every
in_every p [] f = refl
in_every p (x ∷ l) f = rw (f x (inl refl), every) (in_every p l (λ y m. f y (inr m)))

pub keep_same : (p q : ℕ → Bool) → ((x : ℕ) → p x ≡ q x) → (l : List ℕ) → keep p l ≡ keep q l
keep_same p q f l = ap (λ (r : ℕ → Bool). keep r l) (fun_ext f)

-- There are three cases of `swap`: the number is 0, or it is f, or it is neither and stays.
data Swapped (f e : ℕ) : Type 0 where
  first : e ≡ 0 → swap f e ≡ f → Swapped f e
  second : e ≢ 0 → e ≡ f → swap f e ≡ 0 → Swapped f e
  neither : e ≢ 0 → e ≢ f → swap f e ≡ e → Swapped f e

swapped : (f e : ℕ) → Swapped f e
unfolding swap
swapped f e = go (split eqb numbers e 0) (split eqb numbers e f)
  where
    go : Split eqb numbers e 0 → Split eqb numbers e f → Swapped f e
    go (inl (p, t)) b = first p (yes₁ t)
      where
        yes₁ : eqb e 0 ≡ true → swap f e ≡ f
        yes₁ t = rw (t, swap)
    go (inr (n, t)) (inl (p, u)) = second n p (rw (t, u, swap))
    go (inr (n, t)) (inr (m, u)) = neither n m (rw (t, u, swap))

pub swap_back : (f e : ℕ) → swap f (swap f e) ≡ e
swap_back f e = go (swapped f e)
  where
    at_f : f ≢ 0 → swap f f ≡ 0
    at_f n = pick (swapped f f)
      where
        pick : Swapped f f → swap f f ≡ 0
        pick (first p q) = absurd (n p)
        pick (second m p q) = q
        pick (neither m k q) = absurd (k refl)

    at_0 : swap f 0 ≡ f
    at_0 = pick (swapped f 0)
      where
        pick : Swapped f 0 → swap f 0 ≡ f
        pick (first p q) = q
        pick (second m p q) = absurd (m refl)
        pick (neither m k q) = absurd (m refl)

    go : Swapped f e → swap f (swap f e) ≡ e
    go (first p q) = rw q (zero_or (ℕ_discrete f 0))
      where
        zero_or : Dec (f ≡ 0) → swap f f ≡ e
        zero_or (yes z) = ap (swap f) z ∙ at_0 ∙ z ∙ sym p
        zero_or (no n) = at_f n ∙ sym p
    go (second m p q) = rw q (at_0 ∙ sym p)
    go (neither m k q) = rw q q

pub swap-low : (f e n : ℕ) → f < n → e < n → swap f e < n
swap-low f e n hf he = go (swapped f e)
  where
    go : Swapped f e → swap f e < n
    go (first p q) = rw q hf
    go (second m p q) = rw q (omega arith)
    go (neither m k q) = rw q he

swap-apart : (f x y : ℕ) → swap f x ≡ swap f y → x ≡ y
swap-apart f x y e = sym (swap_back f x) ∙ ap (swap f) e ∙ swap_back f y

-- As many numbers below n pass p as pass p after a swap.
count-swap : (p : ℕ → Bool) (f n : ℕ) → f < n → length (keep (λ x. p (swap f x)) (range 0 n)) ≡ length (keep p (range 0 n))
count-swap p f n h = le_antisymm (fewer p) (rw (same) at (fewer (λ x. p (swap f x))))
  where
    fewer : (q : ℕ → Bool) → length (keep (λ x. q (swap f x)) (range 0 n)) ≤ length (keep q (range 0 n))
    fewer q = rw (length-map (keep (λ x. q (swap f x)) (range 0 n)) (swap f)) at
        (pigeons eqb numbers (map (swap f) (keep (λ x. q (swap f x)) (range 0 n))) (keep q (range 0 n))
        (once_map (swap f) (keep (λ x. q (swap f x)) (range 0 n)) (λ x y hx hy. swap-apart f x y) (once_keep (λ x. q (swap f x)) (range 0 n) (once_range 0 n)))
        (λ t m.
        let k = in_map (swap f) t (keep (λ x. q (swap f x)) (range 0 n)) m in
        let r = in_keep (λ x. q (swap f x)) k.0 (range 0 n) k.1 in
        let z = of_range 0 n k.0 r.0 in
        keep_in q t (range 0 n) (in_range_lem 0 n t (omega arith) (rw k.2 (omega (arith, swap-low f k.0 n h (omega (arith, z.1)))))) (rw k.2 r.1)))

    same : keep (λ x. p (swap f (swap f x))) (range 0 n) ≡ keep p (range 0 n)
    same = keep_same (λ x. p (swap f (swap f x))) p (λ x. ap p (swap_back f x)) (range 0 n)

-- ---- the solid

pub swap_at : (l : List (List ℕ)) (f : ℕ) → f < length l → (e : ℕ) → get_or (swap_with_first l f) e [] ≡ get_or l (swap f e) []
unfolding swap_with_first
swap_at l f h e = go (swapped f e)
  where
    go : Swapped f e → get_or (set (set l f (get_or l 0 [])) 0 (get_or l f [])) e [] ≡ get_or l (swap f e) []
    go (first p q) = rw (q, p) (get_or-set_same (set l f (get_or l 0 [])) 0 (get_or l f []) [] (rw length-set (omega arith)))
    go (second m p q) = rw q (get_or-set_other (set l f (get_or l 0 [])) 0 e (get_or l f []) [] m ∙ ap (λ (i : ℕ). get_or (set l f (get_or l 0 [])) i []) p ∙ get_or-set_same l f (get_or l 0 []) [] h)
    go (neither m k q) = rw q (get_or-set_other (set l f (get_or l 0 [])) 0 e (get_or l f []) [] m ∙ get_or-set_other l f e (get_or l 0 []) [] k)

pub swap-length : (l : List (List ℕ)) (f : ℕ) → length (swap_with_first l f) ≡ length l
unfolding swap_with_first
swap-length l f = length-set (set l f (get_or l 0 [])) 0 (get_or l f []) ∙ length-set l f (get_or l 0 [])

pub swap_twice : (l : List (List ℕ)) (f : ℕ) → f < length l → swap_with_first (swap_with_first l f) f ≡ l
swap_twice l f h =
    let n = swap-length l f in
    ext_get_or [] (swap_with_first (swap_with_first l f) f) l (swap-length (swap_with_first l f) f ∙ n) λ e k.
    swap_at (swap_with_first l f) f (rw n h) e ∙ swap_at l f h (swap f e) ∙ ap (λ (i : ℕ). get_or l i []) (swap_back f e)

-- In a sum over a list, one place of which is changed, only that place's part changes.
sum-set : {A : Type 0} (g : A → ℕ) (d x : A) (l : List A) (i : ℕ) → i < length l → sum (map g (set l i x)) + g (get_or l i d) ≡ sum (map g l) + g x
unfolding sum
sum-set g d x [] i h = absurd (omega arith)
sum-set g d x (y ∷ l) zero h = omega arith
sum-set g d x (y ∷ l) (suc i) h = omega (arith, sum-set g d x l i (omega arith))

-- The swapped lists have as many entries.
swap-sum : (l : List (List ℕ)) (f : ℕ) → f < length l → sum (map length (swap_with_first l f)) ≡ sum (map length l)
unfolding swap_with_first
swap-sum l f h =
    let x = get_or l 0 [] in
    let y = get_or l f [] in
    omega (arith, sum-set length [] x l f h, sum-set length [] y (set l f x) 0 (rw length-set (omega arith)), ap length (first_stays (ℕ_discrete f 0)))
  where
    first_stays : Dec (f ≡ 0) → get_or (set l f (get_or l 0 [])) 0 [] ≡ get_or l 0 []
    first_stays (yes p) = rw p (get_or-set_same l 0 (get_or l 0 []) [] (omega arith))
    first_stays (no n) = get_or-set_other l f 0 (get_or l 0 []) [] (λ q. n (sym q))

-- Exchanging the same facet twice changes nothing.
pub exchange_twice : (s : Solid) (f : ℕ) → f < size s (top s - 1) → exchanged_in (exchanged_in s f) f ≡ s
unfolding exchanged_in
exchange_twice [] f low = absurd (omega arith)
exchange_twice (a ∷ s₀) f low =
    let s : Solid = a ∷ s₀ in
    let n = top s - 1 in
    let l = swap_with_first (get_or s n []) f in
    let k : top (set s n l) - 1 ≡ n = ap (λ (m : ℕ). m - 1 - 1) (length-set s n l) in
    let g : get_or (set s n l) n [] ≡ l = get_or-set_same s n l [] (omega arith) in
    ap (λ (m : ℕ). set (set s n l) m (swap_with_first (get_or (set s n l) m []) f)) k
    ∙ set-set s n l (swap_with_first (get_or (set s n l) n []) f)
    ∙ ap (λ (m : List (List ℕ)). set s n m) (ap (λ (m : List (List ℕ)). swap_with_first m f) g ∙ swap_twice (get_or s n []) f low)
    ∙ set-get_or s n []

-- Facet 0 changes places with itself, which changes nothing either.
pub exchange-none : (s : Solid) → exchanged_in s 0 ≡ s
unfolding exchanged_in swap_with_first
exchange-none s =
    let n = top s - 1 in
    let l = get_or s n [] in
    ap (set s n) (set-set l 0 (get_or l 0 []) (get_or l 0 []) ∙ set-get_or l 0 []) ∙ set-get_or s n []

-- Where all lists are one list, nothing changes places.
swap_alike : (l : List (List ℕ)) (x : List ℕ) → ((e : ℕ) → e < length l → get_or l e [] ≡ x) → (f : ℕ) → f < length l → swap_with_first l f ≡ l
swap_alike l x same f h =
    let n = swap-length l f in
    ext_get_or [] (swap_with_first l f) l n λ e k.
    let m : e < length l = omega (arith, n, k) in
    swap_at l f h e ∙ same (swap f e) (swap-low f e (length l) h m) ∙ sym (same e m)

-- A rising list that holds 0 alone has it once.
zero_once : (l : List ℕ) → 0 < length l → Rising l → ((x : ℕ) → In x l → x < 1) → l ≡ 0 ∷ []
zero_once [] h a b = absurd (omega arith)
zero_once (x ∷ []) h a b = let z : x ≡ 0 = omega (arith, b x (inl refl)) in rw z
zero_once (x ∷ y ∷ l) h a b = absurd (omega (arith, a.0, b y (inr (inl refl))))

-- For R = 2 the facets are the vertices. The least element is the only sub of each, so no facet's list differs from another's, and nothing changes.
pub exchange-vertices : (s : Solid) → Sound s → ((r e : ℕ) → e < size s (suc r) → 0 < length (subs s (suc r) e)) → top s ≡ 2 → (f : ℕ)
    → f < size s (top s - 1) → exchanged_in s f ≡ s
unfolding exchanged_in subs
exchange-vertices s v full t f low =
    ap (set s (top s - 1)) (swap_alike (get_or s (top s - 1) []) (0 ∷ []) alike f low) ∙ set-get_or s (top s - 1) []
  where
    facets : top s - 1 ≡ 1
    facets = omega arith

    one : size s 0 ≡ 1
    one = ap length v.least

    alike : (e : ℕ) → e < size s (top s - 1) → get_or (get_or s (top s - 1) []) e [] ≡ 0 ∷ []
    alike e h =
        ap (λ (r : ℕ). subs s r e) facets
        ∙ zero_once (subs s 1 e) (full 0 e (rw facets at h)) (v.rising 1 e) (λ x m. omega (arith, one, v.below 0 e x m))

module _ (s : Solid) (tall : 2 ≤ top s) (f : ℕ) (low : f < size s (top s - 1)) where
  abbrev t : Solid
  t = exchanged_in s f

  pub at_n : get_or t (top s - 1) [] ≡ swap_with_first (get_or s (top s - 1) []) f
  unfolding exchanged_in
  at_n = get_or-set_same s (top s - 1) (swap_with_first (get_or s (top s - 1) []) f) [] (omega arith)

  pub at_other : (r : ℕ) → r ≢ top s - 1 → get_or t r [] ≡ get_or s r []
  unfolding exchanged_in
  at_other r n = get_or-set_other s (top s - 1) r (swap_with_first (get_or s (top s - 1) []) f) [] n

  pub top_same : top t ≡ top s
  unfolding exchanged_in
  top_same = ap (λ (n : ℕ). n - 1) (length-set s (top s - 1) (swap_with_first (get_or s (top s - 1) []) f))

  pub size_same : (r : ℕ) → size t r ≡ size s r
  size_same r = go (ℕ_discrete r (top s - 1))
    where
      go : Dec (r ≡ top s - 1) → size t r ≡ size s r
      go (yes p) = rw (p, at_n) (swap-length (get_or s (top s - 1) []) f)
      go (no n) = ap length (at_other r n)

  pub subs-n : (e : ℕ) → subs t (top s - 1) e ≡ subs s (top s - 1) (swap f e)
  unfolding subs
  subs-n e = ap (λ (l : List (List ℕ)). get_or l e []) at_n ∙ swap_at (get_or s (top s - 1) []) f low e

  pub subs-other : (r : ℕ) → r ≢ top s - 1 → (e : ℕ) → subs t r e ≡ subs s r e
  unfolding subs
  subs-other r n e = ap (λ (l : List (List ℕ)). get_or l e []) (at_other r n)

  pub elements_same : elements t ≡ elements s
  unfolding elements proper_ranks
  elements_same =
      ap (λ (g : ℕ → ℕ). sum (map g (range 1 (top t - 1)))) (fun_ext size_same) ∙ ap (λ (n : ℕ). sum (map (λ r. size s r) (range 1 (n - 1)))) top_same

  pub entries_same : entries t ≡ entries s
  unfolding entries
  entries_same =
      ap (λ (g : ℕ → ℕ). sum (map g (range 2 (top t - 2)))) (fun_ext (λ r. at r (ℕ_discrete r (top s - 1))))
      ∙ ap (λ (n : ℕ). sum (map (λ r. sum (map length (get_or s r []))) (range 2 (n - 2)))) top_same
    where
      at : (r : ℕ) → Dec (r ≡ top s - 1) → sum (map length (get_or t r [])) ≡ sum (map length (get_or s r []))
      at r (yes p) = rw (p, at_n) (swap-sum (get_or s (top s - 1) []) f low)
      at r (no n) = ap (λ (l : List (List ℕ)). sum (map length l)) (at_other r n)

  -- No element gains or loses a sup.
  sups_same : (r e : ℕ) → length (sups t r e) ≡ length (sups s r e)
  unfolding sups
  sups_same r e = go (ℕ_discrete (suc r) (top s - 1))
    where
      go : Dec (suc r ≡ top s - 1) → length (keep (λ g. holds eqb e (subs t (suc r) g)) (range 0 (size t (suc r)))) ≡ length (keep (λ g. holds eqb e (subs s (suc r) g)) (range 0 (size s (suc r))))
      go (yes p) =
          rw (size_same (suc r))
          (ap length (keep_same (λ g. holds eqb e (subs t (suc r) g)) (λ g. holds eqb e (subs s (suc r) (swap f g))) (λ g. ap (holds eqb e) (rw p (subs-n g))) (range 0 (size s (suc r))))
          ∙ count-swap (λ g. holds eqb e (subs s (suc r) g)) f (size s (suc r)) (rw p low))
      go (no n) =
          rw (size_same (suc r)) (ap length (keep_same (λ g. holds eqb e (subs t (suc r) g)) (λ g. holds eqb e (subs s (suc r) g)) (λ g. ap (holds eqb e) (subs-other (suc r) n g)) (range 0 (size s (suc r)))))

  pub bound_same : bound t ≡ bound s
  unfolding bound
  bound_same =
      ap (λ (g : ℕ → Bool). every g (range 1 (top t - 2))) (fun_ext rank_same)
      ∙ ap (λ (n : ℕ). every (λ r. every (λ e. ltb 0 (length (sups s r e))) (range 0 (size s r))) (range 1 (n - 2))) top_same
    where
      rank_same : (r : ℕ) → every (λ e. ltb 0 (length (sups t r e))) (range 0 (size t r)) ≡ every (λ e. ltb 0 (length (sups s r e))) (range 0 (size s r))
      rank_same r =
          ap (λ (g : ℕ → Bool). every g (range 0 (size t r))) (fun_ext (λ e. ap (ltb 0) (sups_same r e)))
          ∙ ap (λ (n : ℕ). every (λ e. ltb 0 (length (sups s r e))) (range 0 n)) (size_same r)

  -- The subs of an element are those of one of its rank before.
  record SubsCame (r e : ℕ) : Type 0 where
    was : ℕ
    subs_was : subs t r e ≡ subs s r was
    low_was : e < size s r → was < size s r

  before : (r e : ℕ) → SubsCame r e
  before r e = go (ℕ_discrete r (top s - 1))
    where
      go : Dec (r ≡ top s - 1) → SubsCame r e
      go (yes p) = record { was = swap f e; subs_was = rw p (subs-n e); low_was = λ h. swap-low f e (size s r) (rw p low) h }
      go (no n) = record { was = e; subs_was = subs-other r n e; low_was = λ h. h }

  module _ (v : Sound s) (d : diamond s ≡ true) (full : (r e : ℕ) → e < size s (suc r) → 0 < length (subs s (suc r) e)) where
    sound_t : Sound t
    sound_t = record {
      least = at_other 0 (omega arith) ∙ v.least;
      below = λ r e x m. rw (size_same r) (v.below r (before (suc r) e).was x (rw (before (suc r) e).subs_was at m));
      rising = λ r e. rw (before r e).subs_was (v.rising r (before r e).was);
      one = rw (top_same, size_same (top s)) v.one;
      all = λ h. rw (top_same, subs-other (top s) (omega arith) 0, size_same (top s - 1)) (v.all (omega arith));
    }

    filled_t : (r e : ℕ) → e < size t (suc r) → 0 < length (subs t (suc r) e)
    filled_t r e h = rw (before (suc r) e).subs_was (full r (before (suc r) e).was ((before (suc r) e).low_was (rw (size_same (suc r)) at h)))

    -- Below the facets, there are exactly two between as before.
    two-below : (r g h x : ℕ) → 0 < r → r < top s → r ≢ top s - 1 → g < size t (suc r) → In x (subs t (suc r) g) → In h (subs t r x) → length (between t r g h) ≡ 2
    unfolding between
    two-below r g h x k₀ k₁ n low a b =
        let w = before (suc r) g in
        let p : keep (λ y. holds eqb h (subs t r y)) (subs t (suc r) g) ≡ keep (λ y. holds eqb h (subs s r y)) (subs s (suc r) w.was) =
        keep_same (λ y. holds eqb h (subs t r y)) (λ y. holds eqb h (subs s r y)) (λ y. ap (holds eqb h) (subs-other r n y)) (subs t (suc r) g) ∙ ap (keep (λ y. holds eqb h (subs s r y))) w.subs_was in
        ap length p ∙ diamond-at s d r k₀ k₁ w.was h x (w.low_was (rw (size_same (suc r)) at low)) (rw w.subs_was at a) (rw (subs-other r n x) at b)

    -- At the facets, the top has them all as subs.
    all_facets : subs s (suc (top s - 1)) 0 ≡ range 0 (size s (top s - 1))
    all_facets = let p : suc (top s - 1) ≡ top s = omega arith in rw p (v.all (omega arith))

    two-top : (h x : ℕ) → In x (subs t (suc (top s - 1)) 0) → In h (subs t (top s - 1) x) → length (between t (top s - 1) 0 h) ≡ 2
    unfolding between
    two-top h x a b =
        let n = top s - 1 in
        let m = size s n in
        let top-subs : subs t (suc n) 0 ≡ range 0 m = subs-other (suc n) (omega arith) 0 ∙ all_facets in
        let p : keep (λ y. holds eqb h (subs t n y)) (subs t (suc n) 0) ≡ keep (λ y. holds eqb h (subs s n (swap f y))) (range 0 m) =
        keep_same (λ y. holds eqb h (subs t n y)) (λ y. holds eqb h (subs s n (swap f y))) (λ y. ap (holds eqb h) (subs-n y)) (subs t (suc n) 0) ∙ ap (keep (λ y. holds eqb h (subs s n (swap f y)))) top-subs in
        let z = of_range 0 m x (rw top-subs at a) in
        ap length p ∙ count-swap (λ y. holds eqb h (subs s n y)) f m low ∙ ap (λ (l : List ℕ). length (keep (λ y. holds eqb h (subs s n y)) l)) (sym all_facets)
        ∙ diamond-at s d n (omega arith) (omega arith) 0 h (swap f x) (rw (suc-top) (omega (arith, v.one)))
        (rw all_facets (in_range_lem 0 m (swap f x) (omega arith) (omega (arith, swap-low f x m low (omega (arith, z.1)))))) (rw (subs-n x) at b)
      where
        suc-top : suc (top s - 1) ≡ top s
        suc-top = omega arith

    diamond-t : diamond t ≡ true
    unfolding diamond proper_ranks
    diamond-t =
        in_every _ (range 1 (top t - 1)) (λ r mr.
        in_every _ (range 0 (size t (suc r))) (λ g mg.
        in_every _ (subs t (suc r) g) (λ x mx.
        in_every _ (subs t r x) (λ h mh.
        let kr = of_range 1 (top t - 1) r mr in
        let kg = of_range 0 (size t (suc r)) g mg in
        rw (two r g h x kr.0 (omega (arith, top_same, kr.1)) (omega (arith, kg.1)) mx mh (ℕ_discrete r (top s - 1))) refl))))
      where
        two : (r g h x : ℕ) → 0 < r → r < top s → g < size t (suc r) → In x (subs t (suc r) g) → In h (subs t r x) → Dec (r ≡ top s - 1) → length (between t r g h) ≡ 2
        two r g h x k₀ k₁ low a b (no n) = two-below r g h x k₀ k₁ n low a b
        two r g h x k₀ k₁ low a b (yes p) = rw (p, zero-g) (two-top h x (rw (p, zero-g) at a) (rw p at b))
          where
            is_top : suc r ≡ top s
            is_top = omega arith

            zero-g : g ≡ 0
            zero-g = let k : size t (suc r) ≡ 1 = size_same (suc r) ∙ ap (size s) is_top ∙ v.one in omega arith

pub every-exchange : EveryExchange
every-exchange s v d full tall f low = record {
  sound = sound_t s tall f low v d full;
  diamonds = diamond-t s tall f low v d full;
  rank = top_same s tall f low;
  sizes = size_same s tall f low;
  filled = filled_t s tall f low v d full;
  joined = bound_same s tall f low;
}
