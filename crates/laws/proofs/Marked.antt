-- A confirmed row carries elements as demand 3's symmetries do.
-- Assumes nothing.
use mathlib.Core.Path.{◌≡◌, refl, sym, ◌∙◌, ap, subst}
use mathlib.Core.Logic.{inl, inr}
use Prim.Native.Nat.{ℕ, zero, suc, pred, ◌<◌}
use mathlib.Core.Bool.{Bool, true, false, not, ◌&&◌, false≢true}
use mathlib.Core.List.{List, [], ◌∷◌, map}
use native.Mathlib.Omega.{arith}
use native.Mathlib.Nat.{not-suc-le-zero}
use lib.ListN.{length, get_or}
use lib.Dec.{T, eqb, ltb, ltb→lt}
use Rattle.spec.specs.Lists.{In, holds, place, eq_list, range, keep, every, no_repeats, in_order}
use Rattle.spec.specs.Types.{Solid, top, size, subs, proper_ranks, is_proper, Classes, reach, vertices, vertex_sets}
use Rattle.spec.specs.Demand.{Sound, Proper, Carries}
use Rattle.spec.specs.Mark.{sets_apart, image, goes, carries_element, marked}
use Rattle.laws.proofs.Distinct.{Test, Once, Split, split, in?, place_at}
use Rattle.laws.proofs.Lists.{in_get_d, map_in, in_map, in_range_lem, of_range, get_d_table, length_table}
use Rattle.laws.proofs.Counts.{numbers, lists, keep_in, in_keep, holds_in, in_holds}
use Rattle.laws.proofs.Steps.{proper?}
use Rattle.laws.proofs.Result.{proper-rank}
use Rattle.laws.proofs.Carry.{is_proper_lem, proper_is}
use Rattle.laws.proofs.Scan.{place_self, place_out}

-- ---- the tests

pub both : (a b : Bool) → a && b ≡ true → (a ≡ true) × (b ≡ true)
both true b e = (refl, e)
both false b e = absurd (false≢true e)

pub lt_test : (m n : ℕ) → ltb m n ≡ true → m < n
lt_test m n e = ltb→lt m n (subst T (sym e) tt)

pub every_both : {A : Type 0} (p : A → Bool) (x : A) (l : List A) → every p (x ∷ l) ≡ true → (p x ≡ true) × (every p l ≡ true)
unfolding every
every_both p x l = split (p x)
  where
    split : (b : Bool) → elim b as (λ c. Bool) [ true ↦ every p l | false ↦ false ] ≡ true → (b ≡ true) × (every p l ≡ true)
    split true e = (refl, e)
    split false e = absurd (false≢true e)

pub every_in : {A : Type 0} (p : A → Bool) (l : List A) → every p l ≡ true → (x : A) → In x l → p x ≡ true
unfolding every
every_in p (y ∷ l) e x (inl q) = rw q (every_both p y l e).0
every_in p (y ∷ l) e x (inr m) = every_in p l (every_both p y l e).1 x m
every_in {A = A} p [] e x x4 = elim x4 [ ]

module _ {A : Type 0} (same : A → A → Bool) (test : Test same) where
  pub holds_of : (t : A) (l : List A) → In t l → holds same t l ≡ true
  unfolding holds
  holds_of t (x ∷ l) m = go (split same test x t) m (λ (h : In t l). holds_of t l h)
    where
      go : Split same test x t → In t (x ∷ l) → (In t l → holds same t l ≡ true) → holds same t (x ∷ l) ≡ true
      go (inl (p, e)) h ih = rw (e, holds)
      go (inr (p, e)) (inl q) ih = absurd (p (sym q))
      go (inr (p, e)) (inr h) ih = rw (e, holds) (ih h)
  holds_of t [] m = elim m [ ]

  pub no_repeats_lem : (l : List A) → no_repeats same l ≡ true → Once l
  unfolding no_repeats
  no_repeats_lem [] e = tt
  no_repeats_lem (x ∷ l) e =
      let b = both (not (holds same x l)) (no_repeats same l) e in
      (λ h. false≢true (ap not (sym (holds_of x l h)) ∙ b.0), no_repeats_lem l b.1)

-- ---- sets in order

pub in_order_lem : (n : ℕ) (l : List ℕ) (v : ℕ) → v < n → In v l → In v (in_order n l)
unfolding in_order
in_order_lem n l v h m = keep_in (λ u. holds eqb u l) v (range 0 n) (in_range_lem 0 n v (omega arith) (omega arith)) (holds_in v l m)

pub of_order : (n : ℕ) (l : List ℕ) (v : ℕ) → In v (in_order n l) → (v < n) × In v l
unfolding in_order
of_order n l v m =
    let k = in_keep (λ u. holds eqb u l) v (range 0 n) m in
    let b = of_range 0 n v k.0 in
    (omega arith, in_holds v l k.1)

keep_same : (p q : ℕ → Bool) (l : List ℕ) → ((x : ℕ) → In x l → p x ≡ q x) → keep p l ≡ keep q l
unfolding keep
keep_same p q [] h = refl
keep_same p q (x ∷ l) h = go (q x) refl (keep_same p q l (λ y m. h y (inr m)))
  where
    go : (b : Bool) → q x ≡ b → keep p l ≡ keep q l → keep p (x ∷ l) ≡ keep q (x ∷ l)
    go true e ih = rw (h x (inl refl) ∙ e, e, keep) (ap (λ (r : List ℕ). x ∷ r) ih)
    go false e ih = rw (h x (inl refl) ∙ e, e, keep) ih

-- Two sets in order are one list when they hold the same.
pub order_same : (n : ℕ) (l m : List ℕ) → ((v : ℕ) → v < n → In v l → In v m) → ((v : ℕ) → v < n → In v m → In v l) → in_order n l ≡ in_order n m
unfolding in_order
order_same n l m f g = keep_same (λ u. holds eqb u l) (λ u. holds eqb u m) (range 0 n) (λ v k. let b = of_range 0 n v k in go v (omega arith) (in? eqb numbers v l) (in? eqb numbers v m))
  where
    out : (v : ℕ) (r : List ℕ) → ¬ In v r → (b : Bool) → holds eqb v r ≡ b → holds eqb v r ≡ false
    out v r k true e = absurd (k (in_holds v r e))
    out v r k false e = e

    go : (v : ℕ) → v < n → Dec (In v l) → Dec (In v m) → holds eqb v l ≡ holds eqb v m
    go v h (yes a) d = holds_in v l a ∙ sym (holds_in v m (f v h a))
    go v h (no a) (yes b) = absurd (a (g v h b))
    go v h (no a) (no b) = out v l a (holds eqb v l) refl ∙ sym (out v m b (holds eqb v m) refl)

-- ---- where an element goes

module _ (s : Solid) (row : List ℕ) where
  pub goes-proper : (r e : ℕ) → Proper s r → goes s row r e ≡ place eq_list (image s row r e) (vertex_sets s r)
  unfolding goes
  goes-proper r e p = rw (proper_is s r p, goes)

  pub goes_improper : (r e : ℕ) → ¬ Proper s r → goes s row r e ≡ e
  unfolding goes
  goes_improper r e n = go (is_proper s r) refl
    where
      go : (b : Bool) → is_proper s r ≡ b → goes s row r e ≡ e
      go true q = absurd (n (is_proper_lem s r q))
      go false q = rw (q, goes)

  -- Where an element of the rank is gone to, its vertices are the image.
  pub goes-vertices : (r e : ℕ) → Proper s r → goes s row r e < size s r → vertices s r (goes s row r e) ≡ image s row r e
  unfolding vertex_sets
  goes-vertices r e p h = go (in? eq_list lists (image s row r e) (vertex_sets s r))
    where
      go : Dec (In (image s row r e) (vertex_sets s r)) → vertices s r (goes s row r e) ≡ image s row r e
      go (yes m) =
          sym (get_d_table (vertices s r) [] (size s r) (goes s row r e) h) ∙ ap (λ (i : ℕ). get_or (vertex_sets s r) i []) (goes-proper r e p)
          ∙ (place_at eq_list lists [] (vertex_sets s r) m).1
      go (no m) = absurd (omega (arith, h, goes-proper r e p, place_out eq_list lists (vertex_sets s r) (image s row r e) m, length_table (vertices s r) (size s r)))

-- An element of a rank with no vertex set twice is where its own stands.
pub set-place : (s : Solid) (r : ℕ) → Once (vertex_sets s r) → (i : ℕ) → i < size s r → place eq_list (vertices s r i) (vertex_sets s r) ≡ i
unfolding vertex_sets
set-place s r o i h =
    rw (← get_d_table (vertices s r) [] (size s r) i h) (place_self eq_list lists [] (vertex_sets s r) o i (rw (length_table (vertices s r) (size s r)) h))

-- ---- a row that is a permutation of the vertices

pub record Permutes (s : Solid) (row : List ℕ) : Type 0 where
  pub full : length row ≡ size s 1
  pub low : (v : ℕ) → In v row → v < size s 1
  pub once : Once row

module _ (s : Solid) (row : List ℕ) (a : Permutes s row) where
  -- It takes a vertex to a vertex, and no two to one.
  pub row_low : (v : ℕ) → v < size s 1 → get_or row v 0 < size s 1
  row_low v h = a.low (get_or row v 0) (in_get_d 0 row v (rw a.full h))

  row_once : (u v : ℕ) → u < size s 1 → v < size s 1 → get_or row u 0 ≡ get_or row v 0 → u ≡ v
  row_once u v hu hv e =
      sym (place_self eqb numbers 0 row a.once u (rw a.full hu)) ∙ ap (λ (x : ℕ). place eqb x row) e
      ∙ place_self eqb numbers 0 row a.once v (rw a.full hv)

  -- Elements with one image have one vertex set.
  back : (r e f : ℕ) → image s row r e ≡ image s row r f → (v : ℕ) → In v (vertices s r e) → In v (vertices s r f)
  unfolding image vertices
  back r e f q v m =
      let n₁ = size s 1 in
      let to : ℕ → ℕ = λ x. get_or row x 0 in
      let hv = (of_order n₁ (reach s r e) v m).0 in
      let k = in_order_lem n₁ (map to (vertices s r e)) (get_or row v 0) (row_low v hv) (map_in to v (vertices s r e) m) in
      let u = in_map to (get_or row v 0) (vertices s r f) (of_order n₁ (map to (vertices s r f)) (get_or row v 0) (subst (λ (l : List ℕ). In (get_or row v 0) l) q k)).1 in
      let hu = (of_order n₁ (reach s r f) u.0 u.1).0 in
      rw (row_once v u.0 hv hu u.2) u.1

  vertices_same : (r e f : ℕ) → image s row r e ≡ image s row r f → vertices s r e ≡ vertices s r f
  unfolding vertices
  vertices_same r e f q =
      let n₁ = size s 1 in
      order_same n₁ (reach s r e) (reach s r f)
      (λ v h m. (of_order n₁ (reach s r f) v (back r e f q v (in_order_lem n₁ (reach s r e) v h m))).1)
      (λ v h m. (of_order n₁ (reach s r e) v (back r f e (sym q) v (in_order_lem n₁ (reach s r f) v h m))).1)

  -- No two elements go to one.
  pub goes-apart : (r e f : ℕ) → Proper s r → Once (vertex_sets s r) → e < size s r → f < size s r → goes s row r e < size s r → goes s row r e ≡ goes s row r f → e ≡ f
  goes-apart r e f p o he hf h q =
      let k : goes s row r f < size s r = rw q at h in
      let i : image s row r e ≡ image s row r f = sym (goes-vertices s row r e p h) ∙ ap (vertices s r) q ∙ goes-vertices s row r f p k in
      sym (set-place s r o e he) ∙ ap (λ (l : List ℕ). place eq_list l (vertex_sets s r)) (vertices_same r e f i) ∙ set-place s r o f hf

-- ---- an element that is carried

module _ (s : Solid) (cls : Classes) (row : List ℕ) where
  pub record ElementFit (r e : ℕ) : Type 0 where
    pub inside : goes s row r e < size s r
    pub class : cls r (goes s row r e) ≡ cls r e
    pub onto : subs s r (goes s row r e) ≡ in_order (size s (pred r)) (map (goes s row (pred r)) (subs s r e))

  pub fit_of : (r e : ℕ) → carries_element s cls row r e ≡ true → ElementFit r e
  unfolding carries_element
  fit_of r e ok =
      let a = ltb (goes s row r e) (size s r) in
      let b = eqb (cls r (goes s row r e)) (cls r e) in
      let c = eq_list (subs s r (goes s row r e)) (in_order (size s (pred r)) (map (goes s row (pred r)) (subs s r e))) in
      let h₂ = both (a && b) c ok in
      let h₁ = both a b h₂.0 in
      record { inside = lt_test _ _ h₁.0; class = numbers.sound _ _ h₁.1; onto = lists.sound _ _ h₂.1 }

-- ---- a confirmed row

module _ (s : Solid) (w : Sound s) (cls : Classes) (row : List ℕ) (ok : marked s cls row ≡ true) where
  record RuleParts : Type 0 where
    sets : (r : ℕ) → Proper s r → Once (vertex_sets s r)
    permutes : Permutes s row
    fit : (r e : ℕ) → Proper s r → e < size s r → carries_element s cls row r e ≡ true

  parts : RuleParts
  unfolding marked
  parts =
      let n₁ = size s 1 in
      let a = sets_apart s in
      let b = eqb (length row) n₁ in
      let c = every (λ v. ltb v n₁) row in
      let d = no_repeats eqb row in
      let e = every (λ r. every (carries_element s cls row r) (range 0 (size s r))) (proper_ranks s) in
      let h₄ = both (a && b && c && d) e ok in
      let h₃ = both (a && b && c) d h₄.0 in
      let h₂ = both (a && b) c h₃.0 in
      let h₁ = both a b h₂.0 in
      record {
        sets = λ r p. no_repeats_lem eq_list lists (vertex_sets s r) (every_in (λ q. no_repeats eq_list (vertex_sets s q)) (proper_ranks s) h₁.0 r (proper-rank s r p));
        permutes = record {
          full = numbers.sound (length row) n₁ h₁.1;
          low = λ v m. lt_test v n₁ (every_in (λ u. ltb u n₁) row h₂.1 v m);
          once = no_repeats_lem eqb numbers row h₃.1;
        };
        fit = λ r i p h. every_in (carries_element s cls row r) (range 0 (size s r))
            (every_in (λ q. every (carries_element s cls row q) (range 0 (size s q))) (proper_ranks s) h₄.1 r (proper-rank s r p)) i (in_range_lem 0 (size s r) i (omega arith) (omega arith));
      }

  fit : (r e : ℕ) → Proper s r → e < size s r → ElementFit s cls row r e
  fit r e p h = fit_of s cls row r e (parts.fit r e p h)

  inside : (r e : ℕ) → e < size s r → goes s row r e < size s r
  inside r e h = go (proper? s r)
    where
      go : Dec (Proper s r) → goes s row r e < size s r
      go (yes p) = (fit r e p h).inside
      go (no n) = rw (goes_improper s row r e n) h

  apart : (r e f : ℕ) → e < size s r → f < size s r → goes s row r e ≡ goes s row r f → e ≡ f
  apart r e f he hf q = go (proper? s r)
    where
      go : Dec (Proper s r) → e ≡ f
      go (no n) = sym (goes_improper s row r e n) ∙ q ∙ goes_improper s row r f n
      go (yes p) = goes-apart s row parts.permutes r e f p (parts.sets r p) he hf (inside r e he) q

  pub carries : Carries s cls (goes s row)
  carries = record {
    ranks = inside;
    classes = λ r e p h. (fit r e p h).class;
    apart = apart;
    onto = λ r e p h x. (
      λ m. (of_order (size s (pred r)) (map (goes s row (pred r)) (subs s r e)) x (rw (fit r e p h).onto at m)).1,
      λ m. rw (fit r e p h).onto (in_order_lem (size s (pred r)) (map (goes s row (pred r)) (subs s r e)) x (low r e x p m) m),
    );
    least = goes_improper s row 0 0 (λ p. not-suc-le-zero p.0);
    peak = goes_improper s row (top s) 0 (λ p. omega (arith, p.1));
  }
    where
      below : (r e u : ℕ) → Proper s r → In u (subs s r e) → u < size s (pred r)
      below zero e u p m = absurd (not-suc-le-zero p.0)
      below (suc r) e u p m = w.below r e u m

      low : (r e x : ℕ) → Proper s r → In x (map (goes s row (pred r)) (subs s r e)) → x < size s (pred r)
      low r e x p m =
          let u = in_map (goes s row (pred r)) x (subs s r e) m in
          rw u.2 (inside (pred r) u.0 (below r e u.0 p u.1))
