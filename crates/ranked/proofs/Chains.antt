-- What the library's words say of a list is what the definitions of section 2 say of it.
-- Assumes nothing.
use mathlib.Core.Path.{◌≡◌, refl, sym, ◌∙◌, ap, subst}
use mathlib.Core.Bool.{Bool, true, false, cond, ◌&&◌, ◌||◌}
use mathlib.Core.List.{List, [], ◌∷◌}
use Prim.Native.Nat.{ℕ, zero, suc, ◌+◌, ◌-◌, ◌≤◌, ◌<◌}
use native.Mathlib.Nat.{zero-add}
use native.Mathlib.Numerals.{add-one}
use native.Mathlib.Omega.{arith}
use lib.ListN.{length}
use lib.Dec.{eqb, ltb}
use Rattle.std.specs.Prelude.{Option, Some, None}
use Rattle.std.specs.List.{filter, list_all, list_any, position, position_or_len, range_with_len, FoldsTo}
use Rattle.std.specs.Option.{MatchOption, IfSome, IsSomeAnd, option_map}
use Rattle.std.specs.Fn.{Called}
use Rattle.std.specs.Iterator.{CallableAtEachTurn, YieldsThen}
use Rattle.std.specs.declared.slice.Iter.{Iter}
use Rattle.std.specs.Slice.Iter.{iter_rest}
use Rattle.std.specs.declared.ops.Range.{Range}
use denote.Ref.{Bor}
use denote.Param.Members.{Mut}
use Rattle.std.proofs.iter.Yields.{fronts, nat_range_steps}
use Rattle.std.proofs.lemmas.Iterator.{YieldsList-from_slice, YieldsList-from_range}
use Rattle.std.proofs.lemmas.Iterator.Adapters.{serves_from_places}
use Rattle.std.proofs.iter.runs.Sources.{range_runs}
use Rattle.std.specs.Iterator.Runs.{Run, SomeRun, ItemsCountUp, AllItemsGive, IsFirstToGive, CallKeepsClosure}
use Rattle.std.proofs.lemmas.Iterator.Search.{all_from_yields_List}
use Rattle.laws.proofs.Lists.{in_get_d, length-range, get_d_range}
use Rattle.std.proofs.lemmas.Bool.{cond_both, ltb-true, ltb-false}
use Rattle.std.proofs.lemmas.List.Recursion.{is_position_or_len}
use Rattle.spec.specs.Lists.{In, range, holds, place, every, keep}

pub any_holds : (x : ℕ) (l : List ℕ) → list_any (λ y. eqb y x) l ≡ holds eqb x l
unfolding holds
any_holds x [] = refl
any_holds x (y ∷ l) = go (eqb y x) (any_holds x l)
  where
    go : (b : Bool) → list_any (λ z. eqb z x) l ≡ holds eqb x l → (b || list_any (λ z. eqb z x) l) ≡ elim b [ true ↦ true | false ↦ holds eqb x l ]
    go true e = refl
    go false e = e

pub all_every : {A : Type 0} (p : A → Bool) (l : List A) → list_all p l ≡ every p l
unfolding every
all_every p [] = refl
all_every p (x ∷ l) = go (p x) (all_every p l)
  where
    go : (b : Bool) → list_all p l ≡ every p l → (b && list_all p l) ≡ elim b [ true ↦ every p l | false ↦ false ]
    go true e = e
    go false e = refl

pub filter_keep : (p : ℕ → Bool) (l : List ℕ) → filter p l ≡ keep p l
unfolding keep
filter_keep p [] = refl
filter_keep p (x ∷ l) = go (p x) (filter_keep p l)
  where
    go : (b : Bool) → filter p l ≡ keep p l → cond b (x ∷ filter p l) (filter p l) ≡ elim b [ true ↦ x ∷ keep p l | false ↦ keep p l ]
    go true e = ap (λ (m : List ℕ). x ∷ m) e
    go false e = e

pub range_is : (a n : ℕ) → range_with_len a n ≡ range a n
unfolding range
range_is a zero = refl
range_is a (suc n) = ap (λ (l : List ℕ). a ∷ l) (rw add-one (range_is (suc a) n))

place_is : (x : ℕ) (l : List ℕ) → place eqb x l ≡ position_or_len (λ y. eqb y x) l
unfolding place
place_is x l = is_position_or_len (place eqb x) (λ y. eqb y x) refl (λ y ys. go (eqb y x) (place eqb x ys)) l
  where
    go : (b : Bool) (n : ℕ) → elim b [ true ↦ 0 | false ↦ suc n ] ≡ cond b 0 (1 + n)
    go true n = refl
    go false n = omega arith

-- What was found is the place of x, which lies within the list, and where nothing was found, the place is the list's length.
pub place_some : (x : ℕ) (l : List ℕ) (k : ℕ) → position (λ y. eqb y x) l ≡ Some k → (k ≡ place eqb x l) × (k < length l)
place_some x l k =
    let n = position_or_len (λ y. eqb y x) l in
    cond_both (ltb n (length l)) (Some n) None (λ (o : Option ℕ). o ≡ Some k → (k ≡ place eqb x l) × (k < length l))
    (λ t q. let same : n ≡ k = cc in (sym same ∙ sym (place_is x l), omega (arith, ltb-true n (length l) t)))
    (λ f q. cc)

pub place_none : (x : ℕ) (l : List ℕ) → position (λ y. eqb y x) l ≡ None → length l ≤ place eqb x l
place_none x l =
    let n = position_or_len (λ y. eqb y x) l in
    cond_both (ltb n (length l)) (Some n) None (λ (o : Option ℕ). o ≡ None → length l ≤ place eqb x l)
    (λ t q. cc)
    (λ f q. omega (arith, ltb-false n (length l) f, place_is x l))

-- ---- chains over a slice and over a range

-- A closure may be called at each item of a slice, if it may at each member of its list.
pub serves_members : {F : Type 0} {R : F → Bor ℕ → F → Type 0} {Q : F → Bor ℕ → Type 0} {s : Iter ℕ} {f : F} (l : List ℕ) → iter_rest s ≡ l
    → ((x : Bor ℕ) (q : F) → R f x q → q ≡ f) → ((x : Bor ℕ) → In x.now l → Q f x) → CallableAtEachTurn fronts R Q s f
serves_members l e keeps may =
    serves_from_places (YieldsList-from_slice l e) keeps (λ x k h at. may x (rw at (in_get_d x.now l k h)))

-- What `all` said of a slice is what the definition says of its list.
pub all_members : {F : Type 0} {g : Mut F (Bor ℕ × Unit {0}) Bool} {s u : Iter ℕ} {f : F} {r : Bool} (test : ℕ → Bool) (l : List ℕ) → iter_rest s ≡ l
    → (xs : List (Bor ℕ)) × (o : Option (Bor ℕ)) × (j : F) × YieldsThen fronts s xs o u × FoldsTo (λ p x q. Called g p (x, tt) true q) f xs j
    × MatchOption o (r ≡ true) (λ x. (r ≡ false) × ((h : F) × Called g j (x, tt) false h))
    → ((x : Bor ℕ) (b : Bool) (q : F) → Called g f (x, tt) b q → (q ≡ f) × (b ≡ test x.now)) → r ≡ every test l
all_members test l e ran says = all_from_yields_List test _ _ _ ran (YieldsList-from_slice l e) says ∙ all_every test l

-- The same of the n numbers from a up to b.
pub all_numbers : {F : Type 0} {g : Mut F (ℕ × Unit {0}) Bool} {s u : Range ℕ} {f : F} {r : Bool} (test : ℕ → Bool) (a b n : ℕ)
    → s ≡ record { start = a; end = b } → b - a ≡ n
    → (xs : List ℕ) × (o : Option ℕ) × (j : F) × YieldsThen nat_range_steps s xs o u × FoldsTo (λ p x q. Called g p (x, tt) true q) f xs j
    × MatchOption o (r ≡ true) (λ x. (r ≡ false) × ((h : F) × Called g j (x, tt) false h))
    → ((x : ℕ) (t : Bool) (q : F) → Called g f (x, tt) t q → (q ≡ f) × (t ≡ test x)) → r ≡ every test (range a n)
all_numbers test a b n e many ran says =
    all_from_yields_List test _ _ _ ran (YieldsList-from_range a b n e many) says ∙ all_every test (range_with_len a n) ∙ ap (every test) (range_is a n)

-- A closure may be called at each number below b, if it may at each of them.
pub serves_numbers : {F : Type 0} {R : F → ℕ → F → Type 0} {Q : F → ℕ → Type 0} {s : Range ℕ} {f : F} (b : ℕ) → s ≡ record { start = 0; end = b }
    → ((x : ℕ) (q : F) → R f x q → q ≡ f) → ((x : ℕ) → x < b → Q f x) → CallableAtEachTurn nat_range_steps R Q s f
serves_numbers b e keeps may =
    serves_from_places (YieldsList-from_range 0 b b e (omega arith)) keeps (λ x k h at.
    let low : k < b = rw (range_is, length-range) at h in
    let is : x ≡ 0 + k = (rw range_is at at) ∙ get_d_range 0 b x k low in
    may x (omega arith))

-- What `find_map` said of these numbers, where each call tells M of its number and its answer.
module _ {C F : Type 0} {g : Mut F (ℕ × Unit {0}) (Option C)} {s : Range ℕ} {f : F} (M : ℕ → Option C → Type 0) (b : ℕ) (e : s ≡ record { start = 0; end = b })
    (tells : (x : ℕ) (o : Option C) (q : F) → Called g f (x, tt) o q → (q ≡ f) × M x o) where
  module _ (p : Run nat_range_steps) (from : p.from ≡ s) where
    counts : ItemsCountUp p 0 b
    counts = subst (λ (q : Range ℕ). ItemsCountUp p q.start q.end) (from ∙ e) (range_runs p p.seen)

    item : (o : Option ℕ) (n : ℕ) → option_map (λ y. y) o ≡ Some n → o ≡ Some n
    item None n q = cc
    item (Some x) n q = q

    at_is : (k : ℕ) → k < p.len → p.at k ≡ Some k
    at_is k l = item (p.at k) k (rw zero-add at (counts.3 k l))

    keeps : CallKeepsClosure g f
    keeps a o q c = (tells a.0 o q c).0

    told : (k : ℕ) (o : Option C) → k < p.len → IsSomeAnd (p.at k) (λ x. Called g f (x, tt) o f) → M k o
    told k o l h = (tells k o f (subst (λ (m : Option ℕ). IsSomeAnd m (λ x. Called g f (x, tt) o f)) (at_is k l) h)).1

    first_of : (r : Option C) → MatchOption r ((p.whole ≡ true) × AllItemsGive p g f None) (λ y. (i : ℕ) × (i < p.len) × (p.len ≡ i + 1) × IsFirstToGive p g f (Some y) None i)
        → MatchOption r ((k : ℕ) → k < b → M k None) (λ y. (i : ℕ) × (i < b) × M i (Some y) × ((k : ℕ) → k < i → M k None))
    first_of None h = λ k l.
        let low : k < p.len = omega (arith, counts.1 h.0) in
        (tells k None f (subst (λ (m : Option ℕ). IfSome m (λ x. Called g f (x, tt) None f)) (at_is k low) (h.1 keeps k))).1
    first_of (Some y) h =
        let q = h.3 keeps in
        (h.0, omega (arith, h.1, counts.0), told h.0 (Some y) h.1 q.0, λ k l. told k None (omega (arith, h.1)) (q.1 k l))

  pub first_mapped : (r : Option C)
      → SomeRun nat_range_steps s (λ p. MatchOption r ((p.whole ≡ true) × AllItemsGive p g f None) (λ y. (i : ℕ) × (i < p.len) × (p.len ≡ i + 1) × IsFirstToGive p g f (Some y) None i))
      → MatchOption r ((k : ℕ) → k < b → M k None) (λ y. (i : ℕ) × (i < b) × M i (Some y) × ((k : ℕ) → k < i → M k None))
  first_mapped r d = first_of d.0 d.1 r d.2
