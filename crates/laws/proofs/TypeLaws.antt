-- The types are numbered by first appearance in every state, and so is what the types call gives out of each type.
-- Assumes nothing.
use mathlib.Core.Path.{◌≡◌, refl, sym, ◌∙◌, ap}
use Prim.Native.Nat.{ℕ}
use mathlib.Core.List.{List, [], ◌∷◌, map, map-id, map-append, ◌++◌}
use native.Mathlib.Omega.{arith}
use lib.Dec.{eqb}
use Rattle.spec.specs.Lists.{In, distinct, range, sum, join}
use Rattle.spec.specs.Types.{Solid, proper_ranks, Classes, State, types_at, type_of, start, play, ElementType, element_types_at, element_types, in_use, Numbered}
use Rattle.spec.specs.Classes.{class_table, by_table, types_of}
use Rattle.laws.specs.TypeLaws.{Described, RankLaws, TypeLaws}
use Rattle.laws.proofs.Distinct.{in_distinct, of-distinct, place_at, place-low}
use Rattle.laws.proofs.Lists.{in_get_d, in_map, map_same, map-map, of_range}
use Rattle.laws.proofs.Counts.{numbers}
use Rattle.laws.proofs.Scan.{numbers_used, counts-add-up}
use Rattle.laws.proofs.Steps.{Good, start_good}
use Rattle.laws.proofs.Result.{good_play, result_good}

map-join : {A B C : Type 0} (f : B → C) (g : A → List B) (l : List A) → map f (join (map g l)) ≡ join (map (λ x. map f (g x)) l)
unfolding join
map-join f g [] = refl
map-join {C = C} f g (x ∷ l) = map-append f (g x) (join (map g l)) ∙ ap (λ (r : List C). map f (g x) ++ r) (map-join f g l)

module _ (s : Solid) (cls : Classes) (S : State) (g : Good s cls S) (r : ℕ) where
  by_first : distinct eqb (types_at S r) ≡ range 0 (in_use S r)
  unfolding in_use
  by_first = ap (distinct eqb) (sym (g.canon r)) ∙ numbers_used eqb numbers 0 (types_at S r)

  pub numbered : Numbered s S r
  numbered = record {
    each = g.sizes r;
    low = λ e h. let m = in_distinct eqb numbers (type_of S r e) (types_at S r) (in_get_d 0 (types_at S r) e (rw (g.sizes r) h)) in omega (arith, (of_range 0 (in_use S r) (type_of S r e) (rw by_first at m)).1);
    first = by_first;
  }

  described : (k : ElementType) → In k (element_types_at S r) → Described s S r k
  unfolding element_types_at
  described k m =
      let ts = types_at S r in
      let h = in_map _ k (distinct eqb ts) m in
      let t = h.0 in
      let p = place_at eqb numbers 0 ts (of-distinct eqb numbers t ts h.1) in
      rw h.2 (record {
        rank = refl;
        there = rw (← g.sizes r) p.0;
        example = p.1;
        lowest = λ e l. place-low eqb numbers 0 ts e l;
        counted = refl;
      })

  rank_laws : RankLaws s S r
  unfolding element_types_at
  rank_laws = record {
    numbered = numbered;
    numbers = map-map _ _ (distinct eqb (types_at S r)) ∙ map-id (distinct eqb (types_at S r)) ∙ by_first;
    described = described;
    sums = ap sum (map-map _ _ (distinct eqb (types_at S r))) ∙ counts-add-up eqb numbers (types_at S r) ∙ g.sizes r;
  }

listed : (s : Solid) (cls : Classes) (z : State) → Good s cls z
    → map {B = ℕ × ℕ} (λ k. (k.rank, k.number)) (element_types s z) ≡ join (map (λ r. map (λ t. (r, t)) (range 0 (in_use z r))) (proper_ranks s))
unfolding element_types element_types_at
listed s cls z g =
    map-join _ (element_types_at z) (proper_ranks s)
    ∙ ap join (map_same _ _ (proper_ranks s) (λ r m. map-map _ _ (distinct eqb (types_at z r)) ∙ ap (map (λ t. (r, t))) (by_first s cls z g r)))

pub type_laws : TypeLaws
unfolding types_of
type_laws = record {
  steps = λ s cls xs a r. numbered s cls (play s (start s cls) xs) (good_play s cls (start s cls) xs a (start_good s cls)) r;
  ranks = λ c z e r. let cls = by_table (class_table c) in rank_laws c.abs cls z (result_good c.abs cls z e) r;
  listed = λ c z e. let cls = by_table (class_table c) in listed c.abs cls z (result_good c.abs cls z e);
}
