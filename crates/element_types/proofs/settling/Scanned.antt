-- The elements of a rank are numbered by their classes one after another, and this file says what holds when e are done.
-- Assumes nothing.
use Rattle.std.specs.Prelude.{Option, Some, None, position, All}
use mathlib.Core.Path.{◌≡◌, refl, sym, ◌∙◌, ap}
use mathlib.Core.Logic.{◌≢◌, ◌⊎◌, inl, inr}
use mathlib.Core.List.{List, [], ◌∷◌, ◌++◌, map, map-append}
use Prim.Native.Nat.{ℕ, ◌+◌, ◌≤◌, ◌<◌}
use native.Mathlib.Omega.{arith}
use native.Mathlib.Numerals.{add-one}
use lib.ListN.{length, get_or, set, take, length-map}
use lib.Seq.{take-suc-set, length-take-le}
use lib.Dec.{eqb}
use lib.Ieee.{Float, nan}
use Rattle.spec.specs.Lists.{In, distinct, place, renumber, range}
use Rattle.laws.proofs.Counts.{numbers}
use Rattle.laws.proofs.FlagList.{in_either}
use Rattle.geometry.specs.Classes.{same_class}
use Rattle.element_types.specs.Start.{Shares, ClassesFit}
use Rattle.element_types.proofs.Appeared.{table_snoc, numbered_next, kind_old, kind_new}
use Rattle.element_types.proofs.Places.{all_in, position-map, found_place, unfound_place, place-alike}

-- The first e of the numbers v are those of cls, and the first m of the elements x have one of each.
pub record ClassesMet (v x : List ℕ) (cls : ℕ → ℕ) (m e : ℕ) : Type 0 where
  pub types : take e v ≡ renumber eqb (map cls (range 0 e))
  pub kinds : map cls (take m x) ≡ distinct eqb (map cls (range 0 e))

pub record ClassesScan (classes : List Float) (v x : List ℕ) (m e : ℕ) : Type 0 where
  pub few : m ≤ e
  pub low : (g : ℕ) → In g (take m x) → g < e
  pub met : (cls : ℕ → ℕ) → Shares classes cls → ClassesMet v x cls m e

pub scan-first : (classes : List Float) (v x : List ℕ) → ClassesScan classes v x 0 0
unfolding renumber distinct range
scan-first classes v x = record { few = omega arith; low = λ g h. absurd h; met = λ cls s. record { types = refl; kinds = refl } }

module _ (classes : List Float) (v x : List ℕ) (m e : ℕ) (s : ClassesScan classes v x m e) (h : e < length classes) (f : ClassesFit classes v x) where
  abbrev cell : ℕ → Float
  cell g = get_or classes g nan

  m-in : m ≤ length x
  m-in = omega (arith, s.few, f.room)

  -- This is what finding the class asks.
  pub firsts_in : All (λ g. g < length classes) (take m x)
  firsts_in = all_in (λ g. g < length classes) (take m x) (λ g k. omega (arith, s.low g k))

  module _ (found : Option ℕ) (o : found ≡ position (λ g. same_class (cell g) (cell e)) (take m x)) where
    among : found ≡ position (λ c. same_class c (cell e)) (map cell (take m x))
    among = o ∙ position-map (λ c. same_class c (cell e)) cell (take m x)

    many : length (map cell (take m x)) ≡ m
    many = length-map (take m x) cell ∙ length-take-le m x m-in

    pub class_old : (p : ℕ) → found ≡ Some p → (p ≡ place same_class (cell e) (map cell (take m x))) × (p < m)
    class_old p k =
        let both = found_place same_class (cell e) (map cell (take m x)) found among p k in
        (both.0, rw many at both.1)

    pub class_new : found ≡ None → m ≡ place same_class (cell e) (map cell (take m x))
    class_new k = sym (unfound_place same_class (cell e) (map cell (take m x)) found among k ∙ many)

  module _ (p : ℕ) (found : p ≡ place same_class (cell e) (map cell (take m x))) where
    module _ (cls : ℕ → ℕ) (share : Shares classes cls) where
      abbrev done : List ℕ
      done = map cls (range 0 e)

      more : map cls (range 0 (e + 1)) ≡ done ++ cls e ∷ []
      more = ap (λ (i : ℕ). map cls (range 0 i)) (add-one e) ∙ table_snoc cls 0 e e (omega arith)

      -- The number that is found is the class's place among what was met.
      place_is : p ≡ place eqb (cls e) (distinct eqb done)
      place_is =
          found ∙ place-alike same_class eqb cell cls (cell e) (cls e) (take m x) (λ g k. sym (share g e (omega (arith, s.low g k)) h))
          ∙ ap (place eqb (cls e)) (s.met cls share).kinds

      kinds-many : length (distinct eqb done) ≡ m
      kinds-many = ap length (sym (s.met cls share).kinds) ∙ length-map (take m x) cls ∙ length-take-le m x m-in

      types-next : take (e + 1) (set v e p) ≡ renumber eqb (map cls (range 0 (e + 1)))
      types-next = numbered_next eqb numbers done (cls e) m p kinds-many place_is v e (omega (arith, f.numbered)) (s.met cls share).types ∙ ap (renumber eqb) (sym more)

      old_kind : p ≢ m → distinct eqb (map cls (range 0 (e + 1))) ≡ distinct eqb done
      old_kind z = ap (distinct eqb) more ∙ kind_old eqb numbers done (cls e) m p kinds-many place_is z

      new_kind : p ≡ m → distinct eqb (map cls (range 0 (e + 1))) ≡ distinct eqb done ++ cls e ∷ []
      new_kind z = ap (distinct eqb) more ∙ kind_new eqb numbers done (cls e) m p kinds-many place_is z

    -- The class was met before.
    pub scan_old : p ≢ m → ClassesScan classes (set v e p) x m (e + 1)
    scan_old z = record {
      few = omega (arith, s.few);
      low = λ g k. omega (arith, s.low g k);
      met = λ cls k. record { types = types-next cls k; kinds = (s.met cls k).kinds ∙ sym (old_kind cls k z) };
    }

    -- The class is new, and this element stands for it.
    firsts : take (m + 1) (set x m e) ≡ take m x ++ e ∷ []
    firsts = ap (λ (i : ℕ). take i (set x m e)) (add-one m) ∙ take-suc-set x m e (omega (arith, s.few, f.room))

    pub scan_new : p ≡ m → ClassesScan classes (set v e p) (set x m e) (m + 1) (e + 1)
    scan_new z = record {
      few = omega (arith, s.few);
      low = λ g k. side g (in_either g (take m x) (e ∷ []) (rw firsts at k));
      met = λ cls k. record {
        types = types-next cls k;
        kinds =
            ap (map cls) firsts ∙ map-append cls (take m x) (e ∷ []) ∙ ap (λ (l : List ℕ). l ++ cls e ∷ []) (s.met cls k).kinds
            ∙ sym (new_kind cls k z);
      };
    }
      where
        side : (g : ℕ) → In g (take m x) ⊎ In g (e ∷ []) → g < e + 1
        side g (inl k) = omega (arith, s.low g k)
        side g (inr (inl k)) = omega arith
        side g (inr (inr k)) = elim k [ ]
