-- The call goes by its outcomes.
-- Assumes nothing.
use Rattle.std.specs.Prelude.{Err, None, Ok, Option, Some}
use mathlib.Core.Path.{◌≡◌, refl, sym, ap, ◌∙◌}
use mathlib.Core.Bool.{Bool, true, false, ◌&&◌}
use mathlib.Core.List.{List, [], ◌∷◌, map}
use Prim.Native.Nat.{ℕ, ◌+◌, ◌*◌, ◌≤◌, ◌<◌}
use native.Mathlib.Omega.{arith}
use borrow.Author.Tests.{le-leb, lt-leb}
use lib.Dec.{eqb, leb}
use lib.ListN.{length, length-append, length-map}
use Rattle.spec.specs.declared.Refusal.{Refusal}
use Rattle.spec.specs.declared.Refusal.TheVariants.{ShortSheet, Unsettled}
use Rattle.spec.specs.Refusal.{Answer, refused_with}
use Rattle.spec.specs.Lists.{distinct, sum, join, written}
use Rattle.spec.specs.Types.{Solid, State, types_at, size, proper_ranks, elements, type_count, given, element_types_at, element_types}
use Rattle.spec.specs.Judged as Judging
use Rattle.spec.specs.Solid.{Concrete, preflight}
use Rattle.spec.specs.Classes.{types_of}
use Rattle.spec.specs.Calls.{Given, type_cells, TypesOut, types_given, types_written, types_call}
use Rattle.laws.proofs.Lists.{map_same}
use Rattle.laws.proofs.Counts.{sum-le}
use Rattle.ranked.specs.declared.Shape.{Shape}
use Rattle.ranked.specs.Words.{lists_of, abs_in}
use Rattle.ranked.specs.Layout.{proper}
use Rattle.ranked.proofs.Counted.{proper_is}
use Rattle.element_types.specs.State.{state_in, Countable}
use Rattle.types.specs.Call.{handed_out, answered}
use Rattle.types.proofs.Rows.{many_few}
use Rattle.element_types.proofs.Given.{types_in_lem, given_long}
use Rattle.types.proofs.Ranks.{proper-low}

-- ---- the tails

module _ (b : List ℕ) (words floats : ℕ) (old : TypesOut) where
  pub call-refused : (why : Refusal) → preflight b words floats ≡ Err why → types_call b words floats old ≡ (refused_with why 0, old)
  unfolding types_call types_given types_written Judging.◌>>=◌
  call-refused why p = rw p refl

  pub call_passed : (c : Concrete) → preflight b words floats ≡ Ok c → types_call b words floats old ≡ answered c old
  unfolding types_call types_given types_written answered handed_out Judging.◌>>=◌ Judging.◌>>◌ Judging.wanted Judging.judge
  call_passed c p = rw p (go (types_of c))
    where
      out : State → Given
      out z = record { elements = given c.abs z; types = element_types c.abs z }

      last : (z : State) (t : Bool)
          → types_written (Judging.◌>>◌ (Judging.judge ShortSheet t) (Ok (out z))) old
          ≡ elim t as (λ _. Answer × TypesOut) [
            | false ↦ (refused_with ShortSheet 0, old)
            | true ↦ (
              Ok (length (element_types c.abs z)),
              record { elements = written (given c.abs z) old.elements; types = written (join (map type_cells (element_types c.abs z))) old.types },
            )
          ]
      last z true = refl
      last z false = refl

      go : (o : Option State)
          → types_written
          (Judging.◌>>=◌ (Judging.wanted Unsettled o)
          (λ z. Judging.◌>>◌ (Judging.judge ShortSheet (leb (length (given c.abs z)) (length old.elements) && leb (4 * length (element_types c.abs z)) (length old.types))) (Ok (out z))))
          old
          ≡ elim o as (λ _. Answer × TypesOut) [ None ↦ (refused_with Unsettled 0, old) | Some z ↦ handed_out c.abs z old ]
      go None = refl
      go (Some z) = last z (leb (length (given c.abs z)) (length old.elements) && leb (4 * length (element_types c.abs z)) (length old.types))

module _ (c : Concrete) (old : TypesOut) where
  pub unsettled : types_of c ≡ None → answered c old ≡ (refused_with Unsettled 0, old)
  unfolding answered
  unsettled e = rw (e, answered) refl

  pub settled : (z : State) → types_of c ≡ Some z → answered c old ≡ handed_out c.abs z old
  unfolding answered
  settled z e = rw (e, answered) refl

-- ---- how many cells are given out

pub length-join : {A : Type 0} (g : ℕ → List A) (l : List ℕ) → length (join (map g l)) ≡ sum (map (λ r. length (g r)) l)
unfolding join sum
length-join g [] = refl
length-join g (r ∷ l) = length-append (g r) (join (map g l)) ∙ ap (λ (n : ℕ). length (g r) + n) (length-join g l)

pub types-counted : (s : Solid) (z : State) → length (element_types s z) ≡ type_count s z
unfolding element_types element_types_at type_count
types-counted s z =
    length-join (element_types_at z) (proper_ranks s)
    ∙ ap sum (map_same (λ r. length (element_types_at z r)) (λ r. length (distinct eqb (types_at z r))) (proper_ranks s) (λ r m. length-map (distinct eqb (types_at z r)) _))

module _ (sh : Shape) (w : List ℕ) (a : Countable sh w) (old : TypesOut) where
  abbrev s : Solid
  s = abs_in sh (lists_of sh w)

  abbrev z : State
  z = state_in sh w

  -- There are no more types than elements.
  pub types_few : type_count s z ≤ length w
  unfolding type_count elements
  types_few =
      omega (
        arith,
        sum-le (λ r. length (distinct eqb (types_at z r))) (λ r. size s r) (proper_ranks s)
            (λ r m. let b = proper-low sh w a r m in omega (arith, many_few (types_at z r), (a.numbered r b.0 b.1).each)),
        proper_is sh (lists_of sh w) a.held,
        types_in_lem sh w a,
      )

  elements-counted : length (given s z) ≡ proper sh
  elements-counted = given_long sh w a

  pub short_elements : length old.elements < proper sh → (refused_with ShortSheet 0, old) ≡ handed_out s z old
  unfolding handed_out
  short_elements h =
      let e : leb (length (given s z)) (length old.elements) ≡ false = lt-leb (length (given s z)) (length old.elements) (omega (arith, elements-counted)) in
      rw (e, handed_out) refl

  module _ (h : proper sh ≤ length old.elements) where
    fits : leb (length (given s z)) (length old.elements) ≡ true
    fits = le-leb (length (given s z)) (length old.elements) (omega (arith, elements-counted))

    pub short_types : length old.types < 4 * type_count s z → (refused_with ShortSheet 0, old) ≡ handed_out s z old
    unfolding handed_out
    short_types k =
        let e : leb (4 * length (element_types s z)) (length old.types) ≡ false = lt-leb (4 * length (element_types s z)) (length old.types) (omega (arith, types-counted s z)) in
        rw (fits, e, handed_out) refl

    pub all_handed : 4 * type_count s z ≤ length old.types → (n : ℕ) → n ≡ type_count s z → (of table : List ℕ)
        → of ≡ written (given s z) old.elements → table ≡ written (join (map type_cells (element_types s z))) old.types
        → (Ok n, record { elements = of; types = table }) ≡ handed_out s z old
    unfolding handed_out
    all_handed k n e of table p q =
        let f : leb (4 * length (element_types s z)) (length old.types) ≡ true = le-leb (4 * length (element_types s z)) (length old.types) (omega (arith, types-counted s z)) in
        let m : n ≡ length (element_types s z) = e ∙ sym (types-counted s z) in
        rw (fits, f, handed_out, m, p, q) refl
