-- The types of all proper elements are one run of words.
-- Assumes nothing.
use mathlib.Core.Path.{◌≡◌, refl, sym, ap, ap₂, ◌∙◌}
use mathlib.Core.List.{List, ◌++◌, map}
use Prim.Native.Nat.{ℕ, zero, suc, ◌+◌, ◌-◌, ◌≤◌}
use native.Mathlib.Omega.{arith}
use native.Mathlib.Nat.{add-zero}
use lib.ListN.{length, take, drop, length-take, length-drop}
use lib.Seq.{take-add, drop-drop}
use Rattle.spec.specs.Lists.{range, join}
use Rattle.spec.specs.Types.{State, types_at, proper_ranks, given}
use Rattle.laws.proofs.Lists.{map_same, of_range}
use Rattle.ranked.specs.declared.Shape.{Shape}
use Rattle.ranked.specs.Words.{first_at, size_at, lists_of, abs_in}
use Rattle.ranked.specs.Layout as layout
use Rattle.ranked.specs.Layout.{proper}
use Rattle.ranked.proofs.Solids.{top_is, in_order_lem}
use Rattle.element_types.specs.State.{types_in, state_in, Countable}
use Rattle.element_types.proofs.States.{types-at}

module _ (sh : Shape) (w : List ℕ) (a : Countable sh w) where
  abbrev z : State
  z = state_in sh w

  abbrev ts : List ℕ
  ts = given (abs_in sh (lists_of sh w)) z

  -- The types of ranks that stand one after another are one run of words.
  runs : (q n : ℕ) → q + n ≤ sh.rank → join (map (types_in sh w) (range q n)) ≡ take (first_at sh (q + n) - first_at sh q) (drop (layout.types_at sh q) w)
  unfolding join range types_in
  runs q zero h = let e : first_at sh (q + 0) - first_at sh q ≡ 0 = rw add-zero (omega arith) in rw e refl
  runs q (suc n) h =
      let u = in_order_lem sh (lists_of sh w) a.held q (suc q) (omega arith) (omega arith) in
      let v = in_order_lem sh (lists_of sh w) a.held (suc q) (suc q + n) (omega arith) (omega arith) in
      let x = size_at sh q in
      let y = first_at sh (suc q + n) - first_at sh (suc q) in
      let e : layout.types_at sh (suc q) ≡ layout.types_at sh q + x = omega arith in
      let f : q + suc n ≡ suc q + n = omega arith in
      let g : first_at sh (suc q + n) - first_at sh q ≡ x + y = omega arith in
      ap (λ (l : List ℕ). take x (drop (layout.types_at sh q) w) ++ l)
      (runs (suc q) n (omega arith) ∙ ap (λ (k : ℕ). take y (drop k w)) e ∙ ap (take y) (sym (drop-drop x (layout.types_at sh q) w)))
      ∙ sym (take-add x y (drop (layout.types_at sh q) w))
      ∙ ap (λ (k : ℕ). take k (drop (layout.types_at sh q) w)) (sym (ap (λ (k : ℕ). first_at sh k - first_at sh q) f ∙ g))

  given-run : ts ≡ take (proper sh) (drop (layout.types_at sh 1) w)
  unfolding given proper_ranks join range
  given-run =
      rw (top_is sh (lists_of sh w))
      (ap join (map_same (types_at z) (types_in sh w) (range 1 (sh.rank - 1)) (λ r m. types-at sh w r (omega (arith, of_range 1 (sh.rank - 1) r m))))
      ∙ go sh.rank refl)
    where
      go : (R : ℕ) → sh.rank ≡ R → join (map (types_in sh w) (range 1 (sh.rank - 1))) ≡ take (proper sh) (drop (layout.types_at sh 1) w)
      go zero e =
          let p : proper sh ≡ 0 = omega (arith, ap (first_at sh) e, a.held.start) in
          let q : sh.rank - 1 ≡ 0 = omega arith in
          rw (p, q) refl
      go (suc n) e =
          let p : 1 + (sh.rank - 1) ≡ sh.rank = omega arith in
          runs 1 (sh.rank - 1) (omega arith) ∙ ap (λ (k : ℕ). take (first_at sh k - first_at sh 1) (drop (layout.types_at sh 1) w)) p

  -- The types stand in the words.
  pub types_in_lem : layout.types_at sh 1 + proper sh ≤ length w
  types_in_lem =
      let u = in_order_lem sh (lists_of sh w) a.held 1 (suc sh.rank) (omega arith) (omega arith) in
      let v = in_order_lem sh (lists_of sh w) a.held sh.rank (suc sh.rank) (omega arith) (omega arith) in
      omega (arith, a.room)

  pub given_long : length ts ≡ proper sh
  given_long = ap length given-run ∙ simp (length-take, length-drop) (omega (arith, types_in_lem))

  -- In the code's terms, the types of the n elements stand from word `from` on.
  pub given_is : (n from : ℕ) → n ≡ proper sh → from ≡ layout.types_at sh 1 → take (from + n - from) (drop from w) ≡ ts
  given_is n from e f = let q : from + n - from ≡ n = omega arith in
      ap₂ (λ (k b : ℕ). take k (drop b w)) (q ∙ e) f ∙ sym given-run
