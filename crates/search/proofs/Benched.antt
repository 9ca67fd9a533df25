-- The workspace goes from one step of the search to the next.
-- Assumes nothing.
use mathlib.Core.Path.{◌≡◌, refl, sym, ap, subst, ◌∙◌}
use Prim.Native.Nat.{ℕ, suc, ◌+◌, ◌-◌, ◌≤◌, ◌<◌}
use mathlib.Core.List.{List}
use native.Mathlib.Omega.{arith}
use lib.ListN.{length, take, drop}
use lib.Ieee.{Float}
use Rattle.spec.specs.Lists.{range}
use Rattle.spec.specs.Hull.{classes}
use Rattle.spec.specs.Classes.{distances}
use Rattle.spec.specs.Solid.{Concrete}
use Rattle.spec.specs.Search.{exchanged_in, exchanged}
use Rattle.laws.proofs.Lists.{map_same, of_range}
use Rattle.laws.proofs.Exchange.{exchange_twice, exchange-none, exchange-vertices}
use Rattle.ranked.specs.declared.Shape.{Shape}
use Rattle.ranked.specs.Words.{size_at, lists_of, abs_in}
use Rattle.ranked.specs.Layout.{types_at, scratch_at, fingerprints_at, coordinates, solid_in, classes_in}
use Rattle.preflight.specs.Bench.{Bench, Laid}
use Rattle.ranked.proofs.Solids.{top_is, in_order_lem, coordinates_are}
use Rattle.preflight.proofs.Benches.{points_in, rows_in, bench_kept}
use Rattle.geometry.specs.Listed.{Classed}
use Rattle.geometry.proofs.elements.Room.{roomy-floats}
use Rattle.element_types.specs.State.{types_in, state_in, Countable}
use Rattle.element_types.proofs.Parts.{run_take, take-kept}
use Rattle.symmetry.proofs.exchange.Exchanged.{bench_exchanged, solid-exchanged}
use Rattle.symmetry.specs.Fingerprints.{Fingerprinted}
use Rattle.marks.specs.Rows.{ClassesIn}
use Rattle.symmetry.specs.Searching.{Parted, Searching}
use Rattle.search.specs.Marking.{MarksReady}
use Rattle.search.proofs.Tested.{facets_are, solid-kept}

-- ---- the exchange

-- Exchanging the facets back gives the solid that was read.
pub exchanged_back : (sh : Shape) (ws : List ℕ) (fs : List Float) (f : ℕ) → 2 ≤ sh.rank → f < size_at sh (sh.rank - 1)
    → exchanged (exchanged (solid_in sh ws fs) f) f ≡ solid_in sh ws fs
unfolding exchanged
exchanged_back sh ws fs f t h =
    let c = solid_in sh ws fs in
    ap {B = Concrete} (λ s. record { dimension = c.dimension; points = c.points; abs = s }) (exchange_twice c.abs f (rw (facets_are sh (lists_of sh ws) t) h))

-- Where the first facet is exchanged with itself, or the facets are vertices, the solid that was read is searched.
abstract_kept : (c : Concrete) (f : ℕ) → exchanged_in c.abs f ≡ c.abs → c ≡ exchanged c f
unfolding exchanged
abstract_kept c f e = ap {B = Concrete} (λ s. record { dimension = c.dimension; points = c.points; abs = s }) (sym e)

pub exchanged-none : (c : Concrete) (f : ℕ) → f ≡ 0 → c ≡ exchanged c f
exchanged-none c f e = abstract_kept c f (rw e (exchange-none c.abs))

pub exchanged-vertices : {sh : Shape} {ws : List ℕ} {fs : List Float} → Bench sh ws fs → (f : ℕ) → (2 ≤ sh.rank) × (f < size_at sh (sh.rank - 1))
    → sh.rank ≡ 2 → solid_in sh ws fs ≡ exchanged (solid_in sh ws fs) f
exchanged-vertices {sh} {ws} {fs} b f asked two =
    let w = lists_of sh ws in
    abstract_kept (solid_in sh ws fs) f
    (exchange-vertices (abs_in sh w) b.held.sound b.held.filled (top_is sh w ∙ two) f (rw (facets_are sh w asked.0) asked.1))

-- ---- the classes

pub coordinates_in : {sh : Shape} {ws : List ℕ} {fs : List Float} → Bench sh ws fs → coordinates sh ≤ length fs
coordinates_in {sh} {ws} b = rw (coordinates_are sh (lists_of sh ws) b.held) at (points_in b)

-- The classes that were worked out of the solid stand in the floats while its lists and its coordinates stay.
pub classes_in_lem : {sh : Shape} {vs : List ℕ} {gs : List Float} → Bench sh vs gs → (ws : List ℕ) (fs : List Float) → lists_of sh vs ≡ lists_of sh ws
    → take (coordinates sh) gs ≡ take (coordinates sh) fs → classes_in sh gs ≡ classes (distances (solid_in sh ws fs))
    → ClassesIn sh (lists_of sh vs) gs
classes_in_lem {sh} {vs} {gs} b ws fs e p c = record {
  room = roomy-floats sh (lists_of sh vs) b.held (length gs) b.floats;
  cells = c ∙ ap (λ (d : Concrete). classes (distances d)) (sym (solid-kept sh ws vs fs gs e p));
}

-- ---- the fingerprints

pub fingerprints_in : {sh : Shape} {ws : List ℕ} {fs : List Float} → Bench sh ws fs → fingerprints_at sh (suc sh.rank) ≤ length ws
fingerprints_in b = omega (arith, rows_in b)

-- They are written behind the types.
module _ (sh : Shape) (ws vs : List ℕ) (long : length vs ≡ length ws) (e : take (scratch_at sh) vs ≡ take (scratch_at sh) ws) where
  pub lists-kept : lists_of sh vs ≡ lists_of sh ws
  lists-kept = take-kept vs ws (scratch_at sh) sh.low e (omega arith)

  module _ (k : Countable sh ws) where
    rank-kept : (r : ℕ) → r ≤ sh.rank → types_in sh vs r ≡ types_in sh ws r
    unfolding types_in
    rank-kept r h =
        let a = scratch_at sh in
        let s = types_at sh r in
        let n = size_at sh r in
        let in_here : s + n ≤ a = omega (arith, k.held.some r h, in_order_lem sh (lists_of sh ws) k.held (suc r) (suc sh.rank) (omega arith) (omega arith)) in
        sym (run_take vs a s n (omega (arith, k.room)) in_here) ∙ ap (λ (l : List ℕ). take n (drop s l)) e ∙ run_take ws a s n k.room in_here

    pub state_kept : state_in sh vs ≡ state_in sh ws
    unfolding state_in
    state_kept = map_same (types_in sh vs) (types_in sh ws) (range 0 (suc sh.rank)) (λ r m. rank-kept r (omega (arith, (of_range 0 (suc sh.rank) r m).1)))

    countable_kept : Countable sh vs
    countable_kept = record { held = rw lists-kept k.held; room = rw long k.room; numbered = rw (lists-kept, state_kept) k.numbered }

    module _ {fs : List Float} (b : Bench sh ws fs) (p : Fingerprinted sh vs) where
      -- The flags can be tried.
      pub searching : 2 ≤ sh.rank → Parted (solid_in sh ws fs) → Searching sh vs fs
      searching t d = record {
        bench = bench_kept b lists-kept long refl;
        tall = t;
        counted = countable_kept;
        fingerprints = p;
        parted = subst Parted (sym (solid-kept sh ws vs fs fs lists-kept refl)) d;
      }

      -- And so can the marks be written.
      pub marks_ready : ClassesIn sh (lists_of sh ws) fs → MarksReady sh vs fs
      marks_ready c = record { bench = bench_kept b lists-kept long refl; classes = rw lists-kept c; fingerprints = p }

-- ---- the solid as read

module _ {sh : Shape} {ws : List ℕ} {fs : List Float} (m : MarksReady sh ws fs) (f : ℕ) (asked : (2 ≤ sh.rank) × (f < size_at sh (sh.rank - 1)))
    (us : List ℕ) (s : abs_in sh (lists_of sh us) ≡ exchanged_in (abs_in sh (lists_of sh ws)) f) (l : Laid sh us) where
  -- The facets are in their places again.
  pub back_bench : Bench sh us fs
  back_bench = bench_exchanged m.bench f asked us s l

  -- Its classes and its fingerprints are worked out.
  module _ (gs : List Float) (n : ℕ) (c : Classed sh (lists_of sh us) fs gs n) (vs : List ℕ) (long : length vs ≡ length us)
      (e : take (scratch_at sh) vs ≡ take (scratch_at sh) us) (p : Fingerprinted sh vs) where
    lists : lists_of sh vs ≡ lists_of sh us
    lists = lists-kept sh us vs long e

    pub restored : MarksReady sh vs gs × (solid_in sh vs gs ≡ exchanged (solid_in sh ws fs) f)
    restored =
        let b : Bench sh vs gs = bench_kept back_bench lists long c.long in (
          record { bench = b; classes = classes_in_lem b us fs lists c.same c.cells; fingerprints = p },
          solid-kept sh us vs fs gs lists c.same ∙ solid-exchanged m.bench f asked us s,
        )
