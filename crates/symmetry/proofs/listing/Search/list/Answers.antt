-- What is known of the flags to come is kept by what trying this one comes to.
-- Assumes nothing.
use mathlib.Core.Path.{◌≡◌, ap}
use mathlib.Core.Logic.{◌⊎◌, inl, inr}
use Prim.Native.Nat.{◌+◌, ◌*◌, ◌≤◌, ◌<◌}
use native.Mathlib.Omega.{arith}
use lib.ListN.{length}
use borrow.Author.Rules.{rules}
use Rattle.std.specs.Option.{option_map}
use Rattle.spec.specs.Limits.{max_dimension}
use Rattle.ranked.specs.Words.{lists_of}
use Rattle.ranked.specs.Layout.{abstract_in}
use Rattle.flag.specs.Reading.{flag_in, Follows}
use Rattle.symmetry.specs.declared.listing.Tried.TheVariants.{Skipped, Added}
use Rattle.symmetry.proofs.Members.{so_far_first, is_flag, inside, one_more, none_fits, so_far_next, all_tried}
use Rattle.symmetry.proofs.Turning.{fewer}
use Rattle.symmetry.proofs.listing.Search.list.Goals.{After-next, At-loop-n, Start, in-Skipped, in-Added}
use Rattle.symmetry.proofs.listing.Search.list.Goals as goal

tall : (s : Start) → s.args.self.now.prepared.shape.dimension ≤ length s.args.self.now.inverse
tall s = let k : length s.args.self.now.inverse ≡ max_dimension = search rules in omega (arith, k, s.args.self.now.prepared.searching.bench.held.wide)

short : (s : Start) → (length s.args.matrices.now < 0x1000_0000_0000_0000) × (length s.args.rows.now < 0x4000_0000_0000_0000)
short s = (omega arith, omega arith)

-- The parts after the members start within the outputs.
within : (l : At-loop-n) → let d = l.args.self.now.prepared.shape.dimension in
    (l.loop-n.n * (d * d) ≤ length l.loop-n.matrices) × (l.loop-n.n * l.vertices-v.result ≤ length l.loop-n.rows) × (l.loop-n.n ≤ l.args.marks)
within l =
    let a = l.args in let t = l.loop-n in
    inside a.self.now (tall (goal.at.overflow_sub-marks l).Start) a.marks l.vertices-v.result l.vertices-v.ensures a.matrices.now a.rows.now t.matrices t.rows t.n (flag_in a.self.now.prepared.shape.rank t.flag) t.invariant

-- The flag's member is counted, if it was written.
counted : (x : After-next) → ((x.try_flag-tried.result ≡ Skipped) × (x.match-tried.n ≡ x.loop-n.n)) ⊎ ((x.try_flag-tried.result ≡ Added) × (x.match-tried.n ≡ x.loop-n.n + 1))
counted x = elim x.match-tried.branch [ in-Skipped w ↦ inl (w.in-Skipped.is, w.n-is) | in-Added w ↦ inr (w.in-Added.is, w.n-is) ]

-- The flag that is asked for follows the present one in the solid.
next_is : (x : After-next) → let s = x.args.self.now in Follows (abstract_in s.prepared.shape s.prepared.words.now) (flag_in s.prepared.shape.rank x.loop-n.flag) (option_map (flag_in s.prepared.shape.rank) x.next.result)
next_is x = rw (x.solid-solid.ensures.shape, x.solid-solid.ensures.lists) at x.next.ensures

pub loop-n-init : goal.loop-n-init
loop-n-init c =
    let a = c.args in so_far_first a.self.now (tall (goal.at.loop-n-init c).Start) a.marks c.vertices-v.result c.vertices-v.ensures a.matrices.now a.rows.now

pub overflow_sub-marks : goal.overflow_sub-marks
overflow_sub-marks c = (within (goal.at.overflow_sub-marks c).At-loop-n).2

pub overflow_mul-n : goal.overflow_mul-n
overflow_mul-n c = omega (arith, (within (goal.at.overflow_mul-n c).At-loop-n).0, c.loop-n.auto.matrices, (short (goal.at.overflow_mul-n c).Start).0)

pub offset_bounds-matrices-n : goal.offset_bounds-matrices-n
offset_bounds-matrices-n c = omega (arith, (within (goal.at.offset_bounds-matrices-n c).At-loop-n).0, c.loop-n.auto.matrices, (short (goal.at.offset_bounds-matrices-n c).Start).0)

pub slice_bounds-try_flag-count : goal.slice_bounds-try_flag-count
slice_bounds-try_flag-count c = (within (goal.at.slice_bounds-try_flag-count c).At-loop-n).0

pub slice_bounds-try_flag-start : goal.slice_bounds-try_flag-start
slice_bounds-try_flag-start c = omega (arith, (within (goal.at.slice_bounds-try_flag-start c).At-loop-n).0)

pub overflow_mul-n-in-loop-n : goal.overflow_mul-n-in-loop-n
overflow_mul-n-in-loop-n c = omega (arith, (within (goal.at.overflow_mul-n-in-loop-n c).At-loop-n).1, c.loop-n.auto.rows, (short (goal.at.overflow_mul-n-in-loop-n c).Start).1)

pub offset_bounds-rows-n : goal.offset_bounds-rows-n
offset_bounds-rows-n c = omega (arith, (within (goal.at.offset_bounds-rows-n c).At-loop-n).1, c.loop-n.auto.rows, (short (goal.at.offset_bounds-rows-n c).Start).1)

pub slice_bounds-try_flag-count-in-loop-n : goal.slice_bounds-try_flag-count-in-loop-n
slice_bounds-try_flag-count-in-loop-n c = (within (goal.at.slice_bounds-try_flag-count-in-loop-n c).At-loop-n).1

pub slice_bounds-try_flag-start-in-loop-n : goal.slice_bounds-try_flag-start-in-loop-n
slice_bounds-try_flag-start-in-loop-n c = omega (arith, (within (goal.at.slice_bounds-try_flag-start-in-loop-n c).At-loop-n).1)

pub try_flag-tried-requires : goal.try_flag-tried-requires
try_flag-tried-requires c =
    let a = c.args in let t = c.loop-n in
    is_flag a.self.now (tall (goal.at.try_flag-tried-requires c).Start) a.marks c.vertices-v.result c.vertices-v.ensures a.matrices.now a.rows.now t.matrices t.rows t.n (flag_in a.self.now.prepared.shape.rank t.flag) t.invariant

pub overflow_add-n : goal.overflow_add-n
overflow_add-n c =
    let a = c.args in let t = c.loop-n in let u = c.try_flag-tried in
    let fit = one_more a.self.now (tall (goal.at.overflow_add-n c).Start) a.marks c.vertices-v.result c.vertices-v.ensures a.matrices.now a.rows.now t.matrices t.rows t.n (flag_in a.self.now.prepared.shape.rank t.flag) t.invariant u.result u.new.matrices u.new.rows u.ensures c.in-Added.is in
    omega (arith, fit)

pub returns-in-Short : goal.returns-in-Short
returns-in-Short c =
    let a = c.args in let t = c.loop-n in let u = c.try_flag-tried in
    none_fits a.self.now (tall (goal.at.returns-in-Short c).Start) a.marks c.vertices-v.result c.vertices-v.ensures a.matrices.now a.rows.now t.matrices t.rows t.n (flag_in a.self.now.prepared.shape.rank t.flag) t.invariant u.result u.new.matrices u.new.rows u.ensures c.in-Short.is

pub next-requires : goal.next-requires
next-requires c =
    let a = c.args in let t = c.loop-n in
    rw (c.solid-solid.ensures.shape, c.solid-solid.ensures.lists) (is_flag a.self.now (tall (goal.at.next-requires c).Start) a.marks c.vertices-v.result c.vertices-v.ensures a.matrices.now a.rows.now t.matrices t.rows t.n (flag_in a.self.now.prepared.shape.rank t.flag) t.invariant)

pub loop-n-smaller : goal.loop-n-smaller
loop-n-smaller c =
    let s = c.args.self.now in
    fewer s.prepared.shape (lists_of s.prepared.shape s.prepared.words.now) s.prepared.searching.bench.held _ _ c.loop-n.invariant _ (next_is (goal.at.loop-n-smaller c).After-next) (flag_in s.prepared.shape.rank c.in-Some.next) (ap (option_map (flag_in s.prepared.shape.rank)) c.in-Some.is)

pub loop-n-preserved : goal.loop-n-preserved
loop-n-preserved c =
    let a = c.args in let t = c.loop-n in let u = c.try_flag-tried in let x = (goal.at.loop-n-preserved c).After-next in let R = a.self.now.prepared.shape.rank in
    so_far_next a.self.now (tall (goal.at.loop-n-preserved c).Start) a.marks c.vertices-v.result c.vertices-v.ensures a.matrices.now a.rows.now t.matrices t.rows t.n (flag_in R t.flag) t.invariant
    u.result u.new.matrices u.new.rows u.ensures c.match-tried.n (counted x) _ (next_is x) (flag_in R c.in-Some.next) (ap (option_map (flag_in R)) c.in-Some.is)

pub returns-in_default : goal.returns-in_default
returns-in_default c =
    let a = c.args in let t = c.loop-n in let u = c.try_flag-tried in let x = (goal.at.returns-in_default c).After-next in let R = a.self.now.prepared.shape.rank in
    all_tried a.self.now (tall (goal.at.returns-in_default c).Start) a.marks c.vertices-v.result c.vertices-v.ensures a.matrices.now a.rows.now t.matrices t.rows t.n (flag_in R t.flag) t.invariant
    u.result u.new.matrices u.new.rows u.ensures c.match-tried.n (counted x) _ (next_is x) (ap (option_map (flag_in R)) c.in_default.is)
