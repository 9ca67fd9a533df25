-- Each way through the call gives the answer and the outputs that the definition gives.
-- Assumes nothing.
use mathlib.Core.Path.{◌≡◌, sym, ap, ◌∙◌}
use mathlib.Core.List.{List}
use Prim.Native.Nat.{ℕ, ◌*◌, ◌/◌, ◌≤◌, ◌<◌, min}
use native.Mathlib.Nat.{mul-le-mul_right, div-mul-le_self}
use native.Mathlib.Omega.{arith}
use lib.ListN.{length, replicate}
use Rattle.spec.specs.Limits.{max_count}
use Rattle.spec.specs.Matrix.{Vector, Matrix}
use Rattle.spec.specs.Copying.{copies, points, matrices, copy_out, copy_table, no_image}
use Rattle.spec.specs.Lists.{written}
use Rattle.points.specs.Cells.{Tabled}
use Rattle.copying.specs.Post.{Fitting}
use Rattle.copying.proofs.Squares.{square, square_pos}
use Rattle.copying.proofs.Growth.{length-matrices}
use Rattle.copying.proofs.Judgements.{Judgeable, judged_passed}
use Rattle.copying.proofs.Outcome.{room_fits, answer-full, answer_short, answer-done, answer_open, too_few, enough, some_matrices}
use Rattle.copying.proofs.copied.Goals.{After-room-limit, After-write, Else-table-count, In-Some, Start}
use Rattle.copying.proofs.copied.Goals as goal

judged : (c : Start) → Judgeable c.args.d c.args.from.now c.args.turns.now
judged c = judged_passed c.args.d c.args.from.now c.args.turns.now (sym c.requires)

-- The call works with these matrices, and with the copies under them.
abbrev ms : (c : Start) → List Matrix
ms c = matrices c.args.d c.args.turns.now

abbrev cs : (c : Start) → List Vector
cs c = copies (ms c) (points c.args.d c.args.from.now)

counted : (c : Start) → 0 < length c.args.turns.now / (c.args.d * c.args.d)
counted c =
    let j = judged c in
    some_matrices (c.args.d * c.args.d) (length c.args.turns.now) j.whole j.some

-- The code's room for points is the room that the definition goes by.
limited : (c : After-room-limit) →
    (copy_out c.room-limit.result (matrices c.args.d c.args.turns.now) (copies (matrices c.args.d c.args.turns.now) (points c.args.d c.args.from.now)) c.args.out.now c.args.table.now
    ≡ copy_out (min max_count (length c.args.out.now / c.args.d)) (matrices c.args.d c.args.turns.now) (copies (matrices c.args.d c.args.turns.now) (points c.args.d c.args.from.now)) c.args.out.now c.args.table.now)
limited c =
    ap (λ (k : ℕ). copy_out k (matrices c.args.d c.args.turns.now) (copies (matrices c.args.d c.args.turns.now) (points c.args.d c.args.from.now)) c.args.out.now c.args.table.now) c.room-limit.ensures

-- There is room for the copies.
fitting : (c : In-Some) →
    (Fitting c.args.d c.room-limit.result (cs (goal.at.overflow_mul-count c).Start) c.args.out.now c.copies.new.out c.in-Some.n)
unfolding points
fitting c = rw c.in-Some.is at c.copies.ensures

-- The table's cells fit.
roomy : (c : Else-table-count) →
    (length (matrices c.args.d c.args.turns.now) * c.in-Some.n ≤ length c.args.table.now)
roomy c =
    rw (length-matrices c.args.d c.args.turns.now) (enough (length c.args.table.now) _ _ (let j = (judged_passed c.args.d c.args.from.now c.args.turns.now (sym c.requires)) in
    some_matrices (c.args.d * c.args.d) (length c.args.turns.now) j.whole j.some) c.if-table-count.false)

-- What the table holds is told in terms of the copies.
tabled : (c : After-write) →
    (Tabled c.in-Some.n (copy_table (matrices c.args.d c.args.turns.now) (copies (matrices c.args.d c.args.turns.now) (points c.args.d c.args.from.now))) c.args.table.now c.write.new.out c.write.result)
unfolding points
tabled c = rw (rw c.in-Some.is at c.copies.ensures).read at c.write.ensures

pub nonzero_div-points : goal.nonzero_div-points
nonzero_div-points c = (judged (goal.at.nonzero_div-points c).Start).low

pub invariant_of-points : goal.invariant_of-points
invariant_of-points c = record { fits = ((judged (goal.at.invariant_of-points c).Start).high, div-mul-le_self _ _) }

pub room-limit-requires : goal.room-limit-requires
room-limit-requires c = (judged (goal.at.room-limit-requires c).Start).low

pub copies-requires : goal.copies-requires
copies-requires c =
    let j = judged (goal.at.copies-requires c).Start in
    (j.low, rw c.room-limit.ensures (room_fits (length c.args.out.now) c.args.d))

pub returns-in_default : goal.returns-in_default
unfolding points
returns-in_default c =
    answer-full c.room-limit.result (ms (goal.at.returns-in_default c).Start) (cs (goal.at.returns-in_default c).Start) c.args.out.now c.args.table.now (rw c.in_default.is at c.copies.ensures)
    ∙ limited (goal.at.returns-in_default c).After-room-limit

pub overflow_mul-count : goal.overflow_mul-count
overflow_mul-count c = omega (arith, square c.args.d (judged (goal.at.overflow_mul-count c).Start).high)

pub nonzero_div-count : goal.nonzero_div-count
nonzero_div-count c = square_pos c.args.d (judged (goal.at.nonzero_div-count c).Start).low

pub nonzero_div-table : goal.nonzero_div-table
nonzero_div-table c = counted (goal.at.nonzero_div-table c).Start

pub returns-then-table-count : goal.returns-then-table-count
returns-then-table-count c =
    answer_short c.room-limit.result (ms (goal.at.returns-then-table-count c).Start) (cs (goal.at.returns-then-table-count c).Start) c.args.out.now c.args.table.now (fitting (goal.at.returns-then-table-count c).In-Some)
    (rw (length-matrices c.args.d c.args.turns.now) (too_few (length c.args.table.now) _ _ (counted (goal.at.returns-then-table-count c).Start) c.if-table-count.true))
    ∙ limited (goal.at.returns-then-table-count c).After-room-limit

pub invariant_of-copies : goal.invariant_of-copies
invariant_of-copies c =
    let j = judged (goal.at.invariant_of-copies c).Start in
    let f = fitting (goal.at.invariant_of-copies c).In-Some in
    record { fits = (j.high, omega (arith, mul-le-mul_right c.args.d f.room, rw (sym c.room-limit.ensures) at (room_fits (length c.args.out.now) c.args.d), c.copies.auto.out)) }

pub write-requires : goal.write-requires
write-requires c =
    let j = judged (goal.at.write-requires c).Start in
    let f = fitting (goal.at.write-requires c).In-Some in
    (j.low, omega (arith, f.room, c.room-limit.ensures), rw (length-matrices c.args.d c.args.turns.now) at (roomy (goal.at.write-requires c).Else-table-count))

pub returns-then-write : goal.returns-then-write
returns-then-write c =
    answer-done c.room-limit.result (ms (goal.at.returns-then-write c).Start) (cs (goal.at.returns-then-write c).Start) c.args.out.now c.args.table.now (fitting (goal.at.returns-then-write c).In-Some) (roomy (goal.at.returns-then-write c).Else-table-count) (rw c.if-write.true at (tabled (goal.at.returns-then-write c).After-write))
    ∙ limited (goal.at.returns-then-write c).After-room-limit

pub returns : goal.returns
returns c =
    let n = c.in-Some.n in
    let t = c.write.new.out in
    let e : c.fill.new.out ≡ written (replicate (length (ms (goal.at.returns c).Start) * n) no_image) t =
    rw (length-matrices c.args.d c.args.turns.now) c.fill.ensures in
    rw e (answer_open c.room-limit.result (ms (goal.at.returns c).Start) (cs (goal.at.returns c).Start) c.args.out.now c.args.table.now (fitting (goal.at.returns c).In-Some) (roomy (goal.at.returns c).Else-table-count) (rw c.if-write.false at (tabled (goal.at.returns c).After-write)) ∙ limited (goal.at.returns c).After-room-limit)
