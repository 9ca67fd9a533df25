-- R and D are each judged as they come, and then the rest is.
-- Assumes nothing.
use Rattle.std.specs.Prelude.{Ok}
use mathlib.Core.Path.{◌≡◌, sym, ◌∙◌}
use native.Mathlib.Omega.{arith}
use Rattle.spec.specs.Sheet.{bits}
use Rattle.sheet.proofs.Readers.{stopped_by, bits-size}
use Rattle.sheet.proofs.Made.{rank_cut, rank_high, dimension_cut, dimension_high, to_rest}
use Rattle.sheet.proofs.judge.Goals.{In_ok-rank, In_ok-dimension}
use Rattle.sheet.proofs.judge.Goals as goal

-- R was read, and then D.
rank : (c : In_ok-rank) → bits c.args.sheet.now 3 0 ≡ Ok (c.in_ok-rank.rank, c.bits.new.self.at)
rank c = sym c.in_ok-rank.ensures.value

dimension : (c : In_ok-dimension) → bits c.args.sheet.now 3 c.bits.new.self.at ≡ Ok (c.in_ok-dimension.dimension, c.bits-2.new.self.at)
dimension c = rw c.bits.ensures.sheet at (sym c.in_ok-dimension.ensures.value)

pub returns-in_err-rank : goal.returns-in_err-rank
returns-in_err-rank c = stopped_by c.from_residual.result c.from_residual.ensures.1 ∙ rank_cut c.args.sheet.now (sym c.in_err-rank.ensures.value)

pub returns-then-rank-gt-MAX_RANK : goal.returns-then-rank-gt-MAX_RANK
returns-then-rank-gt-MAX_RANK c = rank_high c.args.sheet.now (rank (goal.at.returns-then-rank-gt-MAX_RANK c).In_ok-rank) c.if-rank-gt-MAX_RANK.true

pub bits-requires-2 : goal.bits-requires-2
bits-requires-2 c = omega (arith, bits-size c.args.sheet.now 3 0 _ (rank (goal.at.bits-requires-2 c).In_ok-rank))

pub returns-in_err-dimension : goal.returns-in_err-dimension
returns-in_err-dimension c =
    stopped_by c.from_residual-in_err-dimension.result c.from_residual-in_err-dimension.ensures.1
    ∙ dimension_cut c.args.sheet.now (rank (goal.at.returns-in_err-dimension c).In_ok-rank) c.if-rank-gt-MAX_RANK.false (rw c.bits.ensures.sheet at (sym c.in_err-dimension.ensures.value))

pub returns-then-dimension-gt-MAX_DIMENSION : goal.returns-then-dimension-gt-MAX_DIMENSION
returns-then-dimension-gt-MAX_DIMENSION c =
    let g = goal.at.returns-then-dimension-gt-MAX_DIMENSION c in
    dimension_high c.args.sheet.now (rank g.In_ok-rank) c.if-rank-gt-MAX_RANK.false (dimension g.In_ok-dimension) c.if-dimension-gt-MAX_DIMENSION.true

pub rest-requires : goal.rest-requires
rest-requires c =
    let g = goal.at.rest-requires c in
    let i = bits-size c.args.sheet.now 3 0 _ (rank g.In_ok-rank) in
    let j = bits-size c.args.sheet.now 3 c.bits.new.self.at _ (dimension g.In_ok-dimension) in
    (omega (arith, i, j), c.if-rank-gt-MAX_RANK.false, c.if-dimension-gt-MAX_DIMENSION.false)

pub returns : goal.returns
returns c =
    let g = goal.at.returns c in
    to_rest c.args.sheet.now (rank g.In_ok-rank) c.if-rank-gt-MAX_RANK.false (dimension g.In_ok-dimension) c.if-dimension-gt-MAX_DIMENSION.false
    c.rest.new.self.at c.rest.result (rw (c.bits-2.ensures.sheet ∙ c.bits.ensures.sheet) at c.rest.ensures.value)
