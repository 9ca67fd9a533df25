use mathlib.Core.Path.{◌≡◌, refl, sym, ap₂, ◌∙◌}
use mathlib.Core.List.{List, []}
use Prim.Native.Nat.{ℕ, ◌+◌, ◌≤◌, ◌-◌, ◌*◌, ◌/◌}
use native.Mathlib.Nat.{zero-mul, suc-mul}
use native.Mathlib.Numerals.{add-one}
use native.Mathlib.Omega.{arith}
use lib.ListN.{length, get_or}
use borrow.Author.Rules.{rules}
use borrow.Rule.Slice.PartMut.{same_len_mid}
use Rattle.spec.specs.Points.{row_of}
use Rattle.spec.specs.Copying.{matrices, copy_table}
use Rattle.laws.proofs.CopyLaws.{table_length}
use Rattle.matrix.specs.Reading.{corner}
use Rattle.points.specs.Listed.{listed}
use Rattle.points.proofs.Parts.{length-parts, part_end}
use Rattle.copying.proofs.Growth.{matrix_is, length-matrices}
use Rattle.points.proofs.Filled.{Piece, filled_none, filled_next, filled_open, filled_end, length-row}
use Rattle.copying.proofs.Tables.{row-piece, closed_back, opened_back}
use Rattle.copying.proofs.rows.write.Goals.{After-row_of, In-loop-j, Start}
use Rattle.copying.proofs.rows.write.Goals as goal

-- Row j ends within the table, whose length fits a word.
row-end : (c : In-loop-j) → (let n = c.args.copies.now.count in c.loop-j.j * n + n ≤ length c.loop-j.out)
row-end c =
    let p = c.args.copies.now in
    let l = c.loop-j in
    omega (arith, part_end (length c.args.turns.now / (p.dimension * p.dimension)) p.count l.j c.loop-j-test.true, c.requires.2, l.invariant.1)

-- This is row j of the table over the copies.
abbrev line : (c : After-row_of) → List ℕ
line c =
    let p = c.args.copies.now in
    row_of (listed p) (corner p.dimension c.matrix_at-m.result)

line-long : (c : After-row_of) → length (line c) ≡ c.args.copies.now.count
line-long c =
    let p = c.args.copies.now in
    length-row (listed p) (corner p.dimension c.matrix_at-m.result) ∙ length-parts p.count p.dimension p.floats.now

piece : (c : After-row_of) →
    (let p = c.args.copies.now in
    Piece (copy_table (matrices p.dimension c.args.turns.now) (listed p)) (c.loop-j.j * p.count) p.count (line c))
piece c =
    let p = c.args.copies.now in
    let l = c.loop-j in
    let h = c.loop-j-test.true in
    let turns = c.args.turns.now in
    let ms = matrices p.dimension turns in
    let e : get_or ms l.j [] ≡ corner p.dimension c.matrix_at-m.result = matrix_is p.dimension turns l.j h ∙ sym c.matrix_at-m.ensures in
    rw e at (row-piece (listed p) ms p.count l.j (length-parts p.count p.dimension p.floats.now) (omega (arith, h, length-matrices p.dimension turns)))

pub loop-j-init : goal.loop-j-init
loop-j-init c = (search rules, refl, rw zero-mul filled_none)

pub loop-j-preserved : goal.loop-j-preserved
loop-j-preserved c =
    let p = c.args.copies.now in
    let l = c.loop-j in
    let at = l.j * p.count in
    let end = row-end (goal.at.loop-j-preserved c).In-loop-j in
    let closed = rw c.if-not-row_of.false at c.row_of.ensures in
    let e : (l.j + 1) * p.count ≡ at + p.count = rw add-one (suc-mul l.j p.count) in (
      omega (arith, c.loop-j-test.true),
      same_len_mid at (length l.out - at) l.out c.row_of.new.row c.row_of.auto.row ∙ l.invariant.1,
      rw e (filled_next l.invariant.2 (piece (goal.at.loop-j-preserved c).After-row_of) closed.none (closed_back l.out c.row_of.new.row at (omega (arith, end)) p.count (line-long (goal.at.loop-j-preserved c).After-row_of) closed)),
    )

pub returns-then-not-row_of : goal.returns-then-not-row_of
returns-then-not-row_of c =
    let p = c.args.copies.now in
    let l = c.loop-j in
    let at = l.j * p.count in
    let end = row-end (goal.at.returns-then-not-row_of c).In-loop-j in
    let opened = rw c.if-not-row_of.true at c.row_of.ensures in
    filled_open l.invariant.2 (piece (goal.at.returns-then-not-row_of c).After-row_of) opened.some (opened_back l.out c.row_of.new.row at (omega (arith, end)) p.count (line-long (goal.at.returns-then-not-row_of c).After-row_of) opened)

pub returns : goal.returns
returns c =
    let p = c.args.copies.now in
    let l = c.loop-j in
    let ms = matrices p.dimension c.args.turns.now in
    let cs = listed p in
    let k : length ms ≡ l.j = omega (arith, length-matrices p.dimension c.args.turns.now, l.invariant.0, c.loop-j-test.false) in
    let e : length ms * length cs ≡ l.j * p.count = ap₂ ◌*◌ k (length-parts p.count p.dimension p.floats.now) in
    filled_end (omega (arith, table_length ms cs, e)) l.invariant.2
