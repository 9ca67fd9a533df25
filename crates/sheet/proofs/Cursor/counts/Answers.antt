use Rattle.std.specs.Prelude.{Ok}
use mathlib.Core.Path.{◌≡◌, refl, sym, ◌∙◌, ap}
use mathlib.Core.Logic.{inl, inr}
use Prim.Native.Nat.{ℕ}
use native.Mathlib.Nat.{sub-zero}
use native.Mathlib.Omega.{arith}
use lib.ListN.{length, take, replicate, length-set}
use lib.Seq.{length-take-le}
use Rattle.laws.proofs.Accepted.{times-read}
use Rattle.spec.specs.Sheet.{bits, times, count}
use Rattle.sheet.specs.Judge.{proper}
use Rattle.sheet.proofs.Readers.{stopped_by, bits-size, count_cut, count_bad, count_on}
use Rattle.sheet.proofs.Turns.{refuses, times_refuses, times-goes_on, times-ends, counts_from, among, among_first, among_more, counts_done, counts-begin}
use Rattle.sheet.proofs.Cursor.counts.Goals.{Start, In_ok-x, then-x-eq0-via-then-x-eq0, then-x-eq0-via-else-x-eq0+then-x-gt-MAX_COUNT}
use Rattle.sheet.proofs.Cursor.counts.Goals as goal

-- There is a cell for each count.
room : (c : Start) → length {A = ℕ} (take c.args.n (replicate proper 0)) ≡ c.args.n
room c = length-take-le c.args.n (replicate proper 0) c.requires.1

-- The field was read.
read : (c : In_ok-x) → bits c.args.self.now.sheet.now 12 c.loop-cell.self.at ≡ Ok (c.in_ok-x.x, c.bits.new.self.at)
read c = rw c.loop-cell.invariant.sheet at (sym c.in_ok-x.ensures.value)

pub loop-cell-init : goal.loop-cell-init
loop-cell-init c =
    let a = c.args in
    let b = a.self.now.sheet.now in
    let i = a.self.now.at in
    record {
      sheet = refl;
      at = omega arith;
      sum = omega arith;
      array = room (goal.at.loop-cell-init c).Start;
      left = rw (sub-zero, among_first a.n) (counts-begin (times a.n (count b) i) (λ x e. rw (times-read a.n (count b) i x e) c.requires.1));
    }

pub returns-in_err-x : goal.returns-in_err-x
returns-in_err-x c =
    let a = c.args in
    let l = c.loop-cell in
    refuses (stopped_by c.from_residual.result c.from_residual.ensures.1)
    (times_refuses (count a.self.now.sheet.now) a.n l.cell-index l.self.at (counts_from (among a.n l.cell-items) l.elements l.cell-index) l.invariant.left (omega (arith, c.loop-cell-test.true, room (goal.at.returns-in_err-x c).Start))
    (count_cut a.self.now.sheet.now l.self.at (rw l.invariant.sheet at (sym c.in_err-x.ensures.value))))
    (c.bits.ensures.sheet ∙ l.invariant.sheet)

pub returns-then-x-eq0 : goal.returns-then-x-eq0
returns-then-x-eq0 c =
    let a = c.args in
    let l = c.loop-cell in
    refuses refl
    (times_refuses (count a.self.now.sheet.now) a.n l.cell-index l.self.at (counts_from (among a.n l.cell-items) l.elements l.cell-index) l.invariant.left (omega (arith, c.loop-cell-test.true, room (goal.at.returns-then-x-eq0 c).Start))
    (count_bad a.self.now.sheet.now l.self.at (read (goal.at.returns-then-x-eq0 c).In_ok-x)
    (elim c.then-x-eq0.branch [ then-x-eq0-via-then-x-eq0 w ↦ inl w.if-x-eq0.true | then-x-eq0-via-else-x-eq0+then-x-gt-MAX_COUNT w ↦ inr w.if-x-gt-MAX_COUNT.true ])))
    (c.bits.ensures.sheet ∙ l.invariant.sheet)

pub loop-cell-preserved : goal.loop-cell-preserved
loop-cell-preserved c =
    let a = c.args in
    let l = c.loop-cell in
    let e = read (goal.at.loop-cell-preserved c).In_ok-x in
    record {
      sheet = c.bits.ensures.sheet ∙ l.invariant.sheet;
      at = omega (arith, bits-size a.self.now.sheet.now 12 l.self.at _ e);
      sum = omega arith;
      array = simp length-set l.invariant.array;
      left = times-goes_on (count a.self.now.sheet.now) a.n l.cell-index l.self.at (counts_from (among a.n l.cell-items) l.elements l.cell-index) l.invariant.left (omega (arith, c.loop-cell-test.true, room (goal.at.loop-cell-preserved c).Start))
          (count_on a.self.now.sheet.now l.self.at e c.if-x-eq0.false c.if-x-gt-MAX_COUNT.false)
          _ (λ r. among_more a.n l.elements l.cell-index c.in_ok-x.x l.cell-items r (omega (arith, l.invariant.array, c.loop-cell-test.true, room (goal.at.loop-cell-preserved c).Start)));
    }

pub returns : goal.returns
returns c =
    let a = c.args in
    let l = c.loop-cell in
    record {
      value = ap (λ z. Ok (z, l.self.at)) (counts_done (among a.n l.cell-items) l.elements l.cell-index)
          ∙ times-ends (count a.self.now.sheet.now) a.n l.cell-index l.self.at (counts_from (among a.n l.cell-items) l.elements l.cell-index) l.invariant.left (omega (arith, c.loop-cell-test.false, room (goal.at.returns c).Start));
      sheet = l.invariant.sheet;
    }
