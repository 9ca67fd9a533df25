-- The list's length is read, and then its subs.
-- Assumes nothing.
use Rattle.std.specs.Prelude.{Ok}
use mathlib.Core.Path.{◌≡◌, refl, sym, ◌∙◌, ap}
use native.Mathlib.Omega.{arith}
use lib.ListN.{length}
use Rattle.spec.specs.Sheet.{bits, sub_list, list}
use Rattle.sheet.specs.Judge.{map_ok}
use Rattle.sheet.specs.Reading.{with_bit, forgotten}
use Rattle.sheet.proofs.Readers.{stopped_by, kept-refused, kept-passed, bits_lt, bits-size, list_cut, list-many, list-empty, list_on, sub-size}
use Rattle.sheet.proofs.Turns.{refuses}
use Rattle.sheet.proofs.Cursor.list.Goals.{In_ok-n, After-subs}
use Rattle.sheet.proofs.Cursor.list.Goals as goal

-- The length was read.
read : (c : In_ok-n) → bits c.args.self.now.sheet.now 12 c.args.self.now.at ≡ Ok (c.in_ok-n.n, c.bits.new.self.at)
read c = sym c.in_ok-n.ensures.value

-- The length passed, and so the subs decide.
told : (c : After-subs) → let a = c.args in
    list a.self.now.sheet.now a.below a.used a.self.now.at ≡ sub_list a.self.now.sheet.now a.below c.in_ok-n.n 0 c.bits.new.self.at
told c = let a = c.args in list_on a.self.now.sheet.now a.below a.used a.self.now.at (sym c.in_ok-n.ensures.value) c.if-used-n-gt-MAX_ENTRIES.false c.if-n-eq0.false

pub returns-in_err-n : goal.returns-in_err-n
returns-in_err-n c =
    let a = c.args in
    refuses (stopped_by c.from_residual.result c.from_residual.ensures.1)
    (sym (ap (map_ok (with_bit length)) (list_cut a.self.now.sheet.now a.below a.used a.self.now.at (sym c.in_err-n.ensures.value))))
    c.bits.ensures.sheet

pub overflow_add-used : goal.overflow_add-used
overflow_add-used c = let a = c.args in omega (arith, bits_lt a.self.now.sheet.now 12 a.self.now.at _ (read c))

pub returns-then-used-n-gt-MAX_ENTRIES : goal.returns-then-used-n-gt-MAX_ENTRIES
returns-then-used-n-gt-MAX_ENTRIES c =
    let a = c.args in
    refuses refl
    (sym (ap (map_ok (with_bit length)) (list-many a.self.now.sheet.now a.below a.used a.self.now.at (read (goal.at.returns-then-used-n-gt-MAX_ENTRIES c).In_ok-n) c.if-used-n-gt-MAX_ENTRIES.true)))
    c.bits.ensures.sheet

pub returns-then-n-eq0 : goal.returns-then-n-eq0
returns-then-n-eq0 c =
    let a = c.args in
    refuses refl
    (sym (ap (map_ok (with_bit length)) (list-empty a.self.now.sheet.now a.below a.used a.self.now.at (read (goal.at.returns-then-n-eq0 c).In_ok-n) c.if-used-n-gt-MAX_ENTRIES.false c.if-n-eq0.true)))
    c.bits.ensures.sheet

pub subs-requires : goal.subs-requires
subs-requires c =
    let a = c.args in
    omega (arith, bits-size a.self.now.sheet.now 12 a.self.now.at _ (read (goal.at.subs-requires c).In_ok-n))

pub returns-in_err-subs : goal.returns-in_err-subs
returns-in_err-subs c =
    let a = c.args in
    refuses (stopped_by c.from_residual-in_err-subs.result c.from_residual-in_err-subs.ensures.1)
    (sym (ap (map_ok (with_bit length)) (told (goal.at.returns-in_err-subs c).After-subs
    ∙ kept-refused forgotten (sub_list a.self.now.sheet.now a.below c.in_ok-n.n 0) c.bits.new.self.at (rw c.bits.ensures.sheet at c.in_err-subs.ensures.value))))
    (c.subs.ensures.sheet ∙ c.bits.ensures.sheet)

pub returns : goal.returns
returns c =
    let a = c.args in
    let x = kept-passed forgotten (sub_list a.self.now.sheet.now a.below c.in_ok-n.n 0) c.bits.new.self.at (rw c.bits.ensures.sheet at c.in_ok-subs.ensures.value) in
    record {
      value = ap (λ n. Ok (n, c.subs.new.self.at)) (sym (sub-size a.self.now.sheet.now a.below c.in_ok-n.n 0 c.bits.new.self.at _ x.1).0)
          ∙ sym (ap (map_ok (with_bit length)) (told (goal.at.returns c).After-subs ∙ x.1));
      sheet = c.subs.ensures.sheet ∙ c.bits.ensures.sheet;
    }
