-- The coordinates, the lists and the end are read, each from where the one before ended.
-- Assumes nothing.
use Rattle.std.specs.Prelude.{Ok}
use mathlib.Core.Path.{◌≡◌, refl, ◌∙◌}
use Prim.Native.Nat.{◌*◌, ◌^◌, ◌<◌}
use native.Mathlib.Omega.{arith}
use Rattle.spec.specs.Sheet.{lists}
use Rattle.sheet.specs.Judge.{all_entries}
use Rattle.sheet.specs.Reading.{kept}
use Rattle.sheet.proofs.Readers.{stopped_by}
use Rattle.sheet.proofs.Turns.{refuses}
use Rattle.sheet.proofs.Parts.{body_refuses, lists_refuse, end_refuses, body-passes, area, points-end, lists-end}
use Rattle.sheet.proofs.Cursor.body.Goals.{In_ok-coordinates, In_ok-entries}
use Rattle.sheet.proofs.Cursor.body.Goals as goal

-- The coordinates end within the limits.
near : (c : In_ok-coordinates) → c.coordinates.new.self.at < 2 ^ 20
near c =
    let a = c.args in
    let f = area a.vertices a.dimension c.requires.limits.0 c.requires.limits.1 in
    let e = points-end a.self.now.sheet.now (a.vertices * a.dimension) a.self.now.at c.in_ok-coordinates.ensures.value in
    omega (arith, e, f, c.requires.at)

-- The lists were read.
read : (c : In_ok-entries) → let a = c.args in
    Ok (c.in_ok-entries.entries, c.lists.new.self.at) ≡ kept all_entries (lists a.self.now.sheet.now a.counts.now) c.coordinates.new.self.at
read c = rw c.coordinates.ensures.sheet at c.in_ok-entries.ensures.value

pub overflow_mul-vertices : goal.overflow_mul-vertices
overflow_mul-vertices c = omega (arith, area c.args.vertices c.args.dimension c.requires.limits.0 c.requires.limits.1)

pub returns-in_err-coordinates : goal.returns-in_err-coordinates
returns-in_err-coordinates c =
    let a = c.args in
    refuses (stopped_by c.from_residual.result c.from_residual.ensures.1)
    (body_refuses a.self.now.sheet.now a.vertices a.dimension a.counts.now a.self.now.at c.in_err-coordinates.ensures.value)
    c.coordinates.ensures.sheet

pub lists-requires : goal.lists-requires
lists-requires c = (omega (arith, near (goal.at.lists-requires c).In_ok-coordinates), c.requires.counts.0, c.requires.counts.1)

pub returns-in_err-entries : goal.returns-in_err-entries
returns-in_err-entries c =
    let a = c.args in
    refuses (stopped_by c.from_residual-in_err-entries.result c.from_residual-in_err-entries.ensures.1)
    (lists_refuse a.self.now.sheet.now a.vertices a.dimension a.counts.now a.self.now.at c.in_ok-coordinates.ensures.value (rw c.coordinates.ensures.sheet at c.in_err-entries.ensures.value))
    (c.lists.ensures.sheet ∙ c.coordinates.ensures.sheet)

pub is_at_end-requires : goal.is_at_end-requires
is_at_end-requires c =
    let a = c.args in
    let e = lists-end a.self.now.sheet.now a.counts.now c.coordinates.new.self.at c.requires.counts.1 (read (goal.at.is_at_end-requires c).In_ok-entries) in
    omega (arith, e, near (goal.at.is_at_end-requires c).In_ok-coordinates, c.requires.counts.0)

pub returns-then-not-is_at_end : goal.returns-then-not-is_at_end
returns-then-not-is_at_end c =
    let a = c.args in
    let s = c.lists.ensures.sheet ∙ c.coordinates.ensures.sheet in
    refuses refl
    (end_refuses a.self.now.sheet.now a.vertices a.dimension a.counts.now a.self.now.at c.in_ok-coordinates.ensures.value (read (goal.at.returns-then-not-is_at_end c).In_ok-entries) (rw s at c.if-not-is_at_end.ensures))
    s

pub returns : goal.returns
returns c =
    let a = c.args in
    let s = c.lists.ensures.sheet ∙ c.coordinates.ensures.sheet in
    record {
      value = body-passes a.self.now.sheet.now a.vertices a.dimension a.counts.now a.self.now.at c.in_ok-coordinates.ensures.value (read (goal.at.returns c).In_ok-entries) (rw s at c.if-not-is_at_end.ensures);
      sheet = s;
    }
