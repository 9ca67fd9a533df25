-- `preflight::preflight` meets its contract: its steps are those of `Laws`. Assumes nothing.
use Rattle.std.specs.Prelude.{Ok}
use mathlib.Core.Path.{◌≡◌, refl}
use Rattle.spec.specs.Sheet.{Parsed, read_sheet}
use Rattle.sheet.specs.Judge.{header_of}
use Rattle.sheet.proofs.Readers.{stopped_by}
use Rattle.sheet.proofs.Laws.{accepted_is, refused_is}
use Rattle.preflight.proofs.Laws.{header_fits, unread, cramped_in, settled_in, asked}
use Rattle.preflight.proofs.preflight.Goals.{In_ok-header}
use Rattle.preflight.proofs.preflight.Goals as goal

-- The sheet was accepted.
read : (c : In_ok-header) → (p : Parsed) × (read_sheet c.args.sheet.now ≡ Ok p) × (c.in_ok-header.header ≡ header_of p)
read c = accepted_is c.args.sheet.now c.in_ok-header.ensures

pub returns-in_err-header : goal.returns-in_err-header
returns-in_err-header c =
    unread _ _ _ _ _ _ refl refl (refused_is c.args.sheet.now c.in_err-header.ensures) (stopped_by c.from_residual.result c.from_residual.ensures.1)

pub is_roomy-requires : goal.is_roomy-requires
is_roomy-requires c = let p = read c in header_fits _ p.0 p.1 _ p.2

pub returns-then-not-is_roomy : goal.returns-then-not-is_roomy
returns-then-not-is_roomy c =
    let p = read (goal.at.returns-then-not-is_roomy c).In_ok-header in
    cramped_in _ _ _ _ _ _ refl refl p.0 p.1 _ p.2 _ c.is_roomy.ensures c.if-not-is_roomy.true refl

pub settle-requires : goal.settle-requires
settle-requires c =
    let p = read (goal.at.settle-requires c).In_ok-header in
    let both = asked _ _ _ p.0 p.1 _ p.2 _ c.is_roomy.ensures c.if-not-is_roomy.false in
    record {
      sheet_value = both.0;
      header_value = both.1.0;
      floats_value = both.1.1;
    }

pub returns : goal.returns
returns c =
    let p = read (goal.at.returns c).In_ok-header in
    settled_in _ _ _ _ _ _ c.settle.auto.words c.settle.auto.floats p.0 p.1 _ p.2 _ c.is_roomy.ensures c.if-not-is_roomy.false c.settle.ensures
