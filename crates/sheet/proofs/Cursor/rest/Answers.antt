-- The counts are read, and the body is read by them.
-- Assumes nothing.
use Rattle.std.specs.Prelude.{Ok}
use Rattle.std.specs.Option.{unwrap_or}
use Rattle.std.proofs.lemmas.Option.{unwrap_or-slice_get}
use mathlib.Core.Path.{◌≡◌, sym, ◌∙◌, ap}
use Prim.Native.Nat.{ℕ, ◌-◌}
use native.Mathlib.Omega.{arith}
use lib.ListN.{take, length-take}
use Rattle.spec.specs.Sheet.{times, count, vertex_count}
use Rattle.sheet.specs.Judge.{map_ok, header_of}
use Rattle.sheet.specs.Reading.{ends_at, with_bit, kept, counts_read, rest_at}
use Rattle.sheet.proofs.Readers.{stopped_by}
use Rattle.sheet.proofs.Turns.{refuses}
use Rattle.sheet.proofs.Made.{counts-near, counts_small, counts-vertices, header_with, rest_refuses, rest_told}
use Rattle.sheet.proofs.Cursor.rest.Goals.{In_ok-read, After-unwrap_or-vertices, After-body}
use Rattle.sheet.proofs.Cursor.rest.Goals as goal

-- The counts were read.
read : (c : In_ok-read) → let a = c.args in Ok (c.in_ok-read.read, c.counts.new.self.at) ≡ kept counts_read (times (a.rank - 1) (count a.self.now.sheet.now)) a.self.now.at
read c = rw c.saturating_sub-n.ensures at c.in_ok-read.ensures.value

-- V is the first count, or R where there is none.
vertices : (c : After-unwrap_or-vertices) → let a = c.args in c.unwrap_or-vertices.result ≡ vertex_count a.rank (take (a.rank - 1) c.in_ok-read.read.counts)
unfolding vertex_count
vertices c =
    let a = c.args in
    rw c.saturating_sub-n.ensures at
    (c.unwrap_or-vertices.ensures ∙ ap (λ o. unwrap_or o a.rank) (c.copied.ensures ∙ c.first.ensures.value)
    ∙ unwrap_or-slice_get (take c.saturating_sub-n.result c.in_ok-read.read.counts) 0 a.rank)

-- The body gives what the definition makes of the counts.
told : (c : After-body) → let a = c.args in
    Ok (c.in_ok-read.read, c.counts.new.self.at) ≡ kept counts_read (times (a.rank - 1) (count a.self.now.sheet.now)) a.self.now.at
    → c.unwrap_or-vertices.result ≡ vertex_count a.rank (take (a.rank - 1) c.in_ok-read.read.counts)
    → map_ok (with_bit (header_with a.rank a.dimension c.in_ok-read.read)) (ends_at c.body.new.self.at c.body.result) ≡ kept header_of (rest_at a.self.now.sheet.now a.rank a.dimension) a.self.now.at
told c e v =
    let a = c.args in
    rest_told a.self.now.sheet.now a.rank a.dimension a.self.now.at e (rw (c.counts.ensures.sheet, v, c.saturating_sub-n.ensures) at c.body.ensures.value)

pub returns-in_err-read : goal.returns-in_err-read
returns-in_err-read c =
    let a = c.args in
    refuses (stopped_by c.from_residual.result c.from_residual.ensures.1)
    (rest_refuses a.self.now.sheet.now a.rank a.dimension a.self.now.at (rw c.saturating_sub-n.ensures at c.in_err-read.ensures.value))
    c.counts.ensures.sheet

pub body-requires : goal.body-requires
body-requires c =
    let a = c.args in
    let b = a.self.now.sheet.now in
    let e = read (goal.at.body-requires c).In_ok-read in
    record {
      at = omega (arith, counts-near b a.rank a.self.now.at e, c.requires.0, c.requires.1);
      limits = (rw (vertices (goal.at.body-requires c).After-unwrap_or-vertices) (counts-vertices b a.rank a.self.now.at e c.requires.1), c.requires.2);
      counts = (omega (arith, length-take {A = ℕ}, c.saturating_sub-n.ensures, c.requires.1), rw c.saturating_sub-n.ensures (counts_small b a.rank a.self.now.at e));
    }

pub returns-in_err-entries : goal.returns-in_err-entries
returns-in_err-entries c =
    let a = c.args in
    let g = goal.at.returns-in_err-entries c in
    refuses (stopped_by c.from_residual-in_err-entries.result c.from_residual-in_err-entries.ensures.1)
    (ap (λ o. map_ok (with_bit (header_with a.rank a.dimension c.in_ok-read.read)) (ends_at c.body.new.self.at o)) (sym c.in_err-entries.was)
    ∙ told g.After-body (read g.In_ok-read) (vertices g.After-unwrap_or-vertices))
    (c.body.ensures.sheet ∙ c.counts.ensures.sheet)

pub returns : goal.returns
returns c =
    let a = c.args in
    let g = goal.at.returns c in
    record {
      value = ap (λ o. map_ok (with_bit (header_with a.rank a.dimension c.in_ok-read.read)) (ends_at c.body.new.self.at o)) (sym c.in_ok-entries.was)
          ∙ told g.After-body (read g.In_ok-read) (vertices g.After-unwrap_or-vertices);
      sheet = c.body.ensures.sheet ∙ c.counts.ensures.sheet;
    }
