-- The cells are counted before any is written.
-- Assumes nothing.
use native.Mathlib.Omega.{arith}
use Prim.Native.Nat.{◌*◌, ◌≤◌}
use lib.ListN.{length}
use Rattle.spec.specs.Types.{type_count}
use Rattle.spec.specs.Calls.{TypesOut}
use Rattle.ranked.specs.Words.{lists_of}
use Rattle.ranked.specs.Layout.{proper}
use Rattle.ranked.proofs.Counted.{proper_is}
use Rattle.element_types.specs.Read.{typed_solid, typed_state}
use Rattle.types.proofs.Call.{types_few, short_elements, short_types, all_handed}
use Rattle.types.proofs.giving.give_out.Goals.{Else-table-n, Start}
use Rattle.types.proofs.giving.give_out.Goals as goal

-- These are the outputs as they were.
abbrev old : Start → TypesOut
old s = record { elements = s.args.of.now; types = s.args.table.now }

-- There are cells enough.
room : (c : Else-table-n)
    → let a = c.args in
    (proper a.typed.now.shape ≤ length a.of.now) × (4 * type_count (typed_solid a.typed.now) (typed_state a.typed.now) ≤ length a.table.now)
room c =
    (omega (arith, c.if-of-proper.false, c.proper.ensures), omega (arith, c.if-table-n.false, c.type_count-n.ensures))

pub returns-then-of-proper : goal.returns-then-of-proper
returns-then-of-proper c = rw c.into.ensures (short_elements _ _ c.args.typed.now.countable (old (goal.at.returns-then-of-proper c).Start) (omega (arith, c.if-of-proper.true, c.proper.ensures)))

pub overflow_mul-n : goal.overflow_mul-n
overflow_mul-n c = omega (arith, c.type_count-n.ensures, types_few _ _ c.args.typed.now.countable (old (goal.at.overflow_mul-n c).Start))

pub returns-then-table-n : goal.returns-then-table-n
returns-then-table-n c = rw c.into-then-table-n.ensures (short_types _ _ c.args.typed.now.countable (old (goal.at.returns-then-table-n c).Start) (omega (arith, c.if-of-proper.false, c.proper.ensures)) (omega (arith, c.if-table-n.true, c.type_count-n.ensures)))

pub write_types-requires : goal.write_types-requires
write_types-requires c =
    let t = c.args.typed.now in
    omega (arith, room (goal.at.write_types-requires c).Else-table-n, proper_is t.shape (lists_of t.shape t.words.now) t.countable.held)

pub returns : goal.returns
returns c =
    let r = room (goal.at.returns c).Else-table-n in
    all_handed _ _ c.args.typed.now.countable (old (goal.at.returns c).Start) r.0 r.1 _ c.type_count-n.ensures _ _ c.write_types.ensures c.write_table.ensures
