-- The buffer has room, because a cell has at most five digits.
-- Assumes nothing.
use native.Mathlib.Omega.{arith}
use Rattle.text.proofs.Growing.{grown_long}
use Rattle.text.proofs.Tables.{types_long}
use Rattle.kit.proofs.put_types.Goals as goal

pub put_element_types-requires : goal.put_element_types-requires
put_element_types-requires c =
    let l = types_long c.args.table.now (λ i. omega (arith, c.type_inv.table i)) c.args.n c.requires.0 (omega arith) in
    (c.requires.0, omega (arith, c.requires, l))

pub returns : goal.returns
returns c =
    let g = c.put_element_types.ensures in
    let l = types_long c.args.table.now (λ i. omega (arith, c.type_inv.table i)) c.args.n c.requires.0 (omega arith) in
    (g, omega (arith, c.requires, g.puts.stop, grown_long g, l))
