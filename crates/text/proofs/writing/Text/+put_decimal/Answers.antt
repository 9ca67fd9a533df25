use mathlib.Core.Path.{sym}
use native.Mathlib.Omega.{arith}
use Rattle.text.proofs.Decimals.{decimal_small, decimal_more}
use Rattle.text.proofs.Growing.{less, then-room, grown_is, grown_then}
use Rattle.text.proofs.writing.Text.+put_decimal.Goals as goal

pub put_byte-requires : goal.put_byte-requires
put_byte-requires t c = rw (decimal_small c.args.n c.if-n-lt10.true) at c.requires

pub returns-then-n-lt10 : goal.returns-then-n-lt10
returns-then-n-lt10 t c = grown_is c.put_byte.ensures (sym (decimal_small c.args.n c.if-n-lt10.true))

pub put_decimal-requires : goal.put_decimal-requires
put_decimal-requires t c =
    (omega (arith, c.decreases, c.if-n-lt10.false), less c.args.self.now _ _ (rw (decimal_more c.args.n c.if-n-lt10.false) at c.requires))

pub put_byte-requires-2 : goal.put_byte-requires-2
put_byte-requires-2 t c = then-room c.put_decimal.ensures _ (rw (decimal_more c.args.n c.if-n-lt10.false) at c.requires)

pub returns : goal.returns
returns t c = grown_is (grown_then c.put_decimal.ensures c.put_byte-2.ensures) (sym (decimal_more c.args.n c.if-n-lt10.false))
