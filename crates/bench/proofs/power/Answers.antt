-- A power of 8 up to the eighth fits a word, and none is 0. Assumes nothing.
use Rattle.std.proofs.Common.{◌≤◌, arith}
use Rattle.std.proofs.Math.Nat.{one-le-pow, pow-le-pow_right}
use Rattle.bench.proofs.power.Goals as goal

pub pow-requires : goal.pow-requires
pow-requires c = let h : c.from.result ≤ 8 = omega arith in omega (arith, pow-le-pow_right {n = 8} (omega arith) h)

pub returns-in-Some-49-to-56 : goal.returns-in-Some-49-to-56
returns-in-Some-49-to-56 c = omega (arith, one-le-pow c.from.result 8 (omega arith))
