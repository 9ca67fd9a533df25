use Rattle.std.proofs.Common.{ℕ, ◌+◌, take, drop, ap, arith}
use Rattle.element_types.specs.Runs.{key_at}
use Rattle.element_types.proofs.compare.key.Goals as goal

pub returns : goal.returns
unfolding key_at
returns c = ap (λ (n : ℕ). take n (drop (c.args.p + 1) c.args.keys.now)) (omega (arith, c.get-n.ensures))
