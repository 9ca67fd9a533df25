-- The library sums the squares.
-- Assumes nothing.
use Rattle.std.proofs.Common.{rules, ◌≡◌, ◌*◌, ◌∙◌, sym}
use Rattle.std.specs.List.{sum_by}
use Rattle.symmetry.proofs.vertex_sets.Summed.{squares_summed}
use Rattle.symmetry.proofs.vertex_sets.fingerprints.fingerprint_of.Goals as goal

pub returns : goal.returns
returns c =
    let e : c.sum.result ≡ sum_by (λ v. v * v) c.args.list.now = search rules in
    e ∙ sym (squares_summed c.args.list.now)
