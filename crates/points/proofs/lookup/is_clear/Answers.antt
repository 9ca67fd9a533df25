-- Each point before point k can be read, and where all pass the test none of them is within 2 ^ -22 of it.
-- Assumes nothing.
use mathlib.Core.Path.{◌≡◌, refl}
use mathlib.Core.Bool.{false}
use Prim.Native.Nat.{ℕ}
use native.Mathlib.Nat.{sub-zero}
use native.Mathlib.Omega.{arith}
use lib.Ieee.{of_bits}
use lib.ListN.{length, take}
use borrow.Author.Rules.{rules}
use borrow.Author.Tests.{tests}
use Rattle.std.proofs.lemmas.Iterator.{serves_from_Range, cases_from_all, YieldsList-from_range}
use Rattle.points.specs.Guesses.{wide_f, within}
use Rattle.points.specs.Listed.{listed_at}
use Rattle.points.proofs.Parts.{part_long, part_end}
use Rattle.points.proofs.Lone.{all_below, far-part}
use Rattle.points.proofs.lookup.is_clear.Goals as goal

pub all-requires-clause-callable : goal.all-requires-clause-callable
all-requires-clause-callable c = serves_from_Range (λ x q k. search rules) (λ x low high. search (rules, part_long))

pub returns : goal.returns
unfolding of_bits wide_f
returns c e =
    let p = c.args.points.now in
    let d = p.dimension in
    let q = c.loaded-q.result in
    let k = c.args.k in
    let far = λ (j : ℕ). within wide_f (listed_at p j) (take (length (listed_at p j)) q) ≡ false in
    let all = all_below far _ k
    (cases_from_all _ _ c.all.result far (λ (j : ℕ). Unit {0}) c.all.ensures.ran (YieldsList-from_range 0 k k refl (sub-zero k))
    (λ x r h. search (rules, tests))
    (λ x r h. tt))
    e in
    record { clear = λ j m. let room = part_end p.count d j (omega arith) in far-part d p.floats.now j k _ q (omega arith) refl c.loaded-q.ensures (all j m) }
