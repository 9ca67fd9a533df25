use mathlib.Core.Path.{◌≡◌, sym, ◌∙◌}
use Prim.Native.Nat.{◌+◌, ◌%◌}
use native.Mathlib.Omega.{arith}
use lib.ListN.{length}
use lib.Seq.{length-take-le}
use borrow.Author.Rules.{rules}
use Rattle.spec.specs.Limits.{max_dimension}
use Rattle.points.specs.Guesses.{places}
use Rattle.points.proofs.Parts.{length-parts}
use Rattle.points.proofs.Finding.{at_is}
use Rattle.points.proofs.Hits.{lone_number}
use Rattle.points.proofs.lookup.Lookup.guess.Goals.{Start}
use Rattle.points.proofs.lookup.Lookup.guess.Goals as goal

long : (c : Start) → length c.args.q ≡ max_dimension
long c = search rules

pub returns-then-near_at : goal.returns-then-near_at
returns-then-near_at c =
    let s = (goal.at.returns-then-near_at c).Start.args.self.now in
    let p = s.points in
    let h = c.if-self-k.false in
    at_is h (lone_number p.count p.dimension p.floats.now _ _ h (length-take-le p.dimension c.args.q (omega (arith, long (goal.at.returns-then-near_at c).Start))) p.fits.1
    (s.guesses.lone ((c.place-at.result + c.loop-i.i) % places) (omega arith) (omega (arith, h, c.from-k.ensures, length-parts p.count p.dimension p.floats.now))) (sym c.near_at.ensures ∙ c.if-near_at.true))
