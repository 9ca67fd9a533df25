-- The answer of the scan says whether the image is there already; the room says the rest.
-- Assumes nothing.
use mathlib.Core.Path.{◌≡◌, refl, sym, ◌∙◌}
use Prim.Native.Nat.{◌*◌, ◌≤◌}
use native.Mathlib.Omega.{arith}
use lib.ListN.{length, take}
use lib.Seq.{length-take-le}
use borrow.Author.Rules.{rules}
use Rattle.spec.specs.Limits.{max_dimension}
use Rattle.points.proofs.Parts.{part_end}
use Rattle.points.proofs.Tails.{tail_written}
use Rattle.copying.proofs.Growth.{image-found, image-full, image_joined}
use Rattle.copying.proofs.joining.CopyList.add.Goals.{Start, Then-more-self}
use Rattle.copying.proofs.joining.CopyList.add.Goals as goal

long : (c : Start) → length c.args.q ≡ max_dimension
long c = search rules

pub returns-then-has : goal.returns-then-has
returns-then-has c =
    let s = c.args.self.now in
    record { buffer = refl; dimension = refl; limit = refl; kept = image-found s.dimension s.limit s.count s.out.now _ s.fits.2 s.fits.3 (sym c.has.ensures ∙ c.if-has.true) }

pub returns-then-more-self : goal.returns-then-more-self
returns-then-more-self c =
    let b = (goal.at.returns-then-more-self c).Start in
    let s = b.args.self.now in
    let d = s.dimension in
    let wide : length (take d b.args.q) ≡ d = length-take-le d b.args.q (omega (arith, long b)) in
    let room : s.count * d ≤ length s.out.now = omega (arith, part_end s.limit d s.count (omega arith)) in
    record {
      buffer = refl;
      dimension = refl;
      limit = refl;
      kept = image_joined d s.limit s.count s.out.now _ s.fits.2 s.fits.3 _ wide (omega arith) (sym c.has.ensures ∙ c.if-has.false) (tail_written s.out.now c.put.new.out (s.count * d) room d _ wide c.put.ensures);
    }

pub returns : goal.returns
returns c =
    let s = c.args.self.now in
    record { buffer = refl; dimension = refl; limit = refl; kept = image-full s.dimension s.limit s.count s.out.now _ s.fits.2 s.fits.3 (omega arith) (sym c.has.ensures ∙ c.if-has.false) }
