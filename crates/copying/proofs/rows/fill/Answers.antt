-- The cells that are filled hold the number, and those behind them what they held. Assumes nothing.
use mathlib.Core.Path.{◌≡◌, ap, ◌∙◌}
use Prim.Native.Nat.{ℕ}
use lib.ListN.{replicate}
use lib.Seq.{length-take-le}
use borrow.Author.Rules.{rules}
use Rattle.spec.specs.Copying.{no_image}
use Rattle.copying.proofs.Tables.{filled_is}
use Rattle.copying.proofs.rows.fill.Goals as goal

pub returns : goal.returns
returns c =
    let e : c.fill.new.self ≡ replicate c.args.cells no_image =
    c.fill.ensures.after (λ y h. search rules) ∙ ap (λ (k : ℕ). replicate k no_image) (length-take-le c.args.cells c.args.out.now c.requires) in
    rw e (filled_is c.args.cells no_image c.args.out.now)
