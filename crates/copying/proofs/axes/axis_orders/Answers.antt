-- Each entry is widened by itself. Assumes nothing.
use mathlib.Core.Path.{◌≡◌, ap, ◌∙◌}
use mathlib.Core.List.{[], map}
use Prim.Native.Nat.{ℕ, ◌<◌}
use native.Mathlib.Omega.{arith}
use lib.ListN.{length, get_or}
use borrow.Author.Rules.{rules}
use Rattle.matrix.specs.Reading.{padded_rows}
use Rattle.copying.proofs.Scan.{mapped}
use Rattle.copying.proofs.axes.axis_orders.Goals as goal

pub returns : goal.returns
returns c =
    let i = c.map.ensures.items in
    let k : length c.entries.result ≡ 48 = search rules in
    let at : (j : ℕ) → j < 48 → get_or c.map.result j [] ≡ padded_rows (get_or c.entries.result j []) = λ j h. let m = i.at j [] [] h in search rules in
    mapped padded_rows [] [] _ _ (omega (arith, i.long)) (λ j h. at j (omega (arith, k, h))) ∙ ap (map padded_rows) c.entries.ensures
