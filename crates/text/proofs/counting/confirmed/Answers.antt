-- The library sums the marks, each of which is at most 255.
-- Assumes nothing.
use Rattle.std.proofs.Common.{rules, ◌≡◌, ◌^◌, ◌∙◌, sym, length, take}
use native.Mathlib.Omega.{arith}
use lib.ListN.{get_or}
use lib.Seq.{length-take-le}
use Rattle.std.proofs.lemmas.List.{get_or-take}
use Rattle.std.proofs.lemmas.Iterator.{YieldsList-from_slice, YieldsList-from_map}
use Rattle.std.proofs.lemmas.Iterator.Consumers.{YieldsList-at, fits_by_from_yields_list, sum_by_from_yields_List}
use Rattle.text.proofs.Counted.{summed, sum-most}
use Rattle.text.proofs.counting.confirmed.Goals as goal

pub sum-requires-clause-fits : goal.sum-requires-clause-fits
sum-requires-clause-fits c =
    let n = c.args.n in
    let marks = c.args.marks.now in
    let l = take n marks in
    let e : length l ≡ n = length-take-le n marks c.requires.0 in
    fits_by_from_yields_list (λ v. v) l c.map.result (2 ^ 64)
    (YieldsList-from_map _ (λ v. v) (YieldsList-at c.map.ensures.source (YieldsList-from_slice l (cc))) c.map.ensures.closure (λ x r q k. search rules))
    (omega (
      arith,
      c.requires,
      e,
      summed l,
      sum-most l (λ i h. let k : get_or l i 0 ≡ get_or marks i 0 = get_or-take n marks i 0 (omega (arith, e, h)) in omega (arith, k, c.type_inv.marks i)),
    ))

pub returns : goal.returns
returns c =
    let l = take c.args.n c.args.marks.now in
    sum_by_from_yields_List (λ v. v) l c.map.result c.sum.result c.sum.ensures.ran
    (YieldsList-from_map _ (λ v. v) (YieldsList-at c.map.ensures.source (YieldsList-from_slice l (cc))) c.map.ensures.closure (λ x r q k. search rules))
    ∙ sym (summed l)
