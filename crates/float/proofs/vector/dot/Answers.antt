use mathlib.Core.Path.{◌≡◌, ◌∙◌}
use mathlib.Core.List.{List}
use Prim.Native.Nat.{◌-◌}
use Rattle.std.proofs.lemmas.Grind.{common_steps}
use native.Mathlib.Omega.{arith}
use lib.ListN.{drop, take, length, length-drop}
use lib.Seq.{take_all}
use lib.Ieee.{Float}
use borrow.Author.Rules.{rules}
use Rattle.std.proofs.lemmas.Iterator.{YieldsList-from_slice, YieldsList-from_zip}
use Rattle.std.proofs.lemmas.Iterator.Consumers.{YieldsList-at, fold_from_yields_List}
use Rattle.spec.specs.Float.{plus, times}
use Rattle.float.proofs.Dots.{none, dot-folded}
use Rattle.float.proofs.vector.dot.Goals as goal

pub returns-then-is_empty : goal.returns-then-is_empty
returns-then-is_empty c = none _ _ (grind (arith, common_steps))

-- A slice from 1 on is as long as it can be.
whole : (a : List Float) → take (length a - 1) (drop 1 a) ≡ drop 1 a
whole a = take_all (length a - 1) (drop 1 a) (omega (arith, length-drop 1 a))

pub returns : goal.returns
returns c =
    let a = c.args.a.now in
    let b = c.args.b.now in
    fold_from_yields_List _ (λ s p. plus s (times p.0 p.1)) _ _ c.fold.ensures.ran
    (YieldsList-from_zip (YieldsList-at c.zip-others.ensures.first (YieldsList-from_slice _ c.iter.ensures.rest)) (YieldsList-from_slice _ c.zip-others.ensures.second.0))
    (λ s x r q k. search rules)
    ∙ rw (whole a, whole b) (dot-folded a b (search rules) (search rules))
