-- These laws are about matrices that are laid out one after another, row by row.
-- Assumes nothing.
use mathlib.Core.Path.{◌≡◌, refl, sym, ap, ◌∙◌}
use mathlib.Core.List.{List, [], ◌∷◌, ◌++◌, map, append-nil}
use Prim.Native.Nat.{◌≤◌}
use lib.ListN.{length, drop_of_length-le}
use lib.Ieee.{Float, neg}
use Rattle.spec.specs.Lists.{join, range, written}
use Rattle.spec.specs.Float.{zip, zero_f, one_f}
use Rattle.spec.specs.Copying.{orders, signed, axis_order, axis_orders}
use Rattle.float.specs.Reading.{padded}
use Rattle.matrix.specs.Reading.{leading, corner, padded_rows}
use Rattle.points.proofs.Laid.{join-append}

pub joined_twice : {A : Type 0} (ls : List (List (List A))) → join (map join ls) ≡ join (join ls)
unfolding join
joined_twice [] = refl
joined_twice (l ∷ ls) = ap (λ x. join l ++ x) (joined_twice ls) ∙ sym (join-append l (join ls))

-- A buffer that has no more cells than are written holds nothing else afterwards.
pub whole : (new before : List Float) → length before ≤ length new → written new before ≡ new
unfolding written
whole new before h = ap (λ (x : List Float). new ++ x) (drop_of_length-le before {i = length new} h) ∙ append-nil new

-- ---- the table of 48

-- Of the cells that the table holds, the first three of the first three rows are the matrices themselves.
pub table_corners : map (corner 3) (map padded_rows axis_orders) ≡ axis_orders
unfolding neg zip zero_f one_f join range orders signed axis_order axis_orders corner leading padded padded_rows
table_corners = refl
