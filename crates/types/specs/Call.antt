-- This file has what remains of the types call once preflight has passed, in the steps in which the program takes it.
-- Assumes nothing.
use Rattle.std.specs.Prelude.{true, false, ◌&&◌, map, ◌*◌, length, leb, None, Some, Ok}
use Rattle.spec.specs.declared.Refusal.TheVariants.{ShortSheet, Unsettled}
use Rattle.spec.specs.Refusal.{Answer, refused_with}
use Rattle.spec.specs.Lists.{join, written}
use Rattle.spec.specs.Types.{Solid, State, given, element_types}
use Rattle.spec.specs.Solid.{Concrete}
use Rattle.spec.specs.Classes.{types_of}
use Rattle.spec.specs.Calls.{type_cells, TypesOut}

-- Gives refusal 13, or what is given out, where the sweeps ended in the state z.
unfoldable pub handed_out : Solid → State → TypesOut → Answer × TypesOut
handed_out s z old = elim (leb (length (given s z)) (length old.elements) && leb (4 * length (element_types s z)) (length old.types)) [
  | false ↦ (refused_with ShortSheet 0, old)
  | true ↦ (
    Ok (length (element_types s z)),
    record { elements = written (given s z) old.elements; types = written (join (map type_cells (element_types s z))) old.types },
  )
]

-- Gives the answer for a solid c that has passed preflight: "the types call goes on with 15, 13".
unfoldable pub answered : Concrete → TypesOut → Answer × TypesOut
answered c old = elim (types_of c) [ None ↦ (refused_with Unsettled 0, old) | Some z ↦ handed_out c.abs z old ]
