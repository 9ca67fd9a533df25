-- The line goes by the search's answer.
-- Assumes nothing.
use mathlib.Core.Path.{refl}
use native.Mathlib.Omega.{arith}
use Rattle.text.proofs.Growing.{grown_is}
use Rattle.text.proofs.Pieces.{refused_long, members_long}
use Rattle.kit.proofs.Last.{accepted, flat, marks_hold, matrices-hold, done-last, refused-last}
use Rattle.kit.proofs.last_line.Goals as goal

pub dimension-d-requires : goal.dimension-d-requires
dimension-d-requires c = accepted _ _ _ _ _ _ c.search-answer.ensures.as_defined refl refl refl refl refl _ c.in-Ok.is

pub confirmed-confirmed-requires : goal.confirmed-confirmed-requires
confirmed-confirmed-requires c =
    let h = marks_hold _ _ _ _ _ _ c.search-answer.ensures.as_defined refl refl refl refl refl _ c.in-Ok.is _ c.dimension-d.ensures in
    (omega (arith, h), omega (arith, h))

pub rotations-rotations-requires : goal.rotations-rotations-requires
rotations-rotations-requires c =
    let e = c.search-answer.ensures.as_defined in (
      flat _ _ _ _ _ _ e refl refl refl refl refl _ c.in-Ok.is _ c.dimension-d.ensures,
      omega (arith, matrices-hold _ _ _ _ _ _ e refl refl refl refl refl _ c.in-Ok.is _ c.dimension-d.ensures),
    )

pub put_members-requires : goal.put_members-requires
put_members-requires c =
    let l = members_long c.in-Ok.n c.confirmed-confirmed.result c.rotations-rotations.result (omega arith) (omega arith) (omega arith) in
    omega (arith, c.requires, l)

pub put_refused-requires : goal.put_refused-requires
put_refused-requires c = omega (arith, c.requires, refused_long c.in-Err.refused.why)

pub returns-in-Ok : goal.returns-in-Ok
returns-in-Ok c =
    let l = done-last _ _ _ _ _ _ c.search-answer.ensures.as_defined refl refl refl refl refl _ c.in-Ok.is _ c.dimension-d.ensures in
    grown_is (rw (c.confirmed-confirmed.ensures, c.rotations-rotations.ensures) at c.put_members.ensures) l

pub returns-in-Err : goal.returns-in-Err
returns-in-Err c =
    let l = refused-last _ _ _ _ _ _ c.search-answer.ensures.as_defined refl refl refl refl refl _ c.in-Err.is in
    grown_is c.put_refused.ensures l
