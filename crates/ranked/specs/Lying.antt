-- This file says which solid lies in lent words, and which in lent words and floats.
-- Assumes nothing.
use Rattle.ranked.specs.declared.solid.Solid as declared
use Rattle.ranked.specs.declared.solid.Realized.{Realized}
use Rattle.ranked.specs.Words.{abs_in}
use Rattle.ranked.specs.Layout.{solid_on}
use Rattle.spec.specs.Types.{Solid}
use Rattle.spec.specs.Solid.{Concrete}

-- Gives the solid that the lists hold.
abbrev pub abs_of : declared.Solid → Solid
abs_of s = abs_in s.shape s.lists.now

-- Gives the solid that the lists hold, with the coordinates that the floats start with.
abbrev pub concrete_of : Realized → Concrete
concrete_of s = solid_on s.solid.shape s.solid.lists.now s.floats.now
