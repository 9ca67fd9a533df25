-- This file says which copies stand in a lent buffer, and what becomes of them.
-- Assumes nothing.
use Rattle.std.specs.Prelude.{◌≡◌, List, Option, option_map}
use Rattle.spec.specs.Lists.{parts}
use Rattle.spec.specs.Matrix.{Vector}
use Rattle.copying.specs.declared.joining.CopyList.{CopyList}
use Rattle.copying.specs.Post.{CopiesKept}

-- Gives the copies.
abbrev pub copies_in : CopyList → List Vector
copies_in s = parts s.count s.dimension s.out.now

-- The list `before` was to be extended to the copies `all`. The answer says whether there is room for them all, and `after` has those for which there
-- is, in the same buffer.
pub record Extended (before : CopyList) (all : List Vector) (after : CopyList) (answer : Option Unit) : Type 0 where
  pub buffer : after.out.ghost_name ≡ before.out.ghost_name
  pub dimension : after.dimension ≡ before.dimension
  pub limit : after.limit ≡ before.limit
  pub kept : CopiesKept before.dimension before.limit all before.out.now after.out.now (option_map (λ _. after.count) answer)
