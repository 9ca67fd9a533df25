-- The types of a flag's elements are those that are read in the words.
-- Assumes nothing.
use mathlib.Core.Path.{◌≡◌, sym, ap, ap₂, ◌∙◌}
use mathlib.Core.Bool.{Bool}
use mathlib.Core.List.{List}
use Prim.Native.Nat.{ℕ, suc, ◌≤◌, ◌<◌}
use native.Mathlib.Omega.{arith}
use lib.ListN.{length, get_or, take, length-take, length-drop}
use lib.Seq.{get_or-take}
use lib.Dec.{eqb}
use Rattle.spec.specs.Lists.{range, every}
use Rattle.spec.specs.Types.{type_of}
use Rattle.spec.specs.Flags.{IsFlag, element_at}
use Rattle.laws.proofs.Lists.{of_range}
use Rattle.ranked.specs.declared.Shape.{Shape}
use Rattle.ranked.specs.Words.{size_at, lists_of, abs_in, Held}
use Rattle.ranked.specs.Layout.{scratch_at}
use Rattle.ranked.proofs.Agree.{every_same}
use Rattle.element_types.specs.State.{state_in, types_in}
use Rattle.element_types.proofs.Replaced.{rank-within}
use Rattle.element_types.proofs.States.{types-at}
use Rattle.flag.proofs.Flags.{flag_in_lem}
use Rattle.symmetry.specs.Post.{types_agree}

-- This is the code's test at rank r.
abbrev pub agree : List ℕ → Shape → List ℕ → List ℕ → ℕ → Bool
agree w sh a b r = eqb (get_or (types_in sh w r) (get_or a r 0) 0) (get_or (types_in sh w r) (get_or b r 0) 0)

module _ (sh : Shape) (w : List ℕ) (h : Held sh (lists_of sh w)) (room : scratch_at sh ≤ length w) where
  module _ (els : List ℕ) (f : IsFlag (abs_in sh (lists_of sh w)) (take (suc sh.rank) els)) (r : ℕ) (q : r ≤ sh.rank) where
    -- An element's number lies within the types of its rank.
    pub type_in : get_or els r 0 < length (types_in sh w r)
    unfolding types_in
    type_in =
        let long : length (types_in sh w r) ≡ size_at sh r = simp (length-take, length-drop) (omega (arith, rank-within sh w h r q, room)) in
        rw long (flag_in_lem sh (lists_of sh w) h els f r q)

    read : get_or (types_in sh w r) (get_or els r 0) 0 ≡ type_of (state_in sh w) r (element_at (take (suc sh.rank) els) r)
    read =
        ap (λ (l : List ℕ). get_or l (get_or els r 0) 0) (sym (types-at sh w r q))
        ∙ ap (type_of (state_in sh w) r) (sym (get_or-take (suc sh.rank) els r 0 (omega arith)))

  pub agree_is : (a b : List ℕ) → IsFlag (abs_in sh (lists_of sh w)) (take (suc sh.rank) a) → IsFlag (abs_in sh (lists_of sh w)) (take (suc sh.rank) b)
      → every (agree w sh a b) (range 0 (suc sh.rank)) ≡ types_agree (state_in sh w) sh.rank (take (suc sh.rank) a) (take (suc sh.rank) b)
  agree_is a b f g =
      every_same _ _ (range 0 (suc sh.rank))
      (λ r m. let q : r ≤ sh.rank = omega (arith, of_range 0 (suc sh.rank) r m) in ap₂ eqb (read a f r q) (read b g r q))
