-- The lent workspace is document 01's bench once a sheet has passed preflight: a solid lies in it, and there is the room that refusal 7 asks for.
-- Everything above preflight asks this and nothing else of words and floats.
-- Assumes nothing.
use Rattle.std.specs.Prelude.{◌≡◌, ℕ, ◌≤◌, true, List, length, Float}
use Rattle.spec.specs.Types.{elements}
use Rattle.spec.specs.Solid.{entries, bound, diamond, words_for, floats_for}
use Rattle.ranked.specs.declared.Shape.{Shape}
use Rattle.ranked.specs.Words.{lists_of, Held}
use Rattle.preflight.specs.Derive.{Stored, stored_in}
use Rattle.ranked.specs.Layout.{low_of, sub_lists_of, abstract_in}

-- The solid lies in the words and floats, and the workspace has the room that was asked for.
pub record Bench (sh : Shape) (ws : List ℕ) (fs : List Float) : Type 0 where
  pub held : Held sh (lists_of sh ws)
  pub low_is : sh.low ≡ low_of sh (entries (abstract_in sh ws))
  pub words_in : sh.low ≤ length ws
  -- The subs stand by themselves below the sups' entries, so that sups can be derived anew.
  pub stored : Stored sh (sub_lists_of sh ws)
  pub subs_alone : stored_in sh ws ≡ abstract_in sh ws
  -- Neither 5 nor 6 applies to the solid.
  pub joined : bound (abstract_in sh ws) ≡ true
  pub diamonds : diamond (abstract_in sh ws) ≡ true
  -- There is enough room for 7 not to apply.
  pub words : words_for (elements (abstract_in sh ws)) (entries (abstract_in sh ws)) ≤ length ws
  pub floats : floats_for (elements (abstract_in sh ws)) ≤ length fs

-- This is the words' part of a bench, which is a bench together with any floats that are enough.
abbrev pub Laid : Shape → List ℕ → Type 0
Laid sh ws = (fs : List Float) → floats_for (elements (abstract_in sh ws)) ≤ length fs → Bench sh ws fs
