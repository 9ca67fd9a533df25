-- This file has refusals 1 to 7 of a sheet as one answer, and says where the solid of a sheet that passes lies.
-- Assumes nothing.
use Rattle.std.specs.Prelude.{◌≡◌, ℕ, List, length, Float, Ok}
use Rattle.spec.specs.declared.Refusal.TheVariants.{Loose, Mitre}
use Rattle.spec.specs.Types.{Solid}
use Rattle.spec.specs.Judged.{Judged, judge, ◌>>◌}
use Rattle.spec.specs.Sheet.{Parsed}
use Rattle.spec.specs.Solid.{solid_of, bound, diamond, Concrete, preflight}
use Rattle.sheet.specs.Judge.{map_ok}
use Rattle.ranked.specs.declared.Shape.{Shape}
use Rattle.preflight.specs.Store.{StoredSheet}
use Rattle.preflight.specs.Bench.{Bench}
use Rattle.ranked.specs.Layout.{solid_in}
use Rattle.ranked.specs.Shapes.{shape_of}

-- Gives the judgement without what it accepts.
abbrev pub without_value : {A : Type 0} → Judged A → Judged (Unit {0})
without_value o = map_ok (λ _. tt) o

-- Gives the judgement of the two tests of a solid. Refusal 5 is tested first, and then refusal 6.
unfoldable pub checks_of : Solid → Judged (Unit {0})
checks_of s = judge Loose (bound s) >> judge Mitre (diamond s)

-- The solid c lies in the workspace.
pub record OnBench (c : Concrete) (sh : Shape) (ws : List ℕ) (fs : List Float) : Type 0 where
  pub bench : Bench sh ws fs
  pub is : solid_in sh ws fs ≡ c

-- The sheet p, for which there is room, has been stored, and its solid has been judged.
pub record SheetJudged (p : Parsed) (r : Judged Shape) (ws : List ℕ) (fs : List Float) : Type 0 where
  pub verdict : without_value r ≡ checks_of (solid_of p)
  pub kept : (sh : Shape) → r ≡ Ok sh → StoredSheet p sh ws fs

-- For the sheet b in n words and m floats, preflight gives the answer, which for a solid that passes is its shape, and the solid's place. Everything
-- else that the words and floats hold is free, and they keep their lengths.
pub record Preflighted (b : List ℕ) (n m : ℕ) (r : Judged Shape) (ws : List ℕ) (fs : List Float) : Type 0 where
  pub answer : r ≡ map_ok shape_of (preflight b n m)
  pub lengths : (length ws ≡ n) × (length fs ≡ m)
  pub placed : (c : Concrete) (sh : Shape) → preflight b n m ≡ Ok c → r ≡ Ok sh → OnBench c sh ws fs
