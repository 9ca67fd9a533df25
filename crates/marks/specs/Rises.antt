-- This file says where an element goes, found from where its subs go and without any vertex set.
-- Assumes nothing.
use Rattle.std.specs.Prelude.{◌≡◌, ℕ, suc, ◌<◌, Bool, false, ◌&&◌, List, length, get_or, eqb, Option, Some, None}
use Rattle.spec.specs.Lists.{holds, keep, every}
use Rattle.spec.specs.Types.{Solid, size, subs, sups, Classes}
use Rattle.spec.specs.Mark.{goes, carries_element}
use Rattle.points.specs.Finding.{first_of}

-- Tells whether the numbers es, which rise and go to different numbers, go exactly onto the numbers gs, which rise: there are as many, and each lands
-- among gs.
unfoldable pub onto : (ℕ → ℕ) → List ℕ → List ℕ → Bool
onto to es gs = eqb (length es) (length gs) && every (λ f. holds eqb (to f) gs) es

-- Says where element e of rank r + 1 goes, by where the elements of rank r go. Of the elements over the image of its first sub, it goes to the first
-- whose subs are the images of its own.
unfoldable pub rises_to : Solid → (ℕ → ℕ) → ℕ → ℕ → Option ℕ
rises_to s to r e = first_of (keep (λ g. onto to (subs s (suc r) e) (subs s (suc r) g)) (sups s r (to (get_or (subs s (suc r) e) 0 0))))

-- Says what an answer tells of where e goes: either e goes to x, whose class decides whether e is carried, or e goes nowhere and is not carried.
abbrev pub Reached : Solid → Classes → List ℕ → ℕ → ℕ → Option ℕ → Type 0
Reached s cls row r e (Some x) = (x ≡ goes s row r e) × (x < size s r) × (carries_element s cls row r e ≡ eqb (cls r x) (cls r e))
Reached s cls row r e None = carries_element s cls row r e ≡ false
