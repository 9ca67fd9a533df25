-- This file says what the workspace holds when the marks of the listed rows are written.
-- Assumes nothing.
use Rattle.std.specs.Prelude.{ℕ, List, Float}
use Rattle.ranked.specs.declared.Shape.{Shape}
use Rattle.ranked.specs.Words.{lists_of}
use Rattle.preflight.specs.Bench.{Bench}
use Rattle.marks.specs.Rows.{ClassesIn}
use Rattle.symmetry.specs.Fingerprints.{Fingerprinted}

-- A solid lies in the workspace, with its distance classes and the fingerprints of its vertex sets.
pub record MarksReady (sh : Shape) (ws : List ℕ) (fs : List Float) : Type 0 where
  pub bench : Bench sh ws fs
  pub classes : ClassesIn sh (lists_of sh ws) fs
  pub fingerprints : Fingerprinted sh ws
