-- The copies in a lent buffer are extended one after another: what one addition after others gives is what they all give.
-- Assumes nothing.
use mathlib.Core.Path.{◌≡◌, refl, ap, ◌∙◌}
use mathlib.Core.List.{List}
use Prim.Native.Nat.{ℕ}
use lib.Ieee.{Float}
use Rattle.std.specs.Prelude.{Some, None}
use Rattle.spec.specs.Lists.{parts}
use Rattle.spec.specs.Matrix.{Vector}
use Rattle.copying.specs.declared.joining.CopyList.{CopyList}
use Rattle.copying.specs.Post.{Fitting, Overfull}
use Rattle.copying.specs.Growing.{copies_in, Extended}
use Rattle.copying.proofs.Growth.{Longer, fitting_first, fitting_next, fitting_full}

-- A list that is not extended is as it was.
pub extended_none : (s : CopyList) → Extended s (copies_in s) s (Some tt)
extended_none s = record { buffer = refl; dimension = refl; limit = refl; kept = fitting_first s.fits.2 s.fits.3 }

-- The list has the copies that it was to have.
pub extended_is : {before after : CopyList} {all : List Vector} → Extended before all after (Some tt) → copies_in after ≡ all
extended_is {before} {after} e = ap (λ (d : ℕ). parts after.count d after.out.now) e.dimension ∙ e.kept.read

-- What was extended is extended once more.
module _ {before now after : CopyList} {all : List Vector} (g : Extended before (copies_in now) now (Some tt)) (new : Longer (copies_in now) all) where
  pub extended_next : Extended now all after (Some tt) → Extended before all after (Some tt)
  extended_next e = record {
    buffer = e.buffer ∙ g.buffer;
    dimension = e.dimension ∙ g.dimension;
    limit = e.limit ∙ g.limit;
    kept = fitting_next g.kept new (rw (g.dimension, g.limit) at e.kept);
  }

  -- Where there is no room for these, there is none for more.
  pub extended_full : {whole : List Vector} → Longer all whole → Extended now all after None → Extended before whole after None
  extended_full more e = record {
    buffer = e.buffer ∙ g.buffer;
    dimension = e.dimension ∙ g.dimension;
    limit = e.limit ∙ g.limit;
    kept = fitting_full g.kept new more (rw g.limit at e.kept);
  }

-- What a buffer holds is told of its value once it is given back.
module _ {limit : ℕ} {all : List Vector} {before now last : List Float} where
  pub full_back : Overfull limit all before now → last ≡ now → Overfull limit all before last
  full_back k e = rw e k

  pub fitting_back : {d n : ℕ} → Fitting d limit all before now n → last ≡ now → Fitting d limit all before last n
  fitting_back k e = rw e k
