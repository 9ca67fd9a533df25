-- In arrays whose cells past the entries hold zeros, the entries can be read back, and a loop that writes the first cells of zeros leaves such an
-- array.
-- Assumes nothing.
use mathlib.Core.Path.{◌≡◌, sym, ap, ◌∙◌}
use mathlib.Core.List.{List, ◌++◌, map}
use Prim.Native.Nat.{ℕ, ◌-◌, ◌≤◌}
use lib.ListN.{take, length, replicate}
use lib.Seq.{take_at}
use lib.Ieee.{Float}
use Rattle.spec.specs.Limits.{max_dimension}
use Rattle.spec.specs.Lists.{range}
use Rattle.spec.specs.Float.{zero_f}
use Rattle.spec.specs.Matrix.{Vector}
use Rattle.laws.proofs.Lists.{length_table}
use Rattle.float.specs.Reading.{padded}
use Rattle.float.proofs.Written.{Written, whole, drop_replicate}

pub take-padded : (d : ℕ) (v r : Vector) → length v ≡ d → r ≡ padded v → take d r ≡ v
unfolding padded
take-padded d v r h e = ap (take d) e ∙ take_at v _ d h

pub padded_table : (g : ℕ → Float) (r : List Float) (i n : ℕ) → i ≤ n → n ≤ i → Written (λ x. x) g (replicate max_dimension zero_f) r i → r ≡ padded (map g (range 0 n))
unfolding padded
padded_table g r i n p q w =
    whole n p q w ∙ ap (λ (z : List Float). map g (range 0 n) ++ z) (drop_replicate n max_dimension zero_f ∙ ap (λ (k : ℕ). replicate (max_dimension - k) zero_f) (sym (length_table g n)))
