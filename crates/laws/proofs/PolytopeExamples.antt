-- The theorems on order, chains and diamonds are applied to the square.
-- Assumes nothing.
use mathlib.Core.Path.{◌≡◌, refl}
use mathlib.Core.Logic.{inl}
use Prim.Native.Nat.{ℕ, ◌<◌}
use native.Mathlib.Omega.{arith}
use native.Mathlib.Decide.{dec_lt}
use mathlib.Core.Bool.{Bool, true}
use mathlib.Core.List.{List, [], ◌∷◌}
use lib.ListN.{length, get_or, get_or-eq_default}
use lib.Dec.{ltb}
use Rattle.spec.specs.Lists.{holds, range, keep, every}
use Rattle.spec.specs.Types.{Solid, subs, sups, proper_ranks}
use Rattle.spec.specs.Solid.{bound, between, diamond}
use Rattle.laws.specs.PolytopeLaws.{Filled}
use Rattle.laws.specs.PolytopeLaws.{OfSquare}
use Rattle.spec.specs.SolidExamples.{square, square-flags}
use Rattle.laws.proofs.Lists.{in_get_d}
use Rattle.laws.proofs.Marked.{lt_test, every_in}
use Rattle.laws.proofs.FlagList.{every_flag_once}
use Rattle.laws.proofs.Soundness.{square_sound}
use Rattle.laws.proofs.Chains.{every_maximal_chain}
use Rattle.laws.proofs.Polytope.{every-diamond}

some_sub : List ℕ → Bool
some_sub l = ltb 0 (length l)

is_filled : (a : List (List ℕ)) (s : Solid) → every (every some_sub) s ≡ true → Filled (a ∷ s)
unfolding subs some_sub
is_filled a s t r e h = go (dec_lt r (length s))
  where
    go : Dec (r < length s) → 0 < length (get_or (get_or s r []) e [])
    go (yes k) = lt_test 0 _ (every_in some_sub (get_or s r []) (every_in (every some_sub) s t (get_or s r []) (in_get_d [] s r k)) (get_or (get_or s r []) e []) (in_get_d [] (get_or s r []) e h))
    go (no k) = let z : get_or s r [] ≡ [] = get_or-eq_default s [] {n = r} (omega arith) in absurd (omega (arith, rw z at h))

square_filled : Filled square
unfolding some_sub every
square_filled = is_filled _ _ refl

pub of-square : OfSquare
unfolding bound diamond between proper_ranks sups subs holds range keep every
of-square = record {
  chain = ((every_maximal_chain square square_sound square_filled refl).flag (0 ∷ 0 ∷ 0 ∷ 0 ∷ [])).0 (((every_flag_once square square_sound).exact (0 ∷ 0 ∷ 0 ∷ 0 ∷ [])).0 (rw square-flags (inl refl)));
  diamonds = (every-diamond square square_sound).0 refl;
}
