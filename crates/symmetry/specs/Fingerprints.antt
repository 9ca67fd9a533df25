-- A fingerprint is a number for each vertex set, by which most sets are told apart without listing them.
-- Assumes nothing.
use Rattle.std.specs.Prelude.{◌≡◌, Bool, List, [], ◌∷◌, map, ℕ, zero, suc, ◌+◌, ◌*◌, ◌≤◌, ◌<◌, length, get_or, eqb}
use Rattle.spec.specs.Lists.{distinct, place, holds, eq_list, every}
use Rattle.spec.specs.Types.{Solid, vertices, vertex_sets}
use Rattle.spec.specs.Search.{sorted}
use Rattle.ranked.specs.declared.Shape.{Shape}
use Rattle.ranked.specs.Words.{first_at, size_at, total, lists_of, abs_in, Held}
use Rattle.ranked.specs.Layout.{fingerprints_at}

-- The fingerprint of a list is the sum of its members' squares.
unfoldable pub fingerprint_of : List ℕ → ℕ
fingerprint_of [] = zero
fingerprint_of (v ∷ l) = v * v + fingerprint_of l

-- The number e is that of an element of the proper rank r.
pub record ProperElement (sh : Shape) (r e : ℕ) : Type 0 where
  pub above : 1 ≤ r
  pub under : r < sh.rank
  pub inside : e < size_at sh r

-- The words hold a solid and the fingerprints of its proper elements, which is what a look at vertex sets needs. The fingerprints of all ranks end
-- where those of a rank above the top would start.
pub record Fingerprinted (sh : Shape) (words : List ℕ) : Type 0 where
  pub held : Held sh (lists_of sh words)
  pub room : fingerprints_at sh (suc sh.rank) ≤ length words
  pub stand : (r e : ℕ) → ProperElement sh r e →
      get_or words (fingerprints_at sh r + e) 0 ≡ fingerprint_of (vertices (abs_in sh (lists_of sh words)) r e)

-- The fingerprints of the elements of the solid that the lists hold stand by the elements' numbers over all ranks.
pub record FingerprintsStand (sh : Shape) (lists prints : List ℕ) : Type 0 where
  pub room : total sh ≤ length prints
  pub stand : (r e : ℕ) → ProperElement sh r e → get_or prints (first_at sh r + e) 0 ≡ fingerprint_of (vertices (abs_in sh lists) r e)

-- Tells whether the images of e's vertices are the vertices of some element of its rank.
unfoldable pub example_goes : Solid → List ℕ → ℕ → ℕ → Bool
example_goes s row r e = holds eq_list (sorted (map (λ v. get_or row v 0) (vertices s r e))) (vertex_sets s r)

-- Tells whether this is so for the example of each type of the rank, whose elements have these types.
unfoldable pub rank_goes : Solid → List ℕ → List ℕ → ℕ → Bool
rank_goes s types row r = every (λ t. example_goes s row r (place eqb t types)) (distinct eqb types)
