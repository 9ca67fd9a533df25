-- This file follows the rounds of changes and the vertices that they give.
-- Assumes nothing.
use mathlib.Core.Path.{◌≡◌, refl, sym, ap, ◌∙◌}
use mathlib.Core.Bool.{true}
use mathlib.Core.List.{List, [], ◌∷◌, map}
use Prim.Native.Nat.{ℕ, zero, suc, ◌+◌, ◌-◌, ◌*◌, ◌≤◌, ◌<◌}
use native.Mathlib.Numerals.{add-one}
use native.Mathlib.Omega.{arith}
use lib.ListN.{length, get_or, set, take, drop}
use lib.Seq.{get_or-take}
use lib.Ieee.{Float}
use Rattle.spec.specs.Lists.{range}
use Rattle.spec.specs.Types.{Solid, top, proper_ranks}
use Rattle.spec.specs.Demand.{Sound}
use Rattle.spec.specs.Solid.{Concrete, diamond}
use Rattle.spec.specs.Matrix.{columns}
use Rattle.spec.specs.Flags.{Flag, IsFlag, element_at, change}
use Rattle.spec.specs.Classes.{point_of}
use Rattle.spec.specs.Search.{changes, walk, flag_columns}
use Rattle.laws.proofs.FlagChange.{every-change}
use Rattle.laws.proofs.Lists.{map-map}
use Rattle.matrix.specs.Reading.{leading, corner}
use Rattle.float.proofs.Written.{Written, none, next, end}
use Rattle.points.proofs.Parts.{part_at, parts-take}
use Rattle.ranked.specs.declared.Shape.{Shape}
use Rattle.ranked.specs.Words.{size_at, abs_in, Held}
use Rattle.ranked.specs.Layout.{solid_on}
use Rattle.flag.proofs.Flags.{flag_in_lem}
use Rattle.symmetry.specs.Post.{Turned}

-- ---- a round

-- Ranks 1 to r - 1 are changed, and what is left gives what the whole gives.
pub record Turning (s : Solid) (F G : Flag) (r : ℕ) : Type 0 where
  pub low : 1 ≤ r
  pub high : r ≤ top s
  pub left : changes s (range r (top s - r)) G ≡ changes s (proper_ranks s) F
  pub flag : IsFlag s G

module _ (s : Solid) (F : Flag) where
  pub turn_first : IsFlag s F → 1 ≤ top s → Turning s F F 1
  unfolding proper_ranks
  turn_first f h = record { low = omega arith; high = h; left = refl; flag = f }

  module _ (G : Flag) (r : ℕ) (t : Turning s F G r) where
    pub turn_next : Sound s → diamond s ≡ true → r < top s → (H : Flag) → H ≡ change s r G → Turning s F H (r + 1)
    unfolding changes range
    turn_next ok d h H e =
        let k : top s - r ≡ suc (top s - suc r) = omega arith in
        rw (add-one r, e) (record {
          low = omega arith;
          high = h;
          left = rw k at t.left;
          flag = (every-change s ok d r (t.low, h) G t.flag).flag;
        })

    pub turn_end : top s ≤ r → Turned s F G
    unfolding changes range
    turn_end h = let k : top s - r ≡ 0 = omega arith in record { is = rw k at t.left; flag = t.flag }

-- ---- the vertices

-- This is what F becomes after n rounds.
unfoldable pub rounds : Solid → ℕ → Flag → Flag
rounds s zero F = F
rounds s (suc n) F = changes s (proper_ranks s) (rounds s n F)

walk_from : (s : Solid) (F : Flag) (n k : ℕ) → walk s n (rounds s k F) ≡ map (λ i. element_at (rounds s i F) 1) (range k n)
unfolding walk range rounds
walk_from s F zero k = refl
walk_from s F (suc n) k = ap (λ (l : List ℕ). element_at (rounds s k F) 1 ∷ l) (walk_from s F n (suc k))

-- ---- the columns

-- The flag G is F after i - 1 rounds, and the first i rows hold the vertices so far.
pub record Walking (sh : Shape) (w : List ℕ) (fl : List Float) (F G : Flag) (old rows : List (List Float)) (i : ℕ) : Type 0 where
  pub low : 1 ≤ i
  pub high : 0 < sh.dimension → i ≤ sh.dimension
  pub flag : IsFlag (abs_in sh w) G
  pub at : G ≡ rounds (abs_in sh w) (i - 1) F
  pub written : Written (take sh.dimension) (λ j. point_of (solid_on sh w fl) (element_at (rounds (abs_in sh w) j F) 1)) old rows i

module _ (sh : Shape) (w : List ℕ) (fl : List Float) (h : Held sh w) (one : 1 ≤ sh.rank) where
  abbrev d : ℕ
  d = sh.dimension

  abbrev c : Concrete
  c = solid_on sh w fl

  module _ (els : List ℕ) (f : IsFlag (abs_in sh w) (take (suc sh.rank) els)) where
    pub vertex : get_or els 1 0 < size_at sh 1
    vertex = flag_in_lem sh w h els f 1 one

    point_is : (x : List Float) → take d x ≡ take d (drop (get_or els 1 0 * d) fl) → take d x ≡ point_of c (element_at (take (suc sh.rank) els) 1)
    unfolding point_of
    point_is x e =
        e ∙ sym (ap (λ (ps : List (List Float)). get_or ps (get_or els 1 0) []) (parts-take (size_at sh 1) d fl) ∙ part_at (size_at sh 1) d fl (get_or els 1 0) vertex)
        ∙ ap (point_of c) (sym (get_or-take (suc sh.rank) els 1 0 (omega arith)))

    pub walk_first : (zeros : List (List Float)) → 0 < length zeros → (x : List Float) → take d x ≡ take d (drop (get_or els 1 0 * d) fl)
        → Walking sh w fl (take (suc sh.rank) els) (take (suc sh.rank) els) (set zeros 0 x) (set zeros 0 x) 1
    unfolding rounds
    walk_first zeros k x e =
        let t = next {f = take d} {g = λ j. point_of c (element_at (rounds (abs_in sh w) j (take (suc sh.rank) els)) 1)} {l = zeros} x k (point_is x e) none in
        record { low = omega arith; high = λ p. p; flag = f; at = refl; written = record { long = refl; read = t.read; rest = refl } }

    pub walk-next : (F G : Flag) (old rows : List (List Float)) (i : ℕ) → Walking sh w fl F G old rows i → i < d → i < length old
        → Turned (abs_in sh w) G (take (suc sh.rank) els) → (x : List Float) → take d x ≡ take d (drop (get_or els 1 0 * d) fl)
        → Walking sh w fl F (take (suc sh.rank) els) old (set rows i x) (i + 1)
    unfolding rounds
    walk-next F G old rows zero t p q u x e = absurd (omega (arith, t.low))
    walk-next F G old rows (suc i) t p q u x e =
        let back : suc i - 1 ≡ i = omega arith in
        let a : take (suc sh.rank) els ≡ rounds (abs_in sh w) (suc i) F = u.is ∙ ap (changes (abs_in sh w) (proper_ranks (abs_in sh w))) (rw back at t.at) in
        let on : suc i + 1 - 1 ≡ suc i = omega arith in
        record {
          low = omega arith;
          high = λ _. omega arith;
          flag = u.flag;
          at = rw on a;
          written = next x q (point_is x e ∙ ap (λ (H : Flag). point_of c (element_at H 1)) a) t.written;
        }

  pub walk_end : (F G : Flag) (old rows : List (List Float)) (i : ℕ) → Walking sh w fl F G old rows i → d ≤ i → corner d rows ≡ map (point_of c) (walk (abs_in sh w) d F)
  unfolding corner leading rounds range
  walk_end F G old rows i t p =
      go d t.high p
      ∙ sym (map-map (λ j. element_at (rounds (abs_in sh w) j F) 1) (point_of c) (range 0 d))
      ∙ ap (map (point_of c)) (sym (walk_from (abs_in sh w) F d 0))
    where
      go : (n : ℕ) → (0 < n → i ≤ n) → n ≤ i → map (take d) (take n rows) ≡ map (λ j. point_of c (element_at (rounds (abs_in sh w) j F) 1)) (range 0 n)
      go zero a b = refl
      go (suc n) a b = end (suc n) (a (omega arith)) b t.written

  pub columns_are : (F G : Flag) (old rows res : List (List Float)) (i : ℕ) → Walking sh w fl F G old rows i → d ≤ i → corner d res ≡ columns (corner d rows)
      → corner d res ≡ flag_columns c F
  unfolding flag_columns
  columns_are F G old rows res i t p e = e ∙ ap columns (walk_end F G old rows i t p)
