-- These are statements about section 4: the numbers after any list of steps, what the start and each step do, what the types call gives out, and that
-- refusal 15 never comes.
-- Assumes nothing.
use Rattle.std.specs.Prelude.{◌≡◌, ◌≢◌, ◌⊎◌, ◌↔◌, ℕ, ◌<◌, List, map, eqb, Float, Err, None, Some}
use Rattle.spec.specs.declared.Refusal.TheVariants.{Unsettled}
use Rattle.spec.specs.Refusal.{Answer, refused_with}
use Rattle.spec.specs.Lists.{In, count, range, sum, join}
use Rattle.spec.specs.Types.{Solid, top, size, proper_ranks, Classes, State, types_at, type_of, in_use, Numbered, start, Step, at, next, neighbours, step, play, result, ElementType, element_types_at, element_types}
use Rattle.spec.specs.Demand.{Proper, AllProper}
use Rattle.spec.specs.Solid.{Concrete}
use Rattle.spec.specs.Classes.{types_of}
use Rattle.spec.specs.Copying.{copy_call}
use Rattle.spec.specs.Search.{setting}
use Rattle.spec.specs.Calls.{TypesOut, types_call, SearchOut, search_call, rotations_call}

-- ---- the start, and one step

-- Counts the neighbours of type t that the step x finds at e.
unfoldable pub of_type : Solid → State → Step → ℕ → ℕ → ℕ
of_type s S x t e = count eqb t (map (type_of S (next x)) (neighbours s x e))

-- This is what the step x does to the state S.
pub record Stepped (s : Solid) (S : State) (x : Step) : Type 0 where
  -- The step tells apart exactly what section 4 says: "two elements there still share a type exactly when they shared one and, for every type of rank
  -- r−1, have as many subs of it. Step down: the same with sups and rank r+1".
  pub share : (e f : ℕ) → e < size s (at x) → f < size s (at x)
      → (type_of (step s S x) (at x) e ≡ type_of (step s S x) (at x) f)
      ↔ ((type_of S (at x) e ≡ type_of S (at x) f) × ((t : ℕ) → In t (types_at S (next x)) → of_type s S x t e ≡ of_type s S x t f))
  -- "Other ranks keep theirs."
  pub others : (r : ℕ) → r ≢ at x → types_at (step s S x) r ≡ types_at S r

pub record StepLaws (s : Solid) (cls : Classes) : Type 0 where
  -- "Start: elements of a proper rank share a type exactly when they share a distance class."
  pub at-start : (r e f : ℕ) → Proper s r → e < size s r → f < size s r → (type_of (start s cls) r e ≡ type_of (start s cls) r f) ↔ (cls r e ≡ cls r f)
  -- After any list of steps at proper ranks, one more step at a proper rank does what section 4 says.
  pub stepped : (xs : List Step) → AllProper s xs → (x : Step) → Proper s (at x) → Stepped s (play s (start s cls) xs) x
  -- It stays true that "ranks 0 and R have type 0 only".
  pub improper : (xs : List Step) → AllProper s xs → (r e : ℕ) → (r ≡ 0) ⊎ (r ≡ top s) → e < size s r → type_of (play s (start s cls) xs) r e ≡ 0

abbrev pub EveryStepLaw : Type 0
EveryStepLaw = (s : Solid) (cls : Classes) → StepLaws s cls

-- ---- what is given out

-- The types call gives "for each type its example (lowest element) and count".
pub record Described (s : Solid) (z : State) (r : ℕ) (k : ElementType) : Type 0 where
  pub rank : k.rank ≡ r
  pub there : k.example < size s r
  pub example : type_of z r k.example ≡ k.number
  pub lowest : (e : ℕ) → e < k.example → type_of z r e ≢ k.number
  pub counted : k.count ≡ count eqb k.number (types_at z r)

-- This is what holds of the types that are given out for one rank.
pub record RankLaws (s : Solid) (z : State) (r : ℕ) : Type 0 where
  pub numbered : Numbered s z r
  -- They are exactly the types in use, in order.
  pub numbers : map (λ k. k.number) (element_types_at z r) ≡ range 0 (in_use z r)
  pub described : (k : ElementType) → In k (element_types_at z r) → Described s z r k
  -- The "counts add up to the rank's size".
  pub sums : sum (map (λ k. k.count) (element_types_at z r)) ≡ size s r

pub record TypeLaws : Type 0 where
  -- The numbers are so after any list of steps, and "at the start too", which is the case of the empty list.
  pub steps : (s : Solid) (cls : Classes) (xs : List Step) → AllProper s xs → (r : ℕ) → Numbered s (play s (start s cls) xs) r
  -- The types given out at each rank obey these laws, where z is the result of any solid.
  pub ranks : (c : Concrete) (z : State) → types_of c ≡ Some z → (r : ℕ) → RankLaws c.abs z r
  -- Over the proper ranks, the rank and number of each type given out rise.
  pub listed : (c : Concrete) (z : State) → types_of c ≡ Some z
      → map {B = ℕ × ℕ} (λ k. (k.rank, k.number)) (element_types c.abs z) ≡ join (map (λ r. map (λ t. (r, t)) (range 0 (in_use z r))) (proper_ranks c.abs))

-- ---- refusal 15

-- The answer is not refusal 15.
abbrev pub NotUnsettled : Answer → Type 0
NotUnsettled a = (k : ℕ) → a ≢ refused_with Unsettled k

-- Refusal 15, "E + 2 sweeps done, still changing", never comes. The sweeps of every solid end in time, whatever its distance classes are. So both the
-- solid of a sheet and the solid that search makes of it by exchanging facets have types, and no call answers 15.
pub record NeverUnsettled : Type 0 where
  pub settles : (s : Solid) (cls : Classes) → result s cls ≢ None
  pub types : (c : Concrete) → types_of c ≢ None
  pub searching : (c : Concrete) → setting c ≢ Err Unsettled
  pub types-call : (b : List ℕ) (words floats : ℕ) (old : TypesOut) → NotUnsettled (types_call b words floats old).0
  pub search-call : (b : List ℕ) (words floats : ℕ) (old : SearchOut) → NotUnsettled (search_call b words floats old).0
  pub rotations-call : (b : List ℕ) (words floats : ℕ) (old : SearchOut) → NotUnsettled (rotations_call b words floats old).0
  pub copy-call : (d : ℕ) (ps ts out_points : List Float) (out_table : List ℕ) → NotUnsettled (copy_call d ps ts out_points out_table).0
