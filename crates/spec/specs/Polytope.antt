-- Solids in the terms of McMullen and Schulte (Abstract Regular Polytopes, section 2A), who decide what flags and the diamond are: the order of a solid's
-- elements, its maximal chains, and the two elements between any two whose ranks differ by two. Each is said here as the book says it, and the theorems of
-- crate `laws` tie it to the list or to the test that the calls go by.
-- The book counts ranks from -1, which is the rank of the least element; here they count from 0. Document 01 does not ask for the book's property P3, that a
-- polytope is strongly connected, so compounds pass and no statement here speaks of it.
-- Assumes nothing.
use Rattle.std.specs.Prelude.{◌≡◌, ◌≢◌, ◌⊎◌, ◌↔◌, ℕ, suc, ◌≤◌, ◌<◌, List, [], ◌∷◌, map, length}
use Rattle.spec.specs.Lists.{In, range}
use Rattle.spec.specs.Types.{Solid, top, size, subs}
use Rattle.spec.specs.Flags.{Flag, element_at, flags, IsFlag}

-- ---- the order

-- An element, which the book calls a face, is given by its rank and its number in that rank.
pub record Element : Type 0 where
  pub rank : ℕ
  pub number : ℕ

abbrev pub element : ℕ → ℕ → Element
element r e = record { rank = r; number = e }

-- F is an element of the solid s.
abbrev pub IsElement : Solid → Element → Type 0
IsElement s F = (F.rank ≤ top s) × (F.number < size s F.rank)

-- F is a sub of G.
abbrev pub IsSub : Solid → Element → Element → Type 0
IsSub s F G = (G.rank ≡ suc F.rank) × In F.number (subs s G.rank G.number)

-- F ≤ G is the reflexive and transitive closure of "is a sub of".
pub data AtMost (s : Solid) (F : Element) : Element → Type 0 where
  itself : AtMost s F F
  over : {G H : Element} → AtMost s F G → IsSub s G H → AtMost s F H

-- F < G means that F ≤ G and that they are not the same element.
abbrev pub Below : Solid → Element → Element → Type 0
Below s F G = AtMost s F G × (F ≢ G)

-- F and G are comparable: F ≤ G or G ≤ F.
abbrev pub Comparable : Solid → Element → Element → Type 0
Comparable s F G = AtMost s F G ⊎ AtMost s G F

abbrev pub least_element : Element
least_element = element 0 0

abbrev pub top_element : Solid → Element
top_element s = element (top s) 0

-- The elements are a partially ordered set, and ranks rise along the order. P1 holds, too: there is a least element and a greatest element.
pub record Ordered (s : Solid) : Type 0 where
  pub reflexive : (F : Element) → AtMost s F F
  pub transitive : (F G H : Element) → AtMost s F G → AtMost s G H → AtMost s F H
  pub antisymmetric : (F G : Element) → AtMost s F G → AtMost s G F → F ≡ G
  -- Ranks rise strictly along the order.
  pub ranks : (F G : Element) → Below s F G → F.rank < G.rank
  -- Whatever is at most an element of s is an element of s.
  pub closed : (F G : Element) → IsElement s G → AtMost s F G → IsElement s F
  pub least : IsElement s least_element × ((F : Element) → IsElement s F → AtMost s least_element F)
  pub greatest : IsElement s (top_element s) × ((F : Element) → IsElement s F → AtMost s F (top_element s))

-- ---- chains

-- By "a chain" the book means a set of elements of which any two are comparable. A list stands for the set of its members, so neither their order nor
-- repeats matter.
pub record IsChain (s : Solid) (C : List Element) : Type 0 where
  pub elements : (F : Element) → In F C → IsElement s F
  pub comparable : (F G : Element) → In F C → In G C → Comparable s F G

-- Every member of C is a member of D.
abbrev pub Within : List Element → List Element → Type 0
Within C D = (F : Element) → In F C → In F D

-- By "a maximal chain" the book means one that is contained in no larger chain.
pub record IsMaximal (s : Solid) (C : List Element) : Type 0 where
  pub chain : IsChain s C
  pub largest : (D : List Element) → IsChain s D → Within C D → Within D C

-- C and D stand for the same set.
abbrev pub SameSet : List Element → List Element → Type 0
SameSet C D = Within C D × Within D C

-- No element stands twice in C.
abbrev pub NoneTwice : List Element → Type 0
NoneTwice [] = Unit {0}
NoneTwice (F ∷ C) = (¬ In F C) × NoneTwice C

-- These are the elements of a flag, one of each rank that it has.
unfoldable pub elements_of : Flag → List Element
elements_of F = map (λ r. element r (element_at F r)) (range 0 (length F))

-- The flags of the book are the maximal chains, and those are the flags of section 5.
pub record MaximalChains (s : Solid) : Type 0 where
  -- A chain is maximal exactly when every element that is comparable with all of its members is a member.
  pub saturated : (C : List Element) → IsMaximal s C
      ↔ (IsChain s C × ((F : Element) → IsElement s F → ((G : Element) → In G C → Comparable s F G) → In F C))
  -- A list of one element for each rank is a flag exactly when its elements are a maximal chain.
  pub flag : (F : Flag) → IsFlag s F ↔ IsMaximal s (elements_of F)
  -- The maximal chains are exactly the sets of elements of flags, and so of the listed flags.
  pub exact : (C : List Element) → IsMaximal s C ↔ ((F : Flag) × IsFlag s F × SameSet C (elements_of F))
  pub listed : (C : List Element) → IsMaximal s C ↔ ((F : Flag) × In F (flags s) × SameSet C (elements_of F))
  -- No two flags have the same elements, so each maximal chain belongs to one flag.
  pub only : (F G : Flag) → IsFlag s F → IsFlag s G → SameSet (elements_of F) (elements_of G) → F ≡ G
  -- P2: every maximal chain has as many elements as there are ranks, exactly one of each.
  pub one_each : (C : List Element) → IsMaximal s C → (r : ℕ) → r ≤ top s → (e : ℕ) × In (element r e) C × ((f : ℕ) → In (element r f) C → f ≡ e)
  pub as_many : (C : List Element) → IsMaximal s C → NoneTwice C → length C ≡ suc (top s)

-- ---- the diamond

-- Exactly two elements have the property P.
pub record ExactlyTwo (P : Element → Type 0) : Type 0 where
  pub first : Element
  pub second : Element
  pub differ : first ≢ second
  pub first_has : P first
  pub second_has : P second
  pub no_other : (H : Element) → P H → (H ≡ first) ⊎ (H ≡ second)

-- H is strictly between F and G: F < H < G.
abbrev pub Between : Solid → Element → Element → Element → Type 0
Between s F G H = Below s F H × Below s H G

-- P4: if F < G and their ranks differ by two, there are exactly two elements H with F < H < G.
abbrev pub Diamonds : Solid → Type 0
Diamonds s = (F G : Element) → IsElement s F → IsElement s G → Below s F G → G.rank ≡ suc (suc F.rank) → ExactlyTwo (Between s F G)

-- These are the book's properties of a polytope, except P3.
pub record Polytope (s : Solid) : Type 0 where
  pub order : Ordered s
  pub chains : MaximalChains s
  pub diamonds : Diamonds s
