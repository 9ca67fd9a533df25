-- Solids as lists are evaluated with distance classes that are given by hand: the square, the prism over a triangle, and the two smallest solids.
-- Assumes nothing.
use Rattle.std.specs.Prelude.{◌≡◌, refl, true, false, [], ◌∷◌, get_or, Some}
use Rattle.spec.specs.Lists.{distinct, renumber, count, holds, eq_list, range, keep, sum, without, place, join, every, no_repeats, in_order}
use Rattle.spec.specs.Mark.{image, goes, carries_element, marked}
use Rattle.spec.specs.Types.{reach, vertices, vertex_sets, Solid, Classes, subs, sups, proper_ranks, elements, type_count, start_at, start, key, keys, step, play, sweep_steps, sweep, settle, result, element_types_at, element_types}
use Rattle.spec.specs.Flags.{flags, flags_to}

abbrev pub alike : Classes
alike r e = 0

abbrev pub square : Solid
square =
    ([] ∷ [])
    ∷ ((0 ∷ []) ∷ (0 ∷ []) ∷ (0 ∷ []) ∷ (0 ∷ []) ∷ [])
    ∷ ((0 ∷ 1 ∷ []) ∷ (1 ∷ 2 ∷ []) ∷ (2 ∷ 3 ∷ []) ∷ (0 ∷ 3 ∷ []) ∷ [])
    ∷ ((0 ∷ 1 ∷ 2 ∷ 3 ∷ []) ∷ [])
    ∷ []

pub square-types : result square alike ≡ Some ((0 ∷ []) ∷ (0 ∷ 0 ∷ 0 ∷ 0 ∷ []) ∷ (0 ∷ 0 ∷ 0 ∷ 0 ∷ []) ∷ (0 ∷ []) ∷ [])
unfolding result settle sweep sweep_steps play step keys key start start_at type_count elements proper_ranks sups subs distinct renumber count holds eq_list range keep sum without place
square-types = refl

-- These are the square's eight flags, in which each edge's two vertices come in turn.
pub square-flags : flags square
    ≡ (0 ∷ 0 ∷ 0 ∷ 0 ∷ [])
    ∷ (0 ∷ 1 ∷ 0 ∷ 0 ∷ [])
    ∷ (0 ∷ 1 ∷ 1 ∷ 0 ∷ [])
    ∷ (0 ∷ 2 ∷ 1 ∷ 0 ∷ [])
    ∷ (0 ∷ 2 ∷ 2 ∷ 0 ∷ [])
    ∷ (0 ∷ 3 ∷ 2 ∷ 0 ∷ [])
    ∷ (0 ∷ 0 ∷ 3 ∷ 0 ∷ [])
    ∷ (0 ∷ 3 ∷ 3 ∷ 0 ∷ [])
    ∷ []
unfolding flags flags_to subs join
square-flags = refl

abbrev pub prism : Solid
prism =
    ([] ∷ [])
    ∷ ((0 ∷ []) ∷ (0 ∷ []) ∷ (0 ∷ []) ∷ (0 ∷ []) ∷ (0 ∷ []) ∷ (0 ∷ []) ∷ [])
    ∷ ((0 ∷ 1 ∷ []) ∷ (1 ∷ 2 ∷ []) ∷ (0 ∷ 2 ∷ []) ∷ (3 ∷ 4 ∷ []) ∷ (4 ∷ 5 ∷ []) ∷ (3 ∷ 5 ∷ []) ∷ (0 ∷ 3 ∷ []) ∷ (1 ∷ 4 ∷ []) ∷ (2 ∷ 5 ∷ []) ∷ [])
    ∷ ((0 ∷ 1 ∷ 2 ∷ []) ∷ (3 ∷ 4 ∷ 5 ∷ []) ∷ (0 ∷ 3 ∷ 6 ∷ 7 ∷ []) ∷ (1 ∷ 4 ∷ 7 ∷ 8 ∷ []) ∷ (2 ∷ 5 ∷ 6 ∷ 8 ∷ []) ∷ [])
    ∷ ((0 ∷ 1 ∷ 2 ∷ 3 ∷ 4 ∷ []) ∷ [])
    ∷ []

pub prism-types : result prism alike
    ≡ Some ((0 ∷ [])
    ∷ (0 ∷ 0 ∷ 0 ∷ 0 ∷ 0 ∷ 0 ∷ [])
    ∷ (0 ∷ 0 ∷ 0 ∷ 0 ∷ 0 ∷ 0 ∷ 1 ∷ 1 ∷ 1 ∷ [])
    ∷ (0 ∷ 0 ∷ 1 ∷ 1 ∷ 1 ∷ [])
    ∷ (0 ∷ [])
    ∷ [])
unfolding result settle sweep sweep_steps play step keys key start start_at type_count elements proper_ranks sups subs distinct renumber count holds eq_list range keep sum without place
prism-types = refl

-- On the square the mark decides: the quarter turn and a mirror pass, and a swap of two neighbours does not.
pub quarter : marked square alike (1 ∷ 2 ∷ 3 ∷ 0 ∷ []) ≡ true
unfolding marked carries_element goes image vertex_sets vertices reach in_order join no_repeats every proper_ranks subs holds eq_list range keep place
quarter = refl

pub mirror : marked square alike (1 ∷ 0 ∷ 3 ∷ 2 ∷ []) ≡ true
unfolding marked carries_element goes image vertex_sets vertices reach in_order join no_repeats every proper_ranks subs holds eq_list range keep place
mirror = refl

pub swap : marked square alike (1 ∷ 0 ∷ 2 ∷ 3 ∷ []) ≡ false
unfolding marked carries_element goes image vertex_sets vertices reach in_order join no_repeats every proper_ranks subs holds eq_list range keep place
swap = refl

pub turned-prism : marked prism alike (4 ∷ 3 ∷ 5 ∷ 1 ∷ 0 ∷ 2 ∷ []) ≡ true
unfolding marked carries_element goes image vertex_sets vertices reach in_order join no_repeats every proper_ranks subs holds eq_list range keep place
turned-prism = refl

-- This is what the square's types call gives out: two types, each with its rank, number, example and count.
pub square-element-types : element_types square ((0 ∷ []) ∷ (0 ∷ 0 ∷ 0 ∷ 0 ∷ []) ∷ (0 ∷ 0 ∷ 0 ∷ 0 ∷ []) ∷ (0 ∷ []) ∷ [])
    ≡ record { rank = 1; number = 0; example = 0; count = 4 } ∷ record { rank = 2; number = 0; example = 0; count = 4 } ∷ []
unfolding element_types element_types_at join proper_ranks distinct without count range place
square-element-types = refl

-- R = 0 and R = 1 have no proper element, and yet they have a result.
abbrev pub point : Solid
point = ([] ∷ []) ∷ []

abbrev pub dot : Solid
dot = ([] ∷ []) ∷ ((0 ∷ []) ∷ []) ∷ []

pub point-types : result point alike ≡ Some ((0 ∷ []) ∷ [])
unfolding result settle sweep sweep_steps play step keys key start start_at type_count elements proper_ranks sups subs distinct renumber count holds eq_list range keep sum without place
point-types = refl

pub dot-types : result dot alike ≡ Some ((0 ∷ []) ∷ (0 ∷ []) ∷ [])
unfolding result settle sweep sweep_steps play step keys key start start_at type_count elements proper_ranks sups subs distinct renumber count holds eq_list range keep sum without place
dot-types = refl

-- These are the rectangle, whose edges lie at two distances, and the rhombus, whose corners do.
abbrev pub sides : Classes
sides r e = get_or (get_or ([] ∷ [] ∷ (5 ∷ 9 ∷ 5 ∷ 9 ∷ []) ∷ []) r []) e 0

abbrev pub corners : Classes
corners r e = get_or (get_or ([] ∷ (9 ∷ 5 ∷ 9 ∷ 5 ∷ []) ∷ []) r []) e 0

pub rectangle_types : result square sides ≡ Some ((0 ∷ []) ∷ (0 ∷ 0 ∷ 0 ∷ 0 ∷ []) ∷ (0 ∷ 1 ∷ 0 ∷ 1 ∷ []) ∷ (0 ∷ []) ∷ [])
unfolding result settle sweep sweep_steps play step keys key start start_at type_count elements proper_ranks sups subs distinct renumber count holds eq_list range keep sum without place
rectangle_types = refl

pub rhombus-types : result square corners ≡ Some ((0 ∷ []) ∷ (0 ∷ 1 ∷ 0 ∷ 1 ∷ []) ∷ (0 ∷ 0 ∷ 0 ∷ 0 ∷ []) ∷ (0 ∷ []) ∷ [])
unfolding result settle sweep sweep_steps play step keys key start start_at type_count elements proper_ranks sups subs distinct renumber count holds eq_list range keep sum without place
rhombus-types = refl
