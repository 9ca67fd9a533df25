-- Solids of rank 0 or 1: they have no proper rank, so preflight asks nothing of them but its least workspace, the types call gives out nothing, and a
-- search refuses them. And what `kit` prints for them, and for an input that is too long.
-- Assumes nothing.
use Rattle.std.specs.Prelude.{Err, None, Ok, Option, Some}
use mathlib.Core.Path.{◌≡◌, refl, ap}
use mathlib.Core.Logic.{◌≢◌, inl}
use Prim.Native.Nat.{ℕ, zero, suc, ◌+◌, ◌-◌, ◌*◌, ◌/◌, ◌%◌, ◌≤◌, ◌<◌}
use mathlib.Core.Bool.{Bool, true}
use mathlib.Core.List.{List, [], ◌∷◌, map, append-nil}
use native.Mathlib.Omega.{arith}
use lib.ListN.{length, get_or, length-append, get_or-eq_default}
use lib.Ieee.{Float, binary64, to_bits}
use borrow.Author.Tests.{lt-ltb, le-ltb, le-leb, lt-leb}
use Rattle.spec.specs.Limits.{max_dimension}
use Rattle.spec.specs.declared.Refusal.TheVariants.{NotFull}
use Rattle.spec.specs.Lists.{In, range, every, sum, join, written}
use Rattle.spec.specs.Types.{Solid, State, types_at, top, size, proper_ranks, elements, given, element_types_at, element_types}
use Rattle.spec.specs.Judged as Judging
use Rattle.spec.specs.Sheet.{Parsed, vertex_count, read_sheet}
use Rattle.spec.specs.Pack.{bits_of, point_bits, rank_bits, pack_bits}
use Rattle.spec.specs.Solid.{Concrete, solid_of, entries, roomy, bound, diamond, preflight}
use Rattle.spec.specs.Classes.{types_of}
use Rattle.spec.specs.Search.{full, setting, search}
use Rattle.spec.specs.Calls.{types_given, types_written, types_call, outcome, members_in, rotations_in, search_written, search_call, rotations_call}
use Rattle.spec.specs.Ascii.{ascii}
use Rattle.spec.specs.KitText.{digits, decimal, refused_line, types_lines, last_line, element_cells, type_records, work_words, work_floats, longest, after_types, kit_text}
use Rattle.laws.specs.CallLaws.{NoProperRank, EveryLowSheet}
use Rattle.laws.specs.KitLaws.{KitLaws}
use Rattle.laws.proofs.Accepted.{read-rank}
use Rattle.laws.proofs.NeverUnsettled.{never_unsettled}
use Rattle.laws.proofs.SheetBits.{sheet_reads}
use Rattle.laws.proofs.RoundTrip.{holds-length, sheet-of}

-- ---- a solid without proper ranks

none_fails : (t : ℕ → Bool) (l : List ℕ) → l ≡ [] → every t l ≡ true
unfolding every
none_fails t l e = rw e refl

module _ (s : Solid) (low : top s < 2) where
  none_below : top s - 1 ≡ 0
  none_below = omega arith

  none-listed : top s - 2 ≡ 0
  none-listed = omega arith

  no_proper : proper_ranks s ≡ []
  unfolding proper_ranks range
  no_proper = ap (range 1) none_below

  no_elements : elements s ≡ 0
  unfolding elements sum
  no_elements = ap (λ (rs : List ℕ). sum (map (λ r. size s r) rs)) no_proper

  no_entries : entries s ≡ 0
  unfolding entries sum range
  no_entries = ap (λ (n : ℕ). sum (map (λ r. sum (map length (get_or s r []))) (range 2 n))) none-listed

  least-room : (words floats : ℕ) → 64 ≤ words → 64 ≤ floats → roomy s words floats ≡ true
  unfolding roomy
  least-room words floats w f = rw (no_elements, no_entries, le-leb 64 words w, le-leb 64 floats f) refl

  all-bound : bound s ≡ true
  unfolding bound range
  all-bound = none_fails _ (range 1 (top s - 2)) (ap (range 1) none-listed)

  all_diamonds : diamond s ≡ true
  unfolding diamond
  all_diamonds = none_fails _ (proper_ranks s) no_proper

  no_element-types : (z : State) → given s z ≡ []
  unfolding given join
  no_element-types z = ap (λ (rs : List ℕ). join (map (types_at z) rs)) no_proper

  no_types-listed : (z : State) → element_types s z ≡ []
  unfolding element_types join
  no_types-listed z = ap (λ (rs : List ℕ). join (map (element_types_at z) rs)) no_proper

-- ---- the calls

module _ (b : List ℕ) (p : Parsed) (e : read_sheet b ≡ Ok p) (h : p.rank < 2) where
  solid : Concrete
  solid = record { dimension = p.dimension; points = p.points; abs = solid_of p }

  low : top (solid_of p) < 2
  low = omega (arith, read-rank b p e)

  module _ (words floats : ℕ) (w : 64 ≤ words) (f : 64 ≤ floats) where
    accepted : preflight b words floats ≡ Ok solid
    unfolding preflight Judging.◌>>=◌ Judging.◌>>◌ Judging.judge solid
    accepted = rw (e, least-room (solid_of p) low words floats w f, all-bound (solid_of p) low, all_diamonds (solid_of p) low) refl

    settled : (z : State) × (types_of solid ≡ Some z)
    settled = go (types_of solid) (never_unsettled.types solid)
      where
        go : (o : Option State) → o ≢ None → (z : State) × (o ≡ Some z)
        go None k = absurd (k refl)
        go (Some z) k = (z, refl)

    no_types : (n m : ℕ) → types_given b words floats n m ≡ Ok (record { elements = []; types = [] })
    unfolding types_given Judging.◌>>=◌ Judging.◌>>◌ Judging.judge Judging.wanted solid
    no_types n m =
        let z = settled.0 in
        let s = solid_of p in
        rw (accepted, settled.1, no_element-types s low z, no_types-listed s low z, le-leb 0 n (omega arith), le-leb 0 m (omega arith)) refl

    not_full : members_in b words floats ≡ Err NotFull
    unfolding members_in search setting full Judging.◌>>=◌ Judging.◌>>◌ Judging.judge solid
    not_full = rw (accepted, lt-leb 2 (top (solid_of p)) low) refl

    no_rotations : rotations_in b words floats ≡ Err NotFull
    unfolding rotations_in Judging.◌>>=◌
    no_rotations = rw not_full refl

    no_proper-rank : NoProperRank b words floats
    unfolding types_call types_written search_call rotations_call search_written outcome written join
    no_proper-rank = record {
      types = λ old. rw (no_types (length old.elements) (length old.types)) refl;
      search = λ old. rw not_full refl;
      rotations = λ old. rw no_rotations refl;
    }

pub every-low-sheet : EveryLowSheet
every-low-sheet b p e h words floats w f = no_proper-rank b p e h words floats w f

-- ---- such a sheet is short: it has six bits, and at most one vertex's coordinates

bits-length : (w n : ℕ) → length (bits_of w n) ≡ w
unfolding bits_of
bits-length zero n = refl
bits-length (suc w) n = let h = bits-length w (n / 2) in rw (length-append (bits_of w (n / 2)) (n % 2 ∷ [])) (omega arith)

point-length : (v : List Float) → length (point_bits v) ≡ 64 * length v
unfolding point_bits join
point-length [] = refl
point-length (x ∷ v) =
    let h = point-length v in
    let k = bits-length 64 (to_bits binary64 x) in
    rw (length-append (bits_of 64 (to_bits binary64 x)) (join (map (λ x. bits_of 64 (to_bits binary64 x)) v))) (omega arith)

-- Where there are no elements, there are no bits.
no_bits : {A : Type 0} (f : A → List ℕ) (l : List A) → length l ≡ 0 → length (join (map f l)) ≡ 0
unfolding join
no_bits f [] e = refl
no_bits f (x ∷ l) e = absurd (omega arith)

-- There is at most one point, of d coordinates.
few_bits : (d : ℕ) (vs : List (List Float)) → length vs < 2 → ((v : List Float) → In v vs → length v ≡ d) → length (join (map point_bits vs)) ≤ 64 * d
unfolding join
few_bits d [] k f = omega arith
few_bits d (v ∷ []) k f = rw (append-nil, point-length v, f v (inl refl)) (omega arith)
few_bits d (v ∷ u ∷ vs) k f = absurd (omega arith)

few_bytes : (b : List ℕ) (p : Parsed) → read_sheet b ≡ Ok p → p.rank < 2 → length b ≤ 8 * max_dimension + 1
unfolding pack_bits vertex_count
few_bytes b p e h =
    let s = sheet-of b p e in
    let r = sheet_reads b (p, s.0) s.1 in
    let a = r.0 in
    let None : length p.counts ≡ 0 = omega (arith, a.counted) in
    let one : length p.points < 2 = omega (arith, a.pointed, get_or-eq_default p.counts p.rank {n = 0} (omega arith)) in
    let total : length (pack_bits p) ≤ 6 + 64 * p.dimension =
    simp length-append
    (omega (
      arith,
      bits-length 3 p.rank,
      bits-length 3 p.dimension,
      no_bits (bits_of 12) p.counts None,
      few_bits p.dimension p.points one (λ v i. (a.points v i).wide),
      no_bits rank_bits p.lists (omega (arith, a.listed)),
    ))
    in
    omega (arith, holds-length b (pack_bits p) 0 s.0 r.1, r.2.short, a.wide)

-- ---- what `kit` prints

pub kit_laws : KitLaws
unfolding kit_text after_types refused_line types_lines last_line outcome decimal digits join ascii
kit_laws = record {
  long = λ b h. rw (lt-ltb longest (length b) h, kit_text) refl;
  low = λ b p e r. rw (le-ltb longest (length b) (omega (arith, few_bytes b p e r)), kit_text, no_types b p e r work_words work_floats (omega arith) (omega arith) element_cells type_records, not_full b p e r work_words work_floats (omega arith) (omega arith)) refl;
}
