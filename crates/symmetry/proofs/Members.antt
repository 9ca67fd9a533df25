-- In the loop over the flags, this is what stands before each flag, and what trying it makes of that.
-- Assumes nothing.
use Rattle.std.specs.Prelude.{Option, None, Some, Ok, Err}
use mathlib.Core.Path.{◌≡◌, refl, sym, subst, ◌∙◌}
use mathlib.Core.Logic.{◌⊎◌, inl, inr}
use mathlib.Core.List.{List, ◌∷◌}
use Prim.Native.Nat.{ℕ, ◌+◌, ◌-◌, ◌*◌, ◌≤◌}
use native.Mathlib.Numerals.{add-one}
use lib.ListN.{length}
use lib.Ieee.{Float}
use borrow.Rule.Slice.PartMut.{mid_of, put_mid}
use Rattle.spec.specs.Types.{Solid}
use Rattle.spec.specs.Solid.{Concrete}
use Rattle.spec.specs.Search.{Setting}
use Rattle.spec.specs.Calls.{Room}
use Rattle.spec.specs.Flags.{Flag, IsFlag, flags}
use Rattle.laws.proofs.Shapes.{SettingFit}
use Rattle.matrix.proofs.Corner.{length-corner}
use Rattle.ranked.specs.Words.{size_at, lists_of}
use Rattle.ranked.specs.Layout.{abstract_in}
use Rattle.flag.specs.Reading.{flag_in, Follows}
use Rattle.flag.proofs.Numbered.{nth_first, nth_flag}
use Rattle.symmetry.specs.declared.listing.Search.{Search}
use Rattle.symmetry.specs.declared.listing.Tried.{Tried}
use Rattle.symmetry.specs.declared.listing.Tried.TheVariants.{Skipped, Added, Short}
use Rattle.symmetry.specs.Tails.{setting_of}
use Rattle.symmetry.specs.Listing.{gives, Came}
use Rattle.symmetry.specs.Searching.{setting_in, room_for}
use Rattle.symmetry.specs.Tried.{searched_in, AllTried}
use Rattle.symmetry.proofs.Bounds.{points-many}
use Rattle.symmetry.proofs.Going.{Going, going_first, floats_in, entries_in, Then, after}
use Rattle.symmetry.proofs.Ends.{all_listed, short_listed}
use Rattle.symmetry.proofs.Turning.{FlagsFrom, flags-first, flags-end, later, flags-at, flags-next}

abbrev setting : Search → Concrete → Setting
setting x c = setting_in x.prepared.shape x.prepared.words.now x.prepared.floats.now x.inverse c

-- The flags Fs are to come, n members are listed, and the outputs ms and rs are ms' and rs' now. A row has v entries.
abbrev pub Tally : Search → ℕ → ℕ → List Float → List Float → List ℕ → List ℕ → ℕ → List Flag → Type 0
Tally x room v ms ms' rs rs' n Fs =
    (c : Concrete) → Going (setting x c) x.rotations (room_for ms rs room) x.prepared.shape.dimension v (flags (abstract_in x.prepared.shape x.prepared.words.now)) Fs ms ms' rs rs' n

-- The same, where the flags from F on are to come.
abbrev pub SoFar : Search → ℕ → ℕ → List Float → List Float → List ℕ → List ℕ → ℕ → Flag → Type 0
SoFar x room v ms ms' rs rs' n F = FlagsFrom (abstract_in x.prepared.shape x.prepared.words.now) F (Tally x room v ms ms' rs rs' n)

module _ (x : Search) (tall : x.prepared.shape.dimension ≤ length x.inverse) (room v : ℕ) (many : v ≡ size_at x.prepared.shape 1) (ms : List Float) (rs : List ℕ) where
  abbrev s : Solid
  s = abstract_in x.prepared.shape x.prepared.words.now

  abbrev lists : List ℕ
  lists = lists_of x.prepared.shape x.prepared.words.now

  abbrev d : ℕ
  d = x.prepared.shape.dimension

  abbrev m : Room
  m = room_for ms rs room

  shape : (c : Concrete) → SettingFit d v (setting x c)
  unfolding setting_of
  shape c = record { wide = refl; many = points-many x.prepared.shape x.prepared.words.now x.prepared.floats.now ∙ sym many; inverse = length-corner d x.inverse tall }

  pub so_far_first : SoFar x room v ms ms rs rs 0 (flag_in x.prepared.shape.rank x.first)
  so_far_first =
      flags-first s _ (flag_in x.prepared.shape.rank x.first) (nth_first x.prepared.shape lists x.prepared.searching.bench.held _ x.first_value)
      (λ c. going_first (setting x c) x.rotations m d v (flags s) ms rs)

  module _ (ms' : List Float) (rs' : List ℕ) (n : ℕ) (F : Flag) (t : SoFar x room v ms ms' rs rs' n F) where
    abbrev left : List Flag
    left = later x.prepared.shape lists x.prepared.searching.bench.held (Tally x room v ms ms' rs rs' n) F t

    here : Tally x room v ms ms' rs rs' n (F ∷ left)
    here = flags-at x.prepared.shape lists x.prepared.searching.bench.held (Tally x room v ms ms' rs rs' n) F t

    pub is_flag : IsFlag s F
    is_flag = nth_flag x.prepared.shape lists x.prepared.searching.bench.held F t.from t.flag

    -- The parts after the members start within the outputs.
    pub inside : (n * (d * d) ≤ length ms') × (n * v ≤ length rs') × (n ≤ room)
    inside = let c = searched_in x in (
      floats_in (setting x c) x.rotations m d v (shape c) (flags s) F left ms ms' rs rs' n refl refl (here c),
      entries_in (setting x c) x.rotations m d v (shape c) (flags s) F left ms ms' rs rs' n refl refl (here c),
      (here c).room.marks,
    )

    -- The flag is tried, with those parts lent.
    abbrev matrix_part : List Float
    matrix_part = mid_of (n * (d * d)) (length ms' - n * (d * d)) ms'

    abbrev row_part : List ℕ
    row_part = mid_of (n * v) (length rs' - n * v) rs'

    module _ (u : Tried) (p : List Float) (q : List ℕ) (e : (c : Concrete) → Came d (size_at x.prepared.shape 1) (room - n) (gives (setting x c) x.rotations F) u matrix_part p row_part q) where
      abbrev matrices : List Float
      matrices = put_mid (n * (d * d)) (length ms' - n * (d * d)) ms' p

      abbrev rows : List ℕ
      rows = put_mid (n * v) (length rs' - n * v) rs' q

      same : (c : Concrete) → Came d v (room - n) (gives (setting x c) x.rotations F) u matrix_part p row_part q
      same c = subst (λ k. Came d k (room - n) (gives (setting x c) x.rotations F) u matrix_part p row_part q) (sym many) (e c)

      abbrev then : Concrete → Tried → Type 0
      then c = Then (setting x c) x.rotations m d v (shape c) (flags s) F left ms ms' rs rs' n refl refl (here c) u p q (same c)

      came : (c : Concrete) (w : Tried) → u ≡ w → then c w
      came c w r = subst (then c) r (after (setting x c) x.rotations m d v (shape c) (flags s) F left ms ms' rs rs' n refl refl (here c) u p q (same c))

      added : u ≡ Added → Tally x room v ms matrices rs rows (n + 1) left
      unfolding Then
      added r c = rw (add-one n) (came c Added r)

      pub one_more : u ≡ Added → n + 1 ≤ room
      one_more r = (added r (searched_in x)).room.marks

      pub none_fits : u ≡ Short → AllTried x room (Err (record { 0 = n })) ms matrices rs rows
      unfolding Then
      none_fits r c =
          let z = came c Short r in
          short_listed (setting x c) x.rotations m d v (shape c) (flags s) ms matrices rs rows n (F ∷ left) ms' rs' (here c) z.0 z.1 z.2 z.3

      -- Then k members are listed.
      abbrev pub Counted : ℕ → Type 0
      Counted k = ((u ≡ Skipped) × (k ≡ n)) ⊎ ((u ≡ Added) × (k ≡ n + 1))

      module _ (k : ℕ) (w : Counted k) (next : Option Flag) (f : Follows s F next) where
        tally : Tally x room v ms matrices rs rows k left
        unfolding Then
        tally = go w
          where
            go : Counted k → Tally x room v ms matrices rs rows k left
            go (inl (r, z)) = rw z (λ c. came c Skipped r)
            go (inr (r, z)) = rw z (added r)

        pub so_far_next : (G : Flag) → next ≡ Some G → SoFar x room v ms matrices rs rows k G
        so_far_next G g = flags-next x.prepared.shape lists x.prepared.searching.bench.held (Tally x room v ms ms' rs rs' n) F t next f G g (Tally x room v ms matrices rs rows k) tally

        pub all_tried : next ≡ None → AllTried x room (Ok k) ms matrices rs rows
        all_tried g c =
            all_listed (setting x c) x.rotations m d v (shape c) (flags s) ms matrices rs rows k
            (flags-end x.prepared.shape lists x.prepared.searching.bench.held (Tally x room v ms ms' rs rs' n) F t next f g (Tally x room v ms matrices rs rows k) tally c)
