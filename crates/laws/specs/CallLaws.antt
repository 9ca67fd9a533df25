-- These are statements about the calls: that no empty list passes for success, when a call answers 13 or copying 14 and what then stands in the
-- outputs, what every other refusal leaves untouched, that outputs keep their lengths, and what the calls answer for a solid without proper ranks;
-- and about finding, which search and copying share.
-- Assumes nothing.
use Rattle.std.specs.Prelude.{◌≡◌, ◌≢◌, ◌⊎◌, ℕ, suc, ◌*◌, ◌≤◌, ◌<◌, true, false, List, [], map, length, get_or, take, replicate, Float, Ok, Some}
use Rattle.spec.specs.declared.Refusal.{Refusal}
use Rattle.spec.specs.declared.Refusal.TheVariants.{NotFull, ShortSheet, Open}
use Rattle.spec.specs.Refusal.{Answer, refused_with}
use Rattle.spec.specs.Limits.{max_count}
use Rattle.spec.specs.Lists.{In, join, written}
use Rattle.spec.specs.Types.{State, given, element_types}
use Rattle.spec.specs.Matrix.{Vector, Matrix, mul_vec}
use Rattle.spec.specs.Judged.{Judged}
use Rattle.spec.specs.Sheet.{Parsed, read_sheet}
use Rattle.spec.specs.Solid.{Concrete, preflight}
use Rattle.spec.specs.Classes.{types_of}
use Rattle.spec.specs.Search.{Member}
use Rattle.spec.specs.Copying.{copies, copy_table, points, matrices, copy_call, no_image}
use Rattle.spec.specs.Points.{near, found, find}
use Rattle.spec.specs.Calls.{Given, type_cells, TypesOut, types_call, have_room, members_in, rotations_in, SearchOut, room_of, search_call, rotations_call}
use Rattle.spec.specs.Workspace.{SameLength}

-- ---- search and rotations

-- The outputs `new` hold the members ms from their first cells on, and every cell behind these is as it was in `old`.
pub record HoldMembers (ms : List Member) (old new : SearchOut) : Type 0 where
  pub matrices : new.matrices ≡ written (join (map (λ x. join x.matrix) ms)) old.matrices
  pub rows : new.rows ≡ written (join (map (λ x. x.row) ms)) old.rows
  pub marks : new.marks ≡ written (map (λ x. x.mark) ms) old.marks

-- This is what success with the count n means, where o lists the members of the sheet's solid: n is how many members there are, and the outputs hold
-- all of them.
pub record AllMembers (o : Judged (Concrete × List Member)) (old new : SearchOut) (n : ℕ) : Type 0 where
  pub solid : Concrete
  pub members : List Member
  pub listed : o ≡ Ok (solid, members)
  pub count : n ≡ length members
  pub fit : have_room (room_of old) solid.dimension (length solid.points) n ≡ true
  pub hold : HoldMembers members old new

-- This is what 13 with the count k means: the outputs have room for k whole members and for no more, there are more, and the outputs hold the first
-- k.
pub record FirstMembers (o : Judged (Concrete × List Member)) (old new : SearchOut) (k : ℕ) : Type 0 where
  pub solid : Concrete
  pub members : List Member
  pub listed : o ≡ Ok (solid, members)
  pub fit : have_room (room_of old) solid.dimension (length solid.points) k ≡ true
  pub full : have_room (room_of old) solid.dimension (length solid.points) (suc k) ≡ false
  pub more : k < length members
  pub hold : HoldMembers (take k members) old new

-- These are the laws of a search call, or of a rotations call. `inside` lists all members, or all rotations, of a sheet's solid.
pub record SearchLaws (call : List ℕ → ℕ → ℕ → SearchOut → Answer × SearchOut) (inside : List ℕ → ℕ → ℕ → Judged (Concrete × List Member)) : Type 0 where
  -- An empty list is never a success.
  pub some_member : (b : List ℕ) (words floats : ℕ) (old : SearchOut) (n : ℕ) → (call b words floats old).0 ≡ Ok n → 0 < n
  pub done : (b : List ℕ) (words floats : ℕ) (old : SearchOut) (n : ℕ) → (call b words floats old).0 ≡ Ok n → AllMembers (inside b words floats) old (call b words floats old).1 n
  -- 13 comes when "members (rotations in their call) .. exceed their buffers", and it "keeps what fitted in search (whole members only)".
  pub short : (b : List ℕ) (words floats : ℕ) (old : SearchOut) (k : ℕ) → (call b words floats old).0 ≡ refused_with ShortSheet k → FirstMembers (inside b words floats) old (call b words floats old).1 k
  -- "Outputs are untouched, except: 13": any other refusal leaves all three as they were.
  pub untouched : (b : List ℕ) (words floats : ℕ) (old : SearchOut) (why : Refusal) (k : ℕ) → (call b words floats old).0 ≡ refused_with why k → why ≢ ShortSheet → (call b words floats old).1 ≡ old
  pub lengths : (b : List ℕ) (words floats : ℕ) (old : SearchOut) →
      let new = (call b words floats old).1 in
      SameLength old.matrices new.matrices × SameLength old.rows new.rows × SameLength old.marks new.marks

-- ---- types

-- The sheet passes preflight, the sweeps over its solid end, and g is what the types call then has to give out, before it looks at its buffers.
pub record Settled (b : List ℕ) (words floats : ℕ) (g : Given) : Type 0 where
  pub solid : Concrete
  pub result : State
  pub read : preflight b words floats ≡ Ok solid
  pub ended : types_of solid ≡ Some result
  pub out : g ≡ record { elements = given solid.abs result; types = element_types solid.abs result }

-- This is what success with the count n means: n is how many types there are, both outputs have room for everything, and they hold everything.
pub record AllTypes (b : List ℕ) (words floats : ℕ) (old new : TypesOut) (n : ℕ) : Type 0 where
  pub out : Given
  pub settled : Settled b words floats out
  pub count : n ≡ length out.types
  pub elements_fit : length out.elements ≤ length old.elements
  pub types_fit : 4 * length out.types ≤ length old.types
  pub elements : new.elements ≡ written out.elements old.elements
  pub types : new.types ≡ written (join (map type_cells out.types)) old.types

-- This is what 13 means: the types are there, one of the two outputs is too short for them, and the count is 0, since nothing is kept.
pub record NoRoom (b : List ℕ) (words floats : ℕ) (old : TypesOut) (k : ℕ) : Type 0 where
  pub out : Given
  pub settled : Settled b words floats out
  pub count : k ≡ 0
  pub exceed : (length old.elements < length out.elements) ⊎ (length old.types < 4 * length out.types)

pub record CallLaws : Type 0 where
  pub searches : SearchLaws search_call members_in
  pub rotations : SearchLaws rotations_call rotations_in
  pub types-done : (b : List ℕ) (words floats : ℕ) (old : TypesOut) (n : ℕ) → (types_call b words floats old).0 ≡ Ok n → AllTypes b words floats old (types_call b words floats old).1 n
  -- 13 comes when "types .. exceed their buffers".
  pub types_short : (b : List ℕ) (words floats : ℕ) (old : TypesOut) (k : ℕ) → (types_call b words floats old).0 ≡ refused_with ShortSheet k → NoRoom b words floats old k
  -- "Outputs are untouched": every refusal of the types call leaves them so.
  pub types : (b : List ℕ) (words floats : ℕ) (old : TypesOut) (why : Refusal) (k : ℕ) → (types_call b words floats old).0 ≡ refused_with why k → (types_call b words floats old).1 ≡ old
  pub lengths : (b : List ℕ) (words floats : ℕ) (old : TypesOut) →
      let new = (types_call b words floats old).1 in
      SameLength old.elements new.elements × SameLength old.types new.types

-- ---- solids without proper ranks

-- This is what the calls answer for a solid without proper ranks: "R = 1: no types; search 8". The outputs stay as they were, whatever they hold.
pub record NoProperRank (b : List ℕ) (words floats : ℕ) : Type 0 where
  pub types : (old : TypesOut) → types_call b words floats old ≡ (Ok 0, old)
  pub search : (old : SearchOut) → search_call b words floats old ≡ (refused_with NotFull 0, old)
  pub rotations : (old : SearchOut) → rotations_call b words floats old ≡ (refused_with NotFull 0, old)

-- This holds of every accepted sheet of rank 0 or 1, on any workspace that 7 does not refuse: E and I are 0, so that 64 words and 64 floats are
-- enough.
abbrev pub EveryLowSheet : Type 0
EveryLowSheet = (b : List ℕ) (p : Parsed) → read_sheet b ≡ Ok p → p.rank < 2 → (words floats : ℕ) → 64 ≤ words → 64 ≤ floats → NoProperRank b words floats

-- ---- copying

-- Every matrix of ms takes every copy of cs to a point that is found among the copies.
abbrev pub Closed : List Matrix → List Vector → Type 0
Closed ms cs = (m : Matrix) (c : Vector) → In m ms → In c cs → found cs (mul_vec m c) ≡ true

-- Some matrix takes some copy to a point that is not found among the copies.
abbrev pub NotClosed : List Matrix → List Vector → Type 0
NotClosed ms cs = (m : Matrix) × (c : Vector) × In m ms × In c cs × (found cs (mul_vec m c) ≡ false)

-- This is a copying call in d dimensions: ms are its matrices, cs are all copies of its points under them, and out_points and out_table are its two
-- outputs as they were before the call.
module _ (d : ℕ) (ms : List Matrix) (cs : List Vector) (out_points : List Float) (out_table : List ℕ) where
  -- This is what success with the count n means: n is how many copies there are, at least one and at most 2,048; both outputs have room for
  -- everything, and they hold all copies and the whole table, with every cell behind these as it was; and every image is among the copies.
  pub record AllCopies (n : ℕ) (new_points : List Float) (new_table : List ℕ) : Type 0 where
    pub count : n ≡ length cs
    pub some_copy : 0 < n
    pub limit : n ≤ max_count
    pub points_fit : n * d ≤ length out_points
    pub table_fit : length ms * n ≤ length out_table
    pub points : new_points ≡ written (join cs) out_points
    pub table : new_table ≡ written (copy_table ms cs) out_table
    pub closed : Closed ms cs

  -- This is what 13 with the count k means: k copies fitted, and either there are more or the table does not fit; the points' output holds the first
  -- k with every cell behind them as it was, and the table's output is untouched.
  pub record FirstCopies (k : ℕ) (new_points : List Float) (new_table : List ℕ) : Type 0 where
    pub among : k ≤ length cs
    pub limit : k ≤ max_count
    pub points_fit : k * d ≤ length out_points
    -- Either there are more copies and k is 2,048; or there are more and the points' output has no room for one of them; or k is all copies, and only
    -- the table's output is too short.
    pub exceed : ((k < length cs) × (k ≡ max_count)) ⊎ ((k < length cs) × (length out_points < suc k * d)) ⊎ ((k ≡ length cs) × (length out_table < length ms * k))
    pub points : new_points ≡ written (join (take k cs)) out_points
    pub table : new_table ≡ out_table

  -- This is what 14 with the count k means: k is how many copies there are, and the points' output holds all of them; the table's entries, matrices
  -- times copies, are 65,535 with every cell behind them as it was; and some image is not among the copies.
  pub record OpenCopies (k : ℕ) (new_points : List Float) (new_table : List ℕ) : Type 0 where
    pub count : k ≡ length cs
    pub limit : k ≤ max_count
    pub points_fit : k * d ≤ length out_points
    pub table_fit : length ms * k ≤ length out_table
    pub points : new_points ≡ written (join cs) out_points
    pub table : new_table ≡ written (replicate (length ms * k) no_image) out_table
    pub missing : NotClosed ms cs

  -- These are the laws of such a call, where o is what it answers and what it leaves in its two outputs.
  pub record CopyCallLaws (o : Answer × List Float × List ℕ) : Type 0 where
    pub done : (n : ℕ) → o.0 ≡ Ok n → AllCopies n o.1 o.2
    -- 13 comes when "points and then table entries, exceed their buffers; copies over 2,048", and it "keeps what fitted .. in copying (points only)".
    pub short : (k : ℕ) → o.0 ≡ refused_with ShortSheet k → FirstCopies k o.1 o.2
    -- 14 comes when "an image isn't among the copies", and it "keeps the points and sets the table's entries, matrices times copies, to 65,535".
    pub unclosed : (k : ℕ) → o.0 ≡ refused_with Open k → OpenCopies k o.1 o.2
    -- "Outputs are untouched, except: 13 .. 14 .."
    pub untouched : (why : Refusal) (k : ℕ) → o.0 ≡ refused_with why k → why ≢ ShortSheet → why ≢ Open → (o.1 ≡ out_points) × (o.2 ≡ out_table)
    pub lengths : SameLength out_points o.1 × SameLength out_table o.2

-- Every copying call obeys these laws: ps holds the coordinates of its points, and ts the entries of its matrices.
abbrev pub EveryCopyCall : Type 0
EveryCopyCall = (d : ℕ) (ps ts out_points : List Float) (out_table : List ℕ)
    → CopyCallLaws d (matrices d ts) (copies (matrices d ts) (points d ps)) out_points out_table (copy_call d ps ts out_points out_table)

-- ---- finding

-- These are the laws of finding the point q among the points ps: "lowest number taken".
pub record FindLaws (ps : List Vector) (q : Vector) : Type 0 where
  -- The point that is found is near.
  pub found-near : found ps q ≡ true → (find ps q < length ps) × (near (get_or ps (find ps q) []) q ≡ true)
  -- No point with a lower number is near.
  pub not_lower : (i : ℕ) → i < find ps q → near (get_or ps i []) q ≡ false
  -- Where no point is near, the number is how many points there are.
  pub not_found : found ps q ≡ false → find ps q ≡ length ps

abbrev pub EveryFind : Type 0
EveryFind = (ps : List Vector) (q : Vector) → FindLaws ps q
