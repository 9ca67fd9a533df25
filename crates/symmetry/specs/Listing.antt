-- A search writes out members, one flag after another.
-- Assumes nothing.
use Rattle.std.specs.Prelude.{◌≡◌, ℕ, zero, suc, ◌+◌, ◌*◌, Bool, true, false, not, ◌&&◌, ◌||◌, List, ◌++◌, map, length, leb, ltb, Float, None, Option, Some, Result, Ok, Err}
use Rattle.std.specs.Result.{is_err}
use Rattle.spec.specs.declared.Refusal.TheVariants.{Blank, ShortSheet}
use Rattle.spec.specs.Refusal.{Answer, refused_with}
use Rattle.spec.specs.Lists.{join, written}
use Rattle.spec.specs.Flags.{Flag}
use Rattle.spec.specs.Search.{Member, Setting, candidate, same_types, tested, members_of, is_rotation}
use Rattle.spec.specs.Calls.{Room, fitting, SearchOut}
use Rattle.symmetry.specs.declared.listing.Tried.{Tried}
use Rattle.symmetry.specs.declared.listing.Tried.TheVariants.{Skipped, Added, Short}
use Rattle.symmetry.specs.declared.listing.Full.{Full}
use Rattle.symmetry.specs.Tails.{wanted_of}

-- Gives the member, if the call lists it: a search lists any member, and a rotations call only a rotation.
unfoldable pub listed_if : Bool → Option Member → Option Member
listed_if rot None = None
listed_if rot (Some x) = elim (not rot || is_rotation x) [ true ↦ Some x | false ↦ None ]

-- Gives the member that a flag gives, if it is listed.
unfoldable pub gives : Setting → Bool → Flag → Option Member
gives w rot F = elim (same_types w F) [ true ↦ listed_if rot (tested w (candidate w F)) | false ↦ None ]

-- Lists the listed members that some flags give.
unfoldable pub members_given : Setting → Bool → List Flag → List Member
members_given w rot Fs = wanted_of rot (members_of w Fs)

-- Lists the cells that the matrices of some members take.
unfoldable pub matrix_cells : List Member → List Float
matrix_cells ms = join (map (λ x. join x.matrix) ms)

-- Lists the cells that the rows of some members take.
unfoldable pub row_cells : List Member → List ℕ
row_cells ms = join (map (λ x. x.row) ms)

-- Of the members of the flags Fs, those of `rest` are still to come, and `done` are listed. Each takes d * d floats and v cells of a row.
pub record Running (w : Setting) (rot : Bool) (m : Room) (d v : ℕ) (Fs rest : List Flag) (done : List Member) : Type 0 where
  pub kept : fitting m d v 0 (members_given w rot Fs) ≡ done ++ fitting m d v (length done) (members_given w rot rest)
  pub all : length (members_given w rot Fs) ≡ length done + length (members_given w rot rest)
  pub floats : length (matrix_cells done) ≡ length done * (d * d)
  pub entries : length (row_cells done) ≡ length done * v

-- ---- one flag

-- Says what trying a flag comes to: it gives no listed member, its member is written, or there is no room for its member.
unfoldable pub tried : Option Member → Bool → List Float → List ℕ → Tried × List Float × List ℕ
tried None room ms rs = (Skipped, ms, rs)
tried (Some x) true ms rs = (Added, written (join x.matrix) ms, written x.row rs)
tried (Some x) false ms rs = (Short, ms, rs)

-- Tells whether a member of d * d floats and v row entries fits into what is left of the outputs, with k marks left.
unfoldable pub fits : ℕ → ℕ → ℕ → ℕ → ℕ → Bool
fits d v floats entries k = leb (d * d) floats && leb v entries && ltb 0 k

-- Trying a candidate or a flag that gives o came to t. In d dimensions with v vertices and k marks left, ms and rs were what was left of the outputs,
-- which are ms' and rs' now.
abbrev pub Came : ℕ → ℕ → ℕ → Option Member → Tried → List Float → List Float → List ℕ → List ℕ → Type 0
Came d v k o t ms ms' rs rs' = ◌≡◌ {A = Tried × List Float × List ℕ} (t, ms', rs') (tried o (fits d v (length ms) (length rs) k) ms rs)

-- ---- all flags

-- Lists the members that fit, and so are written out.
unfoldable pub kept_in : Setting → Bool → Room → List Flag → List Member
kept_in w rot m Fs = fitting m w.searched.dimension (length w.searched.points) 0 (members_given w rot Fs)

-- Gives the number of members that are listed, which is told also where one more had no room.
abbrev pub number_of : Result ℕ Full → ℕ
number_of (Ok n) = n
number_of (Err e) = e.0

-- The members of the flags Fs are listed. This says how many, whether one more had no room, and what the outputs are before and after.
pub record MembersListed (w : Setting) (rot : Bool) (m : Room) (Fs : List Flag) (r : Result ℕ Full) (ms ms' : List Float) (rs rs' : List ℕ) : Type 0 where
  pub count : number_of r ≡ length (kept_in w rot m Fs)
  pub short : is_err r ≡ ltb (length (kept_in w rot m Fs)) (length (members_given w rot Fs))
  pub matrices : ms' ≡ written (matrix_cells (kept_in w rot m Fs)) ms
  pub rows : rs' ≡ written (row_cells (kept_in w rot m Fs)) rs

-- The answer "then 12 or 13" is decided by whether one more member had no room, and by how many are listed.
unfoldable pub answer_of : Bool → ℕ → Answer
answer_of true n = refused_with ShortSheet n
answer_of false zero = refused_with Blank 0
answer_of false (suc n) = Ok (suc n)

-- Gives the outputs with some members written to them.
unfoldable pub outs_of : List Member → SearchOut → SearchOut
outs_of ms old = record {
  matrices = written (matrix_cells ms) old.matrices;
  rows = written (row_cells ms) old.rows;
  marks = written (map (λ x. x.mark) ms) old.marks;
}
