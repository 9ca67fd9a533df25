-- This file says what trying a candidate comes to, and what trying a flag does.
-- Assumes nothing.
use Rattle.std.specs.Prelude.{None, Option, Some}
use mathlib.Core.Path.{◌≡◌, refl, sym, ap, subst, ◌∙◌}
use mathlib.Core.Logic.{◌⊎◌, inl, inr}
use mathlib.Core.Bool.{Bool, true, false, not, ◌&&◌, ◌||◌}
use mathlib.Core.List.{List, map}
use Prim.Native.Nat.{ℕ, suc, ◌*◌, ◌≤◌}
use lib.ListN.{length}
use lib.Dec.{leb, ltb}
use lib.Ieee.{Float, lt}
use borrow.Author.Tests.{leb-true}
use Rattle.spec.specs.Lists.{range, join, written}
use Rattle.spec.specs.Types.{State}
use Rattle.spec.specs.Float.{zero_f}
use Rattle.spec.specs.Matrix.{Matrix, mul_mat, determinant}
use Rattle.spec.specs.Solid.{Concrete}
use Rattle.spec.specs.Flags.{Flag, IsFlag, first_flag}
use Rattle.spec.specs.Classes.{class_table, by_table}
use Rattle.spec.specs.Points.{row_of}
use Rattle.spec.specs.Search.{Member, Setting, flag_columns, candidate, same_types, mark_of, tested, is_rotation}
use Rattle.laws.proofs.Lists.{length_table}
use Rattle.laws.proofs.Marked.{both}
use Rattle.laws.proofs.FlagList.{every_first}
use Rattle.ranked.specs.declared.Shape.{Shape}
use Rattle.ranked.specs.Words.{size_at, lists_of, subs_in, abs_in}
use Rattle.ranked.specs.Layout.{abstract_in}
use Rattle.matrix.specs.Reading.{corner}
use Rattle.element_types.specs.State.{state_in}
use Rattle.flag.specs.Reading.{flag_in}
use Rattle.symmetry.specs.Post.{types_agree}
use Rattle.symmetry.specs.declared.listing.Tried.{Tried}
use Rattle.symmetry.specs.declared.listing.Tried.TheVariants.{Skipped, Added, Short}
use Rattle.symmetry.specs.Tails.{setting_of}
use Rattle.symmetry.specs.Listing.{listed_if, gives, tried, fits, Came}
use Rattle.symmetry.specs.declared.listing.Search.{Search}
use Rattle.symmetry.specs.Searching.{passing, setting_in}
use Rattle.symmetry.specs.Tried.{searched_in, CandidateTried}

module _ (d v k : ℕ) (o : Option Member) (ms : List Float) (rs : List ℕ) where
  came_none : o ≡ None → Came d v k o Skipped ms ms rs rs
  unfolding tried
  came_none e = rw e refl

  module _ (x : Member) (e : o ≡ Some x) where
    came_short : fits d v (length ms) (length rs) k ≡ false → Came d v k o Short ms ms rs rs
    unfolding tried
    came_short h = rw (e, h) refl

    came_added : fits d v (length ms) (length rs) k ≡ true → (ms' : List Float) (rs' : List ℕ) → ms' ≡ written (join x.matrix) ms → rs' ≡ written x.row rs → Came d v k o Added ms ms' rs rs'
    unfolding tried
    came_added h ms' rs' a b = rw (e, h, a, b) refl

-- Where `fits` holds, there is room for the matrix and for the row.
pub fits_means : (d v floats entries k : ℕ) → fits d v floats entries k ≡ true → (d * d ≤ floats) × (v ≤ entries)
unfolding fits
fits_means d v floats entries k e =
    let h = both (leb (d * d) floats && leb v entries) (ltb 0 k) e in
    let q = both (leb (d * d) floats) (leb v entries) h.0 in
    (leb-true _ _ q.0, leb-true _ _ q.1)

-- ---- a candidate m

module _ (x : Search) (cells : List (List Float)) (k : ℕ) (ms : List Float) (rs : List ℕ) (c : Concrete) (i : Matrix) where
  abbrev D : Concrete
  D = searched_in x

  abbrev z : State
  z = state_in x.prepared.shape x.prepared.words.now

  abbrev m : Matrix
  m = corner x.prepared.shape.dimension cells

  abbrev rot : Bool
  rot = x.rotations

  abbrev d : ℕ
  d = x.prepared.shape.dimension

  abbrev v : ℕ
  v = size_at x.prepared.shape 1

  abbrev member : Member
  member = record { matrix = m; row = row_of D.points m; mark = mark_of c.abs (by_table (class_table c)) (row_of D.points m) }

  tested_is : (b : Bool) → b ≡ passing D z m → tested (setting_of c D z i) m ≡ elim b as (λ t. Option Member) [ true ↦ Some member | false ↦ None ]
  unfolding tested passing setting_of
  tested_is b e = ap (λ t. elim t as (λ u. Option Member) [ true ↦ Some member | false ↦ None ]) (sym e)

  -- The candidate does not pass.
  pub candidate_not : false ≡ passing D z m → Came d v k (listed_if rot (tested (setting_of c D z i) m)) Skipped ms ms rs rs
  unfolding listed_if
  candidate_not e = came_none d v k _ ms rs (ap (listed_if rot) (tested_is false e))

  -- The candidate is no rotation, and only rotations are wanted.
  pub candidate-turned : rot ≡ true → lt zero_f (determinant m) ≡ false → Came d v k (listed_if rot (tested (setting_of c D z i) m)) Skipped ms ms rs rs
  unfolding listed_if is_rotation
  candidate-turned r e = came_none d v k _ ms rs (go (passing D z m) refl)
    where
      turned : (b t : Bool) → b ≡ true → t ≡ false → ◌≡◌ {A = Option Member} (elim (not b || t) as (λ u. Option Member) [ true ↦ Some member | false ↦ None ]) None
      turned b t p q = rw (p, q) refl

      go : (b : Bool) → passing D z m ≡ b → listed_if rot (tested (setting_of c D z i) m) ≡ None
      go true p = ap (listed_if rot) (tested_is true (sym p)) ∙ turned rot (lt zero_f (determinant m)) r e
      go false p = ap (listed_if rot) (tested_is false (sym p))

  module _ (yes : true ≡ passing D z m) where
    module _ (wanted : (rot ≡ false) ⊎ (lt zero_f (determinant m) ≡ true)) where
      listed : listed_if rot (tested (setting_of c D z i) m) ≡ Some member
      unfolding listed_if is_rotation
      listed = ap (listed_if rot) (tested_is true yes) ∙ go rot wanted
        where
          go : (b : Bool) → (b ≡ false) ⊎ (lt zero_f (determinant m) ≡ true) → elim (not b || lt zero_f (determinant m)) as (λ t. Option Member) [ true ↦ Some member | false ↦ None ] ≡ Some member
          go b (inl e) = rw e refl
          go true (inr e) = rw e refl
          go false (inr e) = refl

      pub candidate_short : fits d v (length ms) (length rs) k ≡ false → Came d v k (listed_if rot (tested (setting_of c D z i) m)) Short ms ms rs rs
      candidate_short h = came_short d v k _ ms rs member listed h

      pub candidate_added : fits d v (length ms) (length rs) k ≡ true → (ms' : List Float) (rs' : List ℕ) → ms' ≡ written (join m) ms → rs' ≡ written (row_of D.points m) rs
          → Came d v k (listed_if rot (tested (setting_of c D z i) m)) Added ms ms' rs rs'
      candidate_added h ms' rs' a b = came_added d v k _ ms rs member listed h ms' rs' a b

-- ---- a flag F, where G is the first

-- The solid has a list for each rank.
ranks_are : (sh : Shape) (w : List ℕ) → length (abs_in sh w) ≡ suc sh.rank
unfolding abs_in
ranks_are sh w = length_table (λ r. map (subs_in sh w r) (range 0 (size_at sh r))) (suc sh.rank)

-- A flag passes where its elements have the types of the first flag's elements.
module _ (D : Concrete) (R : ℕ) (ranks : length D.abs ≡ suc R) (z : State) (F G : Flag) (first : G ≡ first_flag D.abs) (c : Concrete) (i : Matrix) where
  types_are : same_types (setting_of c D z i) F ≡ types_agree z R F G
  unfolding same_types setting_of
  types_are = rw (ranks, first) refl

module _ (x : Search) where
  abbrev first : Flag
  first = flag_in x.prepared.shape.rank x.first

  -- The first flag is a flag.
  pub first_is : IsFlag (abstract_in x.prepared.shape x.prepared.words.now) first
  first_is =
      let s = abstract_in x.prepared.shape x.prepared.words.now in let held = x.prepared.searching.bench.held in
      subst (IsFlag s) (sym x.first_value) (every_first s held.sound held.filled).0

  module _ (F : Flag) (k : ℕ) (ms : List Float) (rs : List ℕ) (c : Concrete) where
    abbrev w : Setting
    w = setting_in x.prepared.shape x.prepared.words.now x.prepared.floats.now x.inverse c

    abbrev i : Matrix
    i = corner x.prepared.shape.dimension x.inverse

    passes_are : same_types w F ≡ types_agree (state_in x.prepared.shape x.prepared.words.now) x.prepared.shape.rank F first
    passes_are =
        types_are (searched_in x) x.prepared.shape.rank (ranks_are x.prepared.shape (lists_of x.prepared.shape x.prepared.words.now))
        (state_in x.prepared.shape x.prepared.words.now) F first x.first_value c i

    abbrev by : Matrix → Bool → Option Member
    by m b = elim b [ true ↦ listed_if x.rotations (tested w m) | false ↦ None ]

    pub flag_not : false ≡ types_agree (state_in x.prepared.shape x.prepared.words.now) x.prepared.shape.rank F first
        → Came x.prepared.shape.dimension (size_at x.prepared.shape 1) k (gives w x.rotations F) Skipped ms ms rs rs
    unfolding gives
    flag_not e = came_none x.prepared.shape.dimension (size_at x.prepared.shape 1) k _ ms rs (ap (by (candidate w F)) (passes_are ∙ sym e))

    -- The flag goes as its candidate m does.
    pub flag_is : true ≡ types_agree (state_in x.prepared.shape x.prepared.words.now) x.prepared.shape.rank F first → (m : List (List Float)) → corner x.prepared.shape.dimension m ≡ mul_mat (flag_columns (searched_in x) F) i
        → (t : Tried) (ms' : List Float) (rs' : List ℕ) → CandidateTried x k m t ms ms' rs rs' → Came x.prepared.shape.dimension (size_at x.prepared.shape 1) k (gives w x.rotations F) t ms ms' rs rs'
    unfolding gives candidate setting_of
    flag_is e m made t ms' rs' g = subst (λ o. Came x.prepared.shape.dimension (size_at x.prepared.shape 1) k o t ms ms' rs rs') (sym came) (g c i)
      where
        came : gives w x.rotations F ≡ listed_if x.rotations (tested w (corner x.prepared.shape.dimension m))
        came = ap (by (candidate w F)) (passes_are ∙ sym e) ∙ ap (λ y. listed_if x.rotations (tested w y)) (sym made)
