-- For a rank's elements, and for the ranks one after another, what the cells hold says where elements go, as long as all are carried.
-- Assumes nothing.
use Rattle.std.specs.Prelude.{Option, Some}
use mathlib.Core.Path.{◌≡◌, sym, ◌∙◌, ap}
use mathlib.Core.Bool.{Bool, true, false}
use mathlib.Core.List.{List}
use Prim.Native.Nat.{ℕ, zero, suc, ◌+◌, ◌-◌, ◌≤◌, ◌<◌}
use native.Mathlib.Omega.{arith}
use native.Mathlib.Decide.{ℕ_discrete}
use lib.ListN.{length, get_or, set, length-set}
use lib.Seq.{get_or-set_same, get_or-set_other}
use lib.Ieee.{Float, nan}
use Rattle.spec.specs.Lists.{eq_list, every, no_repeats}
use Rattle.spec.specs.Types.{Solid, size, proper_ranks, Classes, vertex_sets}
use Rattle.spec.specs.Demand.{Proper}
use Rattle.spec.specs.Mark.{goes, carries_element}
use Rattle.laws.proofs.Distinct.{Once}
use Rattle.laws.proofs.Counts.{lists}
use Rattle.laws.proofs.Result.{proper-rank}
use Rattle.laws.proofs.Marked.{every_in, no_repeats_lem, Permutes}
use Rattle.ranked.specs.declared.Shape.{Shape}
use Rattle.ranked.specs.Words.{first_at, size_at, abs_in}
use Rattle.ranked.proofs.Solids.{top_is, sizes_are, number_in}
use Rattle.geometry.specs.Classes.{same_class}
use Rattle.marks.specs.declared.Permutation.{Permutation}
use Rattle.marks.specs.Rises.{rises_to, Reached}
use Rattle.marks.specs.Rows.{ClassesOf, Row}
use Rattle.marks.specs.Carrying.{classes_of, carries_rank, Images, Rank}
use Rattle.marks.proofs.Rises.{vertex_reached, reached}
use Rattle.marks.proofs.Rows.{permutes-vertices}
use Rattle.marks.proofs.Sets.{all_pass, one_fails}
use Rattle.marks.proofs.Cells.{part_from, part_at}

module _ (p : Permutation) where
  abbrev sh : Shape
  sh = p.markable.solid.shape

  abbrev w : List ℕ
  w = p.markable.solid.lists.now

  abbrev row : List ℕ
  row = p.row.now

  abbrev s : Solid
  s = abs_in sh w

  abbrev cls : Classes
  cls = classes_of p.markable

  a : Row sh w row
  a = p.permuting

  -- ---- an element

  rows : Permutes s row
  rows = permutes-vertices s row (a.full ∙ sym (sizes_are sh w a.held 1)) a.permuted

  sets : (r : ℕ) → Proper s r → Once (vertex_sets s r)
  sets r k =
      no_repeats_lem eq_list lists (vertex_sets s r)
      (every_in (λ q. no_repeats eq_list (vertex_sets s q)) (proper_ranks s) a.apart r (proper-rank s r k))

  is_proper_lem : (r : ℕ) → 1 ≤ r → r < sh.rank → Proper s r
  is_proper_lem r l k = (omega arith, omega (arith, top_is sh w))

  module _ {cells : List ℕ} {r : ℕ} (b : Rank p cells r) (e : ℕ) (h : e < size_at sh r) where
    in_solid : e < size s r
    in_solid = rw (sizes_are sh w a.held r) h

    pub vertex_lands : r ≡ 1 → (x : ℕ) → x ≡ get_or row e 0 → Reached s cls row r e (Some x)
    vertex_lands q x z =
        let k : Proper s 1 = is_proper_lem 1 (omega arith) (omega (arith, b.high)) in
        rw (q, z) (vertex_reached s a.held.sound a.held.filled cls row rows k (sets 1 k) e (rw q at in_solid))

  higher : (cells : List ℕ) (r : ℕ) → Rank p cells r → 2 ≤ r → (to : ℕ → ℕ) → ((f : ℕ) → to f ≡ get_or cells (first_at sh (r - 1) + f) 0)
      → (e : ℕ) → e < size_at sh r → Reached s cls row r e (rises_to s to (r - 1) e)
  higher cells zero b two to t e h = absurd (omega arith)
  higher cells (suc zero) b two to t e h = absurd (omega arith)
  higher cells (suc (suc q)) b two to t e h =
      let z : suc (suc q) - 1 ≡ suc q = omega arith in
      let k = is_proper_lem (suc q) (omega arith) (omega (arith, b.high)) in
      let k' = is_proper_lem (suc (suc q)) (omega arith) b.high in
      let i : Images p cells (suc q) = rw z at (b.below two) in
      let t' : (f : ℕ) → to f ≡ get_or cells (first_at sh (suc q) + f) 0 = rw z at t in
      let n : size s (suc q) ≡ size_at sh (suc q) = sizes_are sh w a.held (suc q) in
      rw z (reached s a.held.sound a.held.filled cls row rows q k (λ f l. rw n (i f (rw n at l)).1) k' (sets (suc q) k) (sets (suc (suc q)) k')
      to (λ f l. t' f ∙ (i f (rw n at l)).0) e (in_solid b e h))

  module _ {cells : List ℕ} {r : ℕ} (b : Rank p cells r) (two : 2 ≤ r) (from : ℕ) (is : from ≡ first_at sh (r - 1)) where
    here : (f : ℕ) → get_or (part_from cells from) f 0 ≡ get_or cells (first_at sh (r - 1) + f) 0
    here f = rw is (part_at 0 cells (first_at sh (r - 1)) f)

    -- The cells of the rank below hold elements of that rank.
    pub cells_low : (f : ℕ) → f < size_at sh (r - 1) → get_or (part_from cells from) f 0 < size_at sh (r - 1)
    cells_low f k = let i = b.below two f k in rw (here f, i.0) i.1

    pub element-lands : (e : ℕ) → e < size_at sh r → (x : Option ℕ) → x ≡ rises_to s (λ f. get_or (part_from cells from) f 0) (r - 1) e → Reached s cls row r e x
    element-lands e h x z = rw z (higher cells r b two (λ f. get_or (part_from cells from) f 0) here e h)

  -- Where e goes to x, whether it is carried is told by the cells that hold the classes.
  pub carried_by : (r e x : ℕ) → e < size_at sh r → Reached s cls row r e (Some x) → (cells : List Float) → ClassesOf cls r (size_at sh r) cells
      → (b : Bool) → b ≡ same_class (get_or cells x nan) (get_or cells e nan) → carries_element s cls row r e ≡ b
  carried_by r e x h t cells c b is = t.2 ∙ c e x h (rw (sizes_are sh w a.held r) at t.1) ∙ sym is

  -- ---- a rank's elements

  -- The first e elements of rank r are carried, and their cells are written.
  pub record ElementsCarried (cells : List ℕ) (r e : ℕ) : Type 0 where
    pub rank : Rank p cells r
    pub done : (f : ℕ) → f < e → (get_or cells (first_at sh r + f) 0 ≡ goes s row r f) × (goes s row r f < size_at sh r)
    pub carried : (f : ℕ) → f < e → carries_element s cls row r f ≡ true

  module _ {cells : List ℕ} {r e : ℕ} (t : ElementsCarried cells r e) (more : e < size_at sh r) where
    cell_in : first_at sh r + e < length cells
    cell_in = omega (arith, t.rank.room, number_in sh w a.held r e (omega (arith, t.rank.high)) more)

    pub elements_stop : carries_element s cls row r e ≡ false → false ≡ carries_rank p r
    elements_stop z = one_fails (carries_element s cls row r) 0 (size s r) e (omega arith) (omega (arith, sizes_are sh w a.held r)) z

    pub elements-next : (x : ℕ) → Reached s cls row r e (Some x) → carries_element s cls row r e ≡ true → (k : ℕ) → k ≡ first_at sh r + e → ElementsCarried (set cells k x) r (e + 1)
    elements-next x l c k is = record {
      rank = record { low = b.low; high = b.high; room = rw length-set b.room; below = below };
      done = λ f m. done f m (ℕ_discrete f e);
      carried = λ f m. carried f m (ℕ_discrete f e);
    }
      where
        b : Rank p cells r
        b = t.rank

        -- The rank below stands before.
        below : 2 ≤ r → Images p (set cells k x) (r - 1)
        below two f m =
            let z : suc (r - 1) ≡ r = omega arith in
            let q : first_at sh (suc (r - 1)) ≡ first_at sh r = ap (λ (i : ℕ). first_at sh i) z in
            let i = b.below two f m in
            (get_or-set_other cells k (first_at sh (r - 1) + f) x 0 (λ (d : first_at sh (r - 1) + f ≡ k). omega arith) ∙ i.0, i.1)

        done : (f : ℕ) → f < e + 1 → Dec (f ≡ e) → (get_or (set cells k x) (first_at sh r + f) 0 ≡ goes s row r f) × (goes s row r f < size_at sh r)
        done f m (yes y) =
            let i : first_at sh r + e ≡ k = sym is in
            rw (y, i) (get_or-set_same cells k x 0 (omega (arith, cell_in)) ∙ l.0, omega (arith, l.0, l.1, sizes_are sh w a.held r))
        done f m (no y) =
            let i = t.done f (omega arith) in
            (get_or-set_other cells k (first_at sh r + f) x 0 (λ (d : first_at sh r + f ≡ k). y (omega arith)) ∙ i.0, i.1)

        carried : (f : ℕ) → f < e + 1 → Dec (f ≡ e) → carries_element s cls row r f ≡ true
        carried f m (yes y) = rw y c
        carried f m (no y) = t.carried f (omega arith)

  pub elements-end : {cells : List ℕ} {r e : ℕ} → ElementsCarried cells r e → size_at sh r ≤ e → true ≡ carries_rank p r
  elements-end {cells} {r} {e} t k = all_pass (carries_element s cls row r) 0 (size s r) (λ f l h. t.carried f (omega (arith, sizes_are sh w a.held r)))

  -- ---- the ranks

  -- The ranks below r are carried, and the one just below has its cells.
  pub record RanksCarried (cells : List ℕ) (r : ℕ) : Type 0 where
    pub low : 1 ≤ r
    pub below : 2 ≤ r → Images p cells (r - 1)
    pub carried : (q : ℕ) → 1 ≤ q → q < r → carries_rank p q ≡ true

  module _ {cells : List ℕ} {r : ℕ} (t : RanksCarried cells r) where
    pub ranks_stop : r < sh.rank → false ≡ carries_rank p r → false ≡ every (carries_rank p) (proper_ranks s)
    unfolding proper_ranks
    ranks_stop more e = let l = t.low in rw (top_is sh w) (one_fails (carries_rank p) 1 (sh.rank - 1) r l (omega arith) (sym e))

    pub ranks-next : carries_rank p r ≡ true → (new : List ℕ) → Images p new r → RanksCarried new (r + 1)
    ranks-next e new i =
        let z : r + 1 - 1 ≡ r = omega arith in
        record { low = omega arith; below = λ two. rw z i; carried = λ q l k. go q l k (ℕ_discrete q r) }
      where
        go : (q : ℕ) → 1 ≤ q → q < r + 1 → Dec (q ≡ r) → carries_rank p q ≡ true
        go q l k (yes y) = rw y e
        go q l k (no y) = t.carried q l (omega arith)

    pub ranks-end : sh.rank ≤ r → true ≡ every (carries_rank p) (proper_ranks s)
    unfolding proper_ranks
    ranks-end h = rw (top_is sh w) (all_pass (carries_rank p) 1 (sh.rank - 1) (λ q l k. t.carried q l (omega arith)))
