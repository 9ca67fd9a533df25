-- A pass over a rank's elements writes the rank's types, four cells each: an element whose type is the next new number opens its record, and any
-- other adds 1 to its type's count.
-- Assumes nothing.
use mathlib.Core.Path.{◌≡◌, refl, sym, ap, ap₂, subst, ◌∙◌}
use mathlib.Core.Logic.{◌≢◌, inl, inr}
use mathlib.Core.List.{List, [], ◌∷◌, ◌++◌, map, append-nil, map-append}
use Prim.Native.Nat.{ℕ, zero, suc, ◌+◌, ◌*◌, ◌≤◌, ◌<◌}
use native.Mathlib.Omega.{arith}
use native.Mathlib.Numerals.{add-one}
use native.Mathlib.Decide.{ℕ_discrete}
use lib.Dec.{eqb}
use lib.ListN.{length, get_or, take, drop, set, length-append, length-set, take-append-drop, get_or-append}
use lib.Seq.{sets, length-sets, take-suc, take_all, get_or-set_same, get_or-set_other, ext_get_or, append_snoc, get_or-append_seam, length-take-le}
use Rattle.spec.specs.Limits.{max_count}
use Rattle.spec.specs.Lists.{In, distinct, place, count, range, join}
use Rattle.spec.specs.Types.{ElementType}
use Rattle.spec.specs.Calls.{type_cells}
use Rattle.laws.proofs.Lists.{in_get_d, map_same, length-range, get_d_range, of_range, get_d_table, length_table}
use Rattle.laws.proofs.Distinct.{Split, split, in_distinct, of-distinct, in?, place_yes, place_no, count_yes, count_no, count-out, pigeons, once_distinct}
use Rattle.laws.proofs.Counts.{numbers}
use Rattle.laws.proofs.Scan.{distinct_new, distinct_old}
use Rattle.laws.proofs.Shapes.{type_cells_lem}
use Rattle.element_types.proofs.Appeared.{table_snoc}
use Rattle.types.specs.Cells.{describe, cells_of, InOrder, Listable}
use Rattle.types.proofs.Sets.{join-append, sets_append, set_sets, get_d_sets}

-- ---- numbers by first appearance, in a list's front

-- What a list's front holds comes first.
distinct_front : (l m : List ℕ) → (rest : List ℕ) × (distinct eqb (l ++ m) ≡ distinct eqb l ++ rest)
distinct_front l [] = ([], ap (distinct eqb) (append-nil l) ∙ sym (append-nil (distinct eqb l)))
distinct_front l (x ∷ m) = go (distinct_front (l ++ x ∷ []) m) (in? eqb numbers x l)
  where
    go : (rest : List ℕ) × (distinct eqb ((l ++ x ∷ []) ++ m) ≡ distinct eqb (l ++ x ∷ []) ++ rest) → Dec (In x l)
        → (rest : List ℕ) × (distinct eqb (l ++ x ∷ m) ≡ distinct eqb l ++ rest)
    go (rest, e) (yes h) = (rest, ap (distinct eqb) (sym (append_snoc l x m)) ∙ e ∙ ap (λ (d : List ℕ). d ++ rest) (distinct_old eqb numbers l x h))
    go (rest, e) (no h) =
        (x ∷ rest, ap (distinct eqb) (sym (append_snoc l x m)) ∙ e ∙ ap (λ (d : List ℕ). d ++ rest) (distinct_new eqb numbers l x h) ∙ append_snoc (distinct eqb l) x rest)

abbrev pub many : List ℕ → ℕ
many l = length (distinct eqb l)

pub many_few : (l : List ℕ) → many l ≤ length l
many_few l = pigeons eqb numbers (distinct eqb l) l (once_distinct eqb numbers l) (λ t m. of-distinct eqb numbers t l m)

module _ (l m : List ℕ) (o : InOrder (l ++ m)) where
  front_few : many l ≤ many (l ++ m)
  front_few = let d = distinct_front l m in omega (arith, ap length d.1 ∙ length-append (distinct eqb l) d.0)

  front_order : InOrder l
  front_order =
      let d = distinct_front l m in
      ext_get_or 0 (distinct eqb l) (range 0 (many l)) (sym (length-range 0 (many l)))
      (λ i h. sym (get_or-append (distinct eqb l) d.0 0 i h) ∙ ap (λ (z : List ℕ). get_or z i 0) (sym d.1 ∙ o)
      ∙ get_d_range 0 (many (l ++ m)) 0 i (omega (arith, front_few)) ∙ sym (get_d_range 0 (many l) 0 i h))

order_in : (l : List ℕ) → InOrder l → (t : ℕ) → In t l → t < many l
order_in l o t h = omega (arith, of_range 0 (many l) t (rw o at (in_distinct eqb numbers t l h)))

-- No number is above the last.
pub order_low : (l : List ℕ) → InOrder l → (t : ℕ) → In t l → t < length l
order_low l o t h = omega (arith, order_in l o t h, many_few l)

-- One more that is new has the next number.
order_new : (l : List ℕ) (t : ℕ) → InOrder (l ++ t ∷ []) → ¬ In t l → t ≡ many l
order_new l t o h =
    let d = distinct_new eqb numbers l t h in
    let k : many (l ++ t ∷ []) ≡ many l + 1 = ap length d ∙ length-append (distinct eqb l) (t ∷ []) in
    sym (get_or-append_seam (distinct eqb l) t [] 0) ∙ ap (λ (z : List ℕ). get_or z (many l) 0) (sym d ∙ o)
    ∙ get_d_range 0 (many (l ++ t ∷ [])) 0 (many l) (omega arith) ∙ omega arith

-- ---- places and counts

place-first : (l : List ℕ) (i t : ℕ) → i < length l → get_or l i 0 ≡ t → ¬ In t (take i l) → place eqb t l ≡ i
place-first [] i t h e n = absurd (omega arith)
place-first (x ∷ l) zero t h e n = place_yes eqb numbers l (rw e (numbers.pass t))
place-first (x ∷ l) (suc i) t h e n = go (split eqb numbers x t) (place-first l i t (omega arith) e (λ m. n (inr m)))
  where
    go : Split eqb numbers x t → place eqb t l ≡ i → place eqb t (x ∷ l) ≡ suc i
    go (inl (p, q)) ih = absurd (n (inl (sym p)))
    go (inr (p, q)) ih = place_no eqb numbers l q ∙ ap suc ih

count-append : (k : ℕ) (l m : List ℕ) → count eqb k (l ++ m) ≡ count eqb k l + count eqb k m
unfolding count
count-append k [] m = omega arith
count-append k (x ∷ l) m = go (split eqb numbers x k) (count-append k l m)
  where
    go : Split eqb numbers x k → count eqb k (l ++ m) ≡ count eqb k l + count eqb k m → count eqb k (x ∷ (l ++ m)) ≡ count eqb k (x ∷ l) + count eqb k m
    go (inl (p, e)) ih = rw (count_yes eqb numbers (l ++ m) e, count_yes eqb numbers l e) (omega arith)
    go (inr (p, e)) ih = rw (count_no eqb numbers (l ++ m) e, count_no eqb numbers l e) ih

module _ (l : List ℕ) (t : ℕ) where
  count_more : count eqb t (l ++ t ∷ []) ≡ count eqb t l + 1
  unfolding count
  count_more = count-append t l (t ∷ []) ∙ ap (λ (n : ℕ). count eqb t l + n) (count_yes eqb numbers {x = t} {k = t} [] (numbers.pass t))

  count_same : (q : ℕ) → q ≢ t → count eqb q (l ++ t ∷ []) ≡ count eqb q l
  count_same q n =
      count-append q l (t ∷ []) ∙ ap (λ (k : ℕ). count eqb q l + k) (count-out eqb numbers q (t ∷ []) (λ m. none m)) ∙ omega arith
    where
      none : In q (t ∷ []) → ⊥
      none (inr x') = elim x' [ ]
      none (inl e) = n e

count_few : (k : ℕ) (l : List ℕ) → count eqb k l ≤ length l
unfolding count
count_few k [] = omega arith
count_few k (x ∷ l) = go (split eqb numbers x k) (count_few k l)
  where
    go : Split eqb numbers x k → count eqb k l ≤ length l → count eqb k (x ∷ l) ≤ suc (length l)
    go (inl (p, e)) ih = rw (count_yes eqb numbers l e) (omega arith)
    go (inr (p, e)) ih = rw (count_no eqb numbers l e) (omega arith)

-- ---- records in cells

abbrev pub cells_in : List ElementType → List ℕ
cells_in ks = join (map type_cells ks)

pub cells-append : (a b : List ElementType) → cells_in (a ++ b) ≡ cells_in a ++ cells_in b
cells-append a b = ap join (map-append type_cells a b) ∙ join-append (map type_cells a) (map type_cells b)

-- The count is the last of a record's four cells.
module _ (o : ElementType) where
  count-cell : (ks : List ElementType) (i : ℕ) → i < length ks → get_or (cells_in ks) (4 * i + 3) 0 ≡ (get_or ks i o).count
  unfolding join type_cells
  count-cell [] i h = absurd (omega arith)
  count-cell (k ∷ ks) zero h = refl
  count-cell (k ∷ ks) (suc i) h = let e : 4 * suc i + 3 ≡ suc (suc (suc (suc (4 * i + 3)))) = omega arith in rw e (count-cell ks i (omega arith))

  -- Gives the record with another count.
  abbrev recount : ElementType → ℕ → ElementType
  recount k x = record { rank = k.rank; number = k.number; example = k.example; count = x }

  set-count : (ks : List ElementType) (i x : ℕ) → i < length ks → set (cells_in ks) (4 * i + 3) x ≡ cells_in (set ks i (recount (get_or ks i o) x))
  unfolding join type_cells
  set-count [] i x h = absurd (omega arith)
  set-count (k ∷ ks) zero x h = refl
  set-count (k ∷ ks) (suc i) x h =
      let e : 4 * suc i + 3 ≡ suc (suc (suc (suc (4 * i + 3)))) = omega arith in
      rw e (ap (λ (l : List ℕ). k.rank ∷ k.number ∷ k.example ∷ k.count ∷ l) (set-count ks i x (omega arith)))

-- ---- the types below k of rank r, whose elements have the types l, of which those in p are counted

abbrev row : ℕ → List ℕ → List ℕ → ℕ → ElementType
row r l p t = record { rank = r; number = t; example = place eqb t l; count = count eqb t p }

unfoldable pub cells_to : ℕ → List ℕ → List ℕ → ℕ → List ℕ
cells_to r l p k = cells_in (map (row r l p) (range 0 k))

module _ (r : ℕ) (l p : List ℕ) where
  length-cells : (k : ℕ) → length (cells_to r l p k) ≡ 4 * k
  unfolding cells_to
  length-cells k = type_cells_lem (map (row r l p) (range 0 k)) ∙ ap (λ (n : ℕ). 4 * n) (length_table (row r l p) k)

  cells_new : (k e : ℕ) → place eqb k l ≡ e → ¬ In k p → cells_to r l (p ++ k ∷ []) (k + 1) ≡ cells_to r l p k ++ (r ∷ k ∷ e ∷ 1 ∷ [])
  unfolding cells_to join type_cells
  cells_new k e first new =
      let f = row r l (p ++ k ∷ []) in
      ap (λ (n : ℕ). cells_in (map f (range 0 n))) (add-one k)
      ∙ ap cells_in (table_snoc f 0 k k (omega arith))
      ∙ cells-append (map f (range 0 k)) (f k ∷ [])
      ∙ ap₂ (λ (a b : List ℕ). a ++ b)
      (ap cells_in (map_same f (row r l p) (range 0 k)
      (λ q m. ap (λ (n : ℕ). record { rank = r; number = q; example = place eqb q l; count = n }) (count_same p k q (λ (z : q ≡ k). omega (arith, of_range 0 k q m))))))
      (ap₂ (λ (x y : ℕ). r ∷ k ∷ x ∷ y ∷ []) first (count_more p k ∙ ap (λ (n : ℕ). n + 1) (count-out eqb numbers k p new)))

  module _ (k t : ℕ) (h : t < k) where
    types : List ElementType
    types = map (row r l p) (range 0 k)

    type_at : (i : ℕ) → i < k → get_or types i (row r l p 0) ≡ row r l p i
    unfolding types
    type_at i = get_d_table (row r l p) (row r l p 0) k i

    types_long : length types ≡ k
    unfolding types
    types_long = length_table (row r l p) k

    cell-low : 4 * t + 3 < length (cells_to r l p k)
    cell-low = omega (arith, length-cells k)

    count-read : get_or (cells_to r l p k) (4 * t + 3) 0 ≡ count eqb t p
    unfolding cells_to types
    count-read = count-cell (row r l p 0) types t (omega (arith, types_long)) ∙ ap (λ (z : ElementType). z.count) (type_at t h)

    cells_old : cells_to r l (p ++ t ∷ []) k ≡ set (cells_to r l p k) (4 * t + 3) (count eqb t p + 1)
    unfolding cells_to types
    cells_old =
        let f = row r l (p ++ t ∷ []) in
        let o = row r l p 0 in
        let x = count eqb t p + 1 in
        let y = recount o (get_or types t o) x in
        ap cells_in
        (ext_get_or o (map f (range 0 k)) (set types t y) (length_table f k ∙ sym (length-set types t y ∙ types_long))
        (λ i b. let c : i < k = rw length_table at b in get_d_table f o k i c ∙ go i c (ℕ_discrete i t)))
        ∙ sym (set-count o types t x (omega (arith, types_long)))
      where
        go : (i : ℕ) → i < k → Dec (i ≡ t)
            → row r l (p ++ t ∷ []) i ≡ get_or (set types t (recount (row r l p 0) (get_or types t (row r l p 0)) (count eqb t p + 1))) i (row r l p 0)
        go i c (yes e) =
            let o = row r l p 0 in
            let x = count eqb t p + 1 in
            ap (row r l (p ++ t ∷ [])) e
            ∙ ap (λ (n : ℕ). record { rank = r; number = t; example = place eqb t l; count = n }) (count_more p t)
            ∙ ap (λ (z : ElementType). recount o z x) (sym (type_at t h))
            ∙ sym (get_or-set_same types t (recount o (get_or types t o) x) o (omega (arith, types_long)))
            ∙ ap (λ (n : ℕ). get_or (set types t (recount o (get_or types t o) x)) n o) (sym e)
        go i c (no e) =
            let o = row r l p 0 in
            ap (λ (n : ℕ). record { rank = r; number = i; example = place eqb i l; count = n }) (count_same p t i e)
            ∙ sym (type_at i c)
            ∙ sym (get_or-set_other types t i (recount o (get_or types t o) (count eqb t p + 1)) o e)

cells-all : (r : ℕ) (l : List ℕ) → InOrder l → cells_to r l l (many l) ≡ cells_of r l
unfolding cells_to cells_of
cells-all r l o = ap (λ (d : List ℕ). cells_in (map (describe r l) d)) (sym o)

-- ---- the pass

-- Of the elements with the types l, e were passed, and they have the types below k.
pub record Rows (l : List ℕ) (r m : ℕ) (old table : List ℕ) (k e : ℕ) : Type 0 where
  pub met : k ≡ length (distinct eqb (take e l))
  pub cells : table ≡ sets old (4 * m) (cells_to r l (take e l) k)

pub rows-first : (l : List ℕ) (r m : ℕ) (old : List ℕ) → Rows l r m old old 0 0
unfolding cells_to distinct range join
rows-first l r m old = record { met = refl; cells = refl }

module _ (l : List ℕ) (r m : ℕ) (old : List ℕ) (a : Listable l r (length old) m) where
  pub rows_end : (table : List ℕ) (k e : ℕ) → Rows l r m old table k e → length l ≤ e → (k ≡ length (distinct eqb l)) × (table ≡ sets old (4 * m) (cells_of r l))
  rows_end table k e i h =
      let z : take e l ≡ l = take_all e l h in
      let q : k ≡ many l = i.met ∙ ap many z in
      (q, i.cells ∙ ap₂ (λ (y : List ℕ) (x : ℕ). sets old (4 * m) (cells_to r l y x)) z q ∙ ap (sets old (4 * m)) (cells-all r l a.order))

  pub rows_long : (table : List ℕ) (k e : ℕ) → Rows l r m old table k e → length table ≡ length old
  rows_long table k e i = ap length i.cells ∙ length-sets old (4 * m) (cells_to r l (take e l) k)

  module _ (table : List ℕ) (k e : ℕ) (i : Rows l r m old table k e) (h : e < length l) where
    abbrev t : ℕ
    t = get_or l e 0

    abbrev p : List ℕ
    p = take e l

    grows : take (e + 1) l ≡ p ++ t ∷ []
    grows = rw add-one (take-suc l e 0 h)

    parts : l ≡ (p ++ t ∷ []) ++ drop (e + 1) l
    parts = sym (take-append-drop (e + 1) l) ∙ ap (λ (x : List ℕ). x ++ drop (e + 1) l) grows

    whole : InOrder ((p ++ t ∷ []) ++ drop (e + 1) l)
    whole = subst InOrder parts a.order

    order : InOrder (p ++ t ∷ [])
    order = front_order (p ++ t ∷ []) (drop (e + 1) l) whole

    few_more : many (p ++ t ∷ []) ≤ many l
    few_more = rw (← parts) at (front_few (p ++ t ∷ []) (drop (e + 1) l) whole)

    order_p : InOrder p
    order_p = front_order p (t ∷ []) order

    p_long : length p ≡ e
    p_long = length-take-le e l (omega arith)

    few : k ≤ many l
    few = omega (arith, i.met, front_few p (t ∷ []) order, few_more)

    pub type_small : t < max_count
    type_small = omega (arith, order_low l a.order t (in_get_d 0 l e h), a.few)

    module _ (c : t ≡ k) where
      new : ¬ In t p
      new z = omega (arith, order_in p order_p t z, i.met)

      one_more : many (p ++ t ∷ []) ≡ many p + 1
      one_more = ap length (distinct_new eqb numbers p t new) ∙ length-append (distinct eqb p) (t ∷ [])

      pub record_fits : 4 * (m + k) + 4 ≤ length table
      record_fits = omega (arith, one_more, few_more, i.met, a.room, rows_long table k e i)

      pub rows_new : Rows l r m old (sets table (4 * (m + k)) (r ∷ t ∷ e ∷ 1 ∷ [])) (k + 1) (e + 1)
      rows_new = record {
        met = omega (arith, ap many grows, one_more, i.met);
        cells =
            let s = cells_to r l p k in
            let q : 4 * (m + k) ≡ 4 * m + length s = omega (arith, length-cells r l p k) in
            ap₂ (λ (x : List ℕ) (y : ℕ). sets x y (r ∷ t ∷ e ∷ 1 ∷ [])) i.cells q
            ∙ sym (sets_append old (4 * m) s (r ∷ t ∷ e ∷ 1 ∷ []))
            ∙ ap (sets old (4 * m)) (ap (λ (x : ℕ). s ++ (r ∷ x ∷ e ∷ 1 ∷ [])) c ∙ sym (cells_new r l p k e (rw (← c) (place-first l e t h refl new)) (rw (← c) new)))
            ∙ ap (λ (x : List ℕ). sets old (4 * m) (cells_to r l x (k + 1))) (ap (λ (x : ℕ). p ++ x ∷ []) (sym c) ∙ sym grows);
      }

    module _ (c : t ≢ k) where
      met_before : In t p
      met_before = go (in? eqb numbers t p)
        where
          go : Dec (In t p) → In t p
          go (yes z) = z
          go (no z) = absurd (c (order_new p t order z ∙ sym i.met))

      low : t < k
      low = omega (arith, order_in p order_p t met_before, i.met)

      pub cell_in : 4 * (m + t) + 3 < length table
      cell_in = omega (arith, low, few, a.room, rows_long table k e i)

      cell_is : 4 * (m + t) + 3 ≡ 4 * m + (4 * t + 3)
      cell_is = omega arith

      counted : get_or table (4 * (m + t) + 3) 0 ≡ count eqb t p
      counted =
          ap₂ (λ (x : List ℕ) (y : ℕ). get_or x y 0) i.cells cell_is
          ∙ get_d_sets old (4 * m) (cells_to r l p k) (4 * t + 3) 0 (cell-low r l p k t low) (omega (arith, length-cells r l p k, few, a.room))
          ∙ count-read r l p k t low

      pub count_small : get_or table (4 * (m + t) + 3) 0 < max_count
      count_small = omega (arith, counted, count_few t p, p_long, a.few)

      pub rows_old : Rows l r m old (set table (4 * (m + t) + 3) (get_or table (4 * (m + t) + 3) 0 + 1)) k (e + 1)
      rows_old = record {
        met = i.met ∙ ap length (sym (distinct_old eqb numbers p t met_before)) ∙ ap many (sym grows);
        cells =
            let s = cells_to r l p k in
            let x = count eqb t p + 1 in
            ap (λ (y : ℕ). set table (4 * (m + t) + 3) (y + 1)) counted
            ∙ ap₂ (λ (y : List ℕ) (z : ℕ). set y z x) i.cells cell_is
            ∙ set_sets old (4 * m) s (4 * t + 3) x (cell-low r l p k t low)
            ∙ ap (sets old (4 * m)) (sym (cells_old r l p k t low))
            ∙ ap (λ (y : List ℕ). sets old (4 * m) (cells_to r l y k)) (sym grows);
      }
