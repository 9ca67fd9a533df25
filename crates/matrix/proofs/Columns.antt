-- In the loop over the columns, what is left to eliminate gives what the whole elimination gives.
-- Assumes nothing.
use Rattle.std.specs.Prelude.{None, Some}
use mathlib.Core.Path.{◌≡◌, refl, sym, ap, ap₂, ◌∙◌}
use mathlib.Core.Bool.{Bool, true, false, not}
use mathlib.Core.List.{List, [], ◌∷◌, ◌++◌, map}
use Prim.Native.Nat.{ℕ, suc, ◌+◌, ◌-◌, ◌%◌, ◌≤◌, ◌<◌}
use native.Mathlib.Numerals.{add-one}
use native.Mathlib.Nat.{sub-zero}
use native.Mathlib.Decide.{ℕ_discrete}
use native.Mathlib.Omega.{arith}
use lib.Dec.{eqb}
use lib.ListN.{length, length-append, drop}
use lib.Ieee.{Float, eq, neg}
use borrow.Author.Tests.{eq-eqb, ne_eqb}
use Rattle.spec.specs.Lists.{range}
use Rattle.spec.specs.Float.{zero_f, one_f, times, zip}
use Rattle.spec.specs.Matrix.{Matrix, Work, row, entry, identity, pivot_row, swap_rows, divided, clear, column, eliminate, gauss_jordan, inverse, times_on, product, determinant}
use Rattle.matrix.specs.Reading.{corner}
use Rattle.matrix.proofs.Corner.{length-corner}

-- ---- a column

abbrev pub next_rows : Matrix → ℕ → Float → ℕ → Matrix
next_rows a p x c = let s = swap_rows a p c in clear c (divided (row s c) x) s

module _ (c : ℕ) (w : Work) (p : ℕ) (x : Float) (ep : p ≡ pivot_row w.rows c) (ex : x ≡ entry w.rows p c) where
  column-none : eq x zero_f ≡ true → column c w ≡ None
  unfolding column
  column-none h = let k = rw (ex, ep) at h in rw (k, column)

  column_some : eq x zero_f ≡ false → column c w ≡ Some (record { rows = next_rows w.rows p x c; pivots = w.pivots ++ x ∷ []; swaps = elim (eqb p c) [ true ↦ w.swaps | false ↦ suc w.swaps ] })
  unfolding column
  column_some h = let k = rw (ex, ep) at h in rw (ex, ep, k, column)

eliminate-none : (c : ℕ) (cs : List ℕ) (w : Work) → column c w ≡ None → eliminate (c ∷ cs) w ≡ None
unfolding eliminate
eliminate-none c cs w e = rw (e, eliminate)

eliminate_some : (c : ℕ) (cs : List ℕ) (w v : Work) → column c w ≡ Some v → eliminate (c ∷ cs) w ≡ eliminate cs v
unfolding eliminate
eliminate_some c cs w v e = rw (e, eliminate)

-- ---- the pivots' product

times_snoc : (y : Float) (ys : List Float) (x : Float) → times_on y (ys ++ x ∷ []) ≡ times (times_on y ys) x
unfolding times_on
times_snoc y [] x = refl
times_snoc y (z ∷ ys) x = times_snoc (times y z) ys x

-- ---- the swaps' parity

flip : (k : ℕ) → not (eqb (k % 2) 1) ≡ eqb (suc k % 2) 1
flip k = go (ℕ_discrete (k % 2) 1)
  where
    go : Dec (k % 2 ≡ 1) → not (eqb (k % 2) 1) ≡ eqb (suc k % 2) 1
    go (yes e) = rw (eq-eqb (k % 2) 1 e, ne_eqb (suc k % 2) 1 (λ q. omega arith))
    go (no e) = rw (ne_eqb (k % 2) 1 e, eq-eqb (suc k % 2) 1 (omega arith))

-- ---- the loop

abbrev pub begin : Matrix → Work
begin a = record { rows = a; pivots = []; swaps = 0 }

-- The matrix a is what the columns before c made of a₀, t is the product of their pivots, and odd says whether their swaps are odd in number.
pub record ColumnsDone (d : ℕ) (a₀ a : Matrix) (t : Float) (odd : Bool) (c : ℕ) : Type 0 where
  pub pivots : List Float
  pub swaps : ℕ
  pub count : length pivots ≡ c
  pub product_is : t ≡ product pivots
  pub parity_is : odd ≡ eqb (swaps % 2) 1
  pub left : eliminate (range c (d - c)) (record { rows = a; pivots = pivots; swaps = swaps }) ≡ eliminate (range 0 d) (begin a₀)

pub first : (d : ℕ) (a : Matrix) → ColumnsDone d a a one_f false 0
unfolding product
first d a = record { pivots = []; swaps = 0; count = refl; product_is = refl; parity_is = refl; left = rw sub-zero }

product-next : (ps : List Float) (t x : Float) (c : ℕ) → length ps ≡ c → t ≡ product ps → elim (eqb c 0) as (λ _. Float) [ true ↦ x | false ↦ times t x ] ≡ product (ps ++ x ∷ [])
unfolding product times_on
product-next [] t x c e p = rw (eq-eqb c 0 (sym e))
product-next (y ∷ ys) t x c e p = rw (ne_eqb c 0 (λ q. omega arith), p) (sym (times_snoc y ys x))

parity-next : (b odd : Bool) (k : ℕ) → odd ≡ eqb (k % 2) 1 → elim b as (λ _. Bool) [ true ↦ odd | false ↦ not odd ] ≡ eqb (elim b as (λ _. ℕ) [ true ↦ k | false ↦ suc k ] % 2) 1
parity-next true odd k e = e
parity-next false odd k e = ap not e ∙ flip k

module _ {d : ℕ} {a₀ a : Matrix} {t : Float} {odd : Bool} {c : ℕ} (r : ColumnsDone d a₀ a t odd c) where
  abbrev work : Work
  work = record { rows = a; pivots = r.pivots; swaps = r.swaps }

  turn : c < d → eliminate (c ∷ range (c + 1) (d - (c + 1))) work ≡ eliminate (range 0 d) (begin a₀)
  unfolding range
  turn h = let k : d - c ≡ suc (d - suc c) = omega arith in rw (add-one c) (rw k at r.left)

  module _ (h : c < d) (p : ℕ) (x : Float) (ep : p ≡ pivot_row a c) (ex : x ≡ entry a p c) where
    pub stop : eq x zero_f ≡ true → eliminate (range 0 d) (begin a₀) ≡ None
    stop e = sym (turn h) ∙ eliminate-none c _ work (column-none c work p x ep ex e)

    pub next : (b : Matrix) (u : Float) (o : Bool) → eq x zero_f ≡ false → b ≡ next_rows a p x c →
        u ≡ elim (eqb c 0) as (λ _. Float) [ true ↦ x | false ↦ times t x ] → o ≡ elim (eqb p c) as (λ _. Bool) [ true ↦ odd | false ↦ not odd ] → ColumnsDone d a₀ b u o (c + 1)
    next b u o e eb eu eo = record {
      pivots = r.pivots ++ x ∷ [];
      swaps = elim (eqb p c) [ true ↦ r.swaps | false ↦ suc r.swaps ];
      count = length-append r.pivots (x ∷ []) ∙ ap (λ (n : ℕ). n + 1) r.count;
      product_is = eu ∙ product-next r.pivots t x c r.count r.product_is;
      parity_is = eo ∙ parity-next (eqb p c) odd r.swaps r.parity_is;
      left = rw eb (sym (eliminate_some c _ work _ (column_some c work p x ep ex e)) ∙ turn h);
    }

  pub end : d ≤ c → eliminate (range 0 d) (begin a₀) ≡ Some work
  unfolding eliminate range
  end h = let k : d - c ≡ 0 = omega arith in sym (rw k at r.left)

abbrev pub signed : Bool → Float → Float
signed odd t = elim odd [ true ↦ neg t | false ↦ t ]

-- ---- the inverse and the determinant, where the loop stops and where it ends

module _ (d : ℕ) (m : List (List Float)) (h : d ≤ length m) (a₀ : Matrix) (e₀ : a₀ ≡ zip (λ x e. x ++ e) (corner d m) (identity d)) where
  begins : gauss_jordan (corner d m) ≡ eliminate (range 0 d) (begin a₀)
  unfolding gauss_jordan
  begins = rw (length-corner d m h, e₀)

  pub inverse-none : eliminate (range 0 d) (begin a₀) ≡ None → None ≡ inverse (corner d m)
  unfolding inverse
  inverse-none e = rw (begins ∙ e, inverse)

  pub determinant-none : eliminate (range 0 d) (begin a₀) ≡ None → zero_f ≡ determinant (corner d m)
  unfolding determinant
  determinant-none e = rw (begins ∙ e, determinant)

  module _ {a : Matrix} {t : Float} {odd : Bool} {c : ℕ} (k : d ≤ c) (r : ColumnsDone d a₀ a t odd c) where
    pub inverse-end : Some (map (drop d) a) ≡ inverse (corner d m)
    unfolding inverse
    inverse-end = rw (begins ∙ end r k, inverse, length-corner d m h)

    pub determinant-end : signed odd t ≡ determinant (corner d m)
    unfolding determinant
    determinant-end = ap₂ signed r.parity_is r.product_is ∙ rw (begins ∙ end r k, determinant)
