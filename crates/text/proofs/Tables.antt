-- The types of a table of four cells each are read one more at a time, and their lines have bounded lengths.
-- Assumes nothing.
use mathlib.Core.Path.{◌≡◌, refl, sym, ap, ◌∙◌}
use mathlib.Core.List.{List, [], ◌∷◌, ◌++◌, map, map-append, append_assoc, append-nil}
use Prim.Native.Nat.{ℕ, zero, suc, ◌+◌, ◌*◌, ◌^◌, ◌-◌, ◌≤◌, ◌<◌}
use native.Mathlib.Nat.{add-zero}
use native.Mathlib.Numerals.{add-one}
use native.Mathlib.Omega.{arith}
use lib.ListN.{length, get_or, take, drop, length-append}
use lib.Seq.{get_or-drop}
use Rattle.spec.specs.Lists.{join}
use Rattle.spec.specs.Types.{ElementType}
use Rattle.spec.specs.Calls.{type_cells}
use Rattle.spec.specs.Ascii.{ascii}
use Rattle.spec.specs.KitText.{type_line, types_lines}
use Rattle.text.specs.declared.writing.Text.{Text}
use Rattle.text.specs.Cells.{types_from, lines_to}
use Rattle.text.specs.Growing.{HasRoom}
use Rattle.text.proofs.Decimals.{decimal-word, decimal-cell}
use Rattle.text.proofs.Growing.{less}
use Rattle.text.proofs.Pieces.{part}

-- What a call of types wrote is what is read.
pub types_back : (ks : List ElementType) → types_from (join (map type_cells ks)) ≡ ks
unfolding types_from join type_cells
types_back [] = refl
types_back (k ∷ ks) = ap (λ (l : List ElementType). k ∷ l) (types_back ks)

-- Gives the type whose cells a list begins with.
abbrev pub type_of : List ℕ → ElementType
type_of l = record { rank = get_or l 0 0; number = get_or l 1 0; example = get_or l 2 0; count = get_or l 3 0 }

types-next : (i : ℕ) (t : List ℕ) → 4 * i + 4 ≤ length t → types_from (take (4 * (i + 1)) t) ≡ types_from (take (4 * i) t) ++ (type_of (drop (4 * i) t) ∷ [])
unfolding types_from
types-next i [] h = absurd (omega arith)
types-next i (a ∷ []) h = absurd (omega arith)
types-next i (a ∷ b ∷ []) h = absurd (omega arith)
types-next i (a ∷ b ∷ c ∷ []) h = absurd (omega arith)
types-next zero (a ∷ b ∷ c ∷ d ∷ t) h = refl
types-next (suc i) (a ∷ b ∷ c ∷ d ∷ t) h =
    let e : 4 * (suc i + 1) ≡ suc (suc (suc (suc (4 * (i + 1))))) = omega arith in
    let f : 4 * suc i ≡ suc (suc (suc (suc (4 * i)))) = omega arith in
    rw (e, f) (ap (λ (l : List ElementType). record { rank = a; number = b; example = c; count = d } ∷ l) (types-next i t (omega arith)))

join-snoc : (ls : List (List ℕ)) (l : List ℕ) → join (ls ++ (l ∷ [])) ≡ join ls ++ l
unfolding join
join-snoc [] l = append-nil l
join-snoc (x ∷ ls) l = ap (λ (y : List ℕ). x ++ y) (join-snoc ls l) ∙ sym (append_assoc x (join ls) l)

pub lines_none : (t : List ℕ) → lines_to t 0 ≡ []
unfolding lines_to join types_from
lines_none t = refl

pub lines_next : (t : List ℕ) (i : ℕ) → 4 * i + 4 ≤ length t → lines_to t (i + 1) ≡ lines_to t i ++ type_line (type_of (drop (4 * i) t))
unfolding lines_to
lines_next t i h =
    ap (λ (ks : List ElementType). join (map type_line ks)) (types-next i t h)
    ∙ ap join (map-append type_line (types_from (take (4 * i) t)) (type_of (drop (4 * i) t) ∷ []))
    ∙ join-snoc (map type_line (types_from (take (4 * i) t))) (type_line (type_of (drop (4 * i) t)))

-- The cells that the code reads are those of the type.
pub type_read : (t : List ℕ) (p r n e c : ℕ) → r ≡ get_or t p 0 → n ≡ get_or t (p + 1) 0 → e ≡ get_or t (p + 2) 0 → c ≡ get_or t (p + 3) 0
    → type_line (type_of (drop p t)) ≡ type_line (record { rank = r; number = n; example = e; count = c })
type_read t p r n e c hr hn he hc =
    rw (hr, hn, he, hc, get_or-drop p t 0 0, get_or-drop p t 1 0, get_or-drop p t 2 0, get_or-drop p t 3 0, add-zero p)

-- Fewer types have no longer lines.
lines_more : (t : List ℕ) (i k : ℕ) → 4 * (i + k) ≤ length t → length (lines_to t i) ≤ length (lines_to t (i + k))
lines_more t i zero h = rw add-zero (omega arith)
lines_more t i (suc k) h =
    let e : i + suc k ≡ i + k + 1 = omega arith in
    rw e (omega (arith, lines_more t i k (omega arith), ap length (lines_next t (i + k) (omega arith)), length-append (lines_to t (i + k)) (type_line (type_of (drop (4 * (i + k)) t)))))

pub lines_room : (s : Text) (t : List ℕ) (i n : ℕ) → i < n → 4 * n ≤ length t → HasRoom s (lines_to t n)
    → HasRoom s (lines_to t i ++ type_line (type_of (drop (4 * i) t)))
lines_room s t i n h f g =
    let e : i + 1 + (n - (i + 1)) ≡ n = omega arith in
    rw (← lines_next t i (omega arith)) (omega (arith, rw e at (lines_more t (i + 1) (n - (i + 1)) (rw e f))))

-- ---- all of them

length_types : (t : List ℕ) (n : ℕ) → 4 * n ≤ length t → length (types_from (take (4 * n) t)) ≡ n
unfolding types_from
length_types t zero h = refl
length_types t (suc n) h =
    rw (← add-one n, types-next n t (omega arith), length-append) (omega (arith, length_types t n (omega arith)))

module _ (t : List ℕ) (n : ℕ) (f : 4 * n ≤ length t) where
  pub types_pieces : types_lines (types_from (take (4 * n) t)) ≡ part (ascii "types ") n ++ ascii "\n" ++ lines_to t n
  unfolding types_lines lines_to
  types_pieces = rw (length_types t n f)

  module _ (s : Text) (h : HasRoom s (types_lines (types_from (take (4 * n) t)))) where
    pub types-rooms :
        HasRoom s (part (ascii "types ") n)
        × HasRoom s (part (ascii "types ") n ++ ascii "\n")
        × HasRoom s (part (ascii "types ") n ++ ascii "\n" ++ lines_to t n)
    types-rooms =
        let a = part (ascii "types ") n in
        let r2 : HasRoom s (a ++ ascii "\n" ++ lines_to t n) = rw types_pieces at h in
        let r1 = less s (a ++ ascii "\n") (lines_to t n) r2 in
        (less s a (ascii "\n") r1, r1, r2)

-- ---- how long they are

type_long : (k : ElementType) → k.rank < 2 ^ 16 → k.number < 2 ^ 16 → k.example < 2 ^ 16 → k.count < 2 ^ 16 → length (type_line k) ≤ 24
unfolding type_line ascii
type_long k a b c d =
    simp length-append (omega (arith, decimal-cell k.rank a, decimal-cell k.number b, decimal-cell k.example c, decimal-cell k.count d))

module _ (t : List ℕ) (small : (i : ℕ) → get_or t i 0 < 2 ^ 16) where
  pub lines_long : (n : ℕ) → 4 * n ≤ length t → length (lines_to t n) ≤ 24 * n
  lines_long zero h = omega (arith, ap length (lines_none t))
  lines_long (suc n) h =
      let l = type_long (type_of (drop (4 * n) t)) (cell 0) (cell 1) (cell 2) (cell 3) in
      rw (← add-one n) (omega (arith, lines_long n (omega arith), ap length (lines_next t n (omega arith)), length-append (lines_to t n) (type_line (type_of (drop (4 * n) t)))))
    where
      cell : (j : ℕ) → get_or (drop (4 * n) t) j 0 < 2 ^ 16
      cell j = rw (get_or-drop (4 * n) t j 0) (small (4 * n + j))

  -- The cells have 16 bits, and the number of types is a word.
  pub types_long : (n : ℕ) → 4 * n ≤ length t → n < 2 ^ 64 → length (types_lines (types_from (take (4 * n) t))) ≤ 27 + 24 * n
  unfolding ascii
  types_long n h w = rw (types_pieces t n h) (simp length-append (omega (arith, decimal-word n w, lines_long n h)))
