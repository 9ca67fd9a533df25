-- This file says what each reading of a sheet passes on, and over which bits: a reader passes a value exactly when the value is within its limits and
-- the bits that it goes over are the value's.
-- Assumes nothing.
use Rattle.std.specs.Prelude.{Err, Ok}
use mathlib.Core.Path.{◌≡◌, refl, sym, ◌∙◌, ap, subst}
use mathlib.Core.Logic.{inl, inr}
use Prim.Native.Nat.{ℕ, zero, suc, ◌+◌, ◌-◌, ◌*◌, ◌/◌, ◌%◌, ◌^◌, ◌≤◌, ◌<◌}
use mathlib.Core.Bool.{Bool, true, false, not, ◌&&◌, false≢true}
use mathlib.Core.List.{List, [], ◌∷◌, ◌++◌, map}
use native.Mathlib.Nat.{mod-lt, pow-suc}
use native.Mathlib.Omega.{arith}
use lib.ListN.{length, get_or}
use lib.Dec.{leb, ltb, eqb, T, le→leb, eqb→eq}
use lib.Ieee.{Float, nan, inf, fin, binary64, fits, is_nan, of_bits, to_bits}
use lib.Ieee.Bits.{is_true, of_bits-to_bits, to_bits-lt, of_bits-fits, to_bits-of_bits}
use Rattle.spec.specs.declared.Refusal.{Refusal}
use Rattle.spec.specs.declared.Refusal.TheVariants.{CutSheet, Format, OffTheBoard, BadList}
use Rattle.spec.specs.Limits.{max_rank, max_dimension, max_count, max_entries}
use Rattle.spec.specs.Lists.{In, sum, join}
use Rattle.spec.specs.Float.{finite, in_range}
use Rattle.spec.specs.Demand.{RisingAbove, Rising}
use Rattle.spec.specs.Bits.{bit, field}
use Rattle.spec.specs.Judged.{Judged}
use Rattle.spec.specs.Sheet.{Parsed, Reader, ◌>>=◌, ◌>>◌, done, judge, times, bits, rank, dimension, count, coordinate, sub_list, list, lists_at, lists, end, sheet, vertex_count}
use Rattle.spec.specs.Pack.{bits_of, point_bits, list_bits, rank_bits, pack_bits, AllowedCoordinate, AllowedPoint, AllowedList, AllowedRank, Allowed}
use Rattle.laws.proofs.Marked.{both, lt_test}
use Rattle.laws.proofs.Accepted.{never, same, bound_by, le_test, From, sub_read, from_in, from_rising, one_or}

-- ---- steps of a reading that passes

module _ {A B : Type 0} where
  bind_on : (m : Reader A) (k : A → Reader B) (i : ℕ) (x : A × ℕ) → m i ≡ Ok x → (m >>= k) i ≡ k x.0 x.1
  unfolding ◌>>=◌
  bind_on m k i x e = rw (e, ◌>>=◌)

module _ {A : Type 0} (why : Refusal) (k : Reader A) (i : ℕ) where
  judge-then : (ok : Bool) (y : A × ℕ) → (judge why ok >> k) i ≡ Ok y → (ok ≡ true) × (k i ≡ Ok y)
  unfolding judge ◌>>◌
  judge-then true y e = (refl, e)
  judge-then false y e = absurd (never why y e)

  judge_on : (ok : Bool) → ok ≡ true → (judge why ok >> k) i ≡ k i
  unfolding judge ◌>>◌
  judge_on ok e = rw e

pub le_true : (m n : ℕ) → m ≤ n → leb m n ≡ true
le_true m n h = is_true (leb m n) (le→leb m n h)

module _ (b : List ℕ) where
  -- ---- the bits of b from i up to j are l
  unfoldable pub BitsAre : ℕ → List ℕ → ℕ → Type 0
  BitsAre i [] j = i ≡ j
  BitsAre i (x ∷ l) j = (i < 8 * length b) × (bit b i ≡ x) × BitsAre (suc i) l j

  pub holds-join : (l m : List ℕ) (i j k : ℕ) → BitsAre i l j → BitsAre j m k → BitsAre i (l ++ m) k
  unfolding BitsAre
  holds-join [] m i j k e h = rw e h
  holds-join (x ∷ l) m i j k g h = (g.0, g.1, holds-join l m (suc i) j k g.2 h)

  pub holds-part : (l m : List ℕ) (i k : ℕ) → BitsAre i (l ++ m) k → (j : ℕ) × BitsAre i l j × BitsAre j m k
  unfolding BitsAre
  holds-part [] m i k h = (i, refl, h)
  holds-part (x ∷ l) m i k h = let r = holds-part l m (suc i) k h.2 in (r.0, (h.0, h.1, r.1), r.2)

  -- ---- a field and its bits

  pub bit_small : (i : ℕ) → bit b i < 2
  unfolding bit
  bit_small i = mod-lt _ (omega arith)

  pub field_small : (w i : ℕ) → field b i w < 2 ^ w
  unfolding field
  field_small zero i = omega arith
  field_small (suc w) i = let h = field_small w i in omega (arith, bit_small (i + w), pow-suc 2 w)

  field-holds : (w i : ℕ) → i + w ≤ 8 * length b → BitsAre i (bits_of w (field b i w)) (i + w)
  unfolding field bits_of BitsAre
  field-holds zero i h = omega arith
  field-holds (suc w) i h =
      let s = bit_small (i + w) in
      let q : (2 * field b i w + bit b (i + w)) / 2 ≡ field b i w = omega arith in
      let r : (2 * field b i w + bit b (i + w)) % 2 ≡ bit b (i + w) = omega arith in
      rw (q, r) (holds-join (bits_of w (field b i w)) (bit b (i + w) ∷ []) i (i + w) (i + suc w) (field-holds w i (omega arith)) (omega arith, refl, omega arith))

  pub holds-field : (w n i j : ℕ) → n < 2 ^ w → BitsAre i (bits_of w n) j → (field b i w ≡ n) × (i + w ≡ j)
  unfolding field bits_of BitsAre
  holds-field zero n i j s h = (omega arith, omega arith)
  holds-field (suc w) n i j s h =
      let g = holds-part (bits_of w (n / 2)) (n % 2 ∷ []) i j h in
      let r = holds-field w (n / 2) i g.0 (omega (arith, pow-suc 2 w)) g.1 in
      let e : bit b (i + w) ≡ n % 2 = rw r.1 g.2.1 in
      (omega (arith, r.0), omega (arith, g.2.2, r.1))

  holds-room : (w n i j : ℕ) → BitsAre i (bits_of (suc w) n) j → j ≤ 8 * length b
  unfolding bits_of BitsAre
  holds-room w n i j h = let g = holds-part (bits_of w (n / 2)) (n % 2 ∷ []) i j h in omega (arith, g.2.0, g.2.2)

  -- ---- readers

  -- The reader m passes the values that are P, over the bits that k says.
  pub record Code {A : Type 0} (m : Reader A) (k : A → List ℕ) (P : A → Type 0) : Type 0 where
    pub reads : (i : ℕ) (y : A × ℕ) → m i ≡ Ok y → P y.0 × BitsAre i (k y.0) y.1
    pub writes : (i : ℕ) (y : A × ℕ) → P y.0 → BitsAre i (k y.0) y.1 → m i ≡ Ok y

  bits-code : (w : ℕ) → Code (bits b (suc w)) (bits_of (suc w)) (λ n. n < 2 ^ suc w)
  unfolding bits
  bits-code w = record {
    reads = λ i y. read i y (leb (i + suc w) (8 * length b)) refl;
    writes = λ i y s h.
        let r = holds-field (suc w) y.0 i y.1 s h in
        let q : leb (i + suc w) (8 * length b) ≡ true = le_true (i + suc w) (8 * length b) (omega (arith, r.1, holds-room w y.0 i y.1 h)) in
        rw (q, bits, r.0, r.1);
  }
    where
      read : (i : ℕ) (y : ℕ × ℕ) (o : Bool) → leb (i + suc w) (8 * length b) ≡ o
          → elim o as (λ z. Judged (ℕ × ℕ)) [ true ↦ Ok (field b i (suc w), i + suc w) | false ↦ Err CutSheet ] ≡ Ok y
          → (y.0 < 2 ^ suc w) × BitsAre i (bits_of (suc w) y.0) y.1
      read i y true q e =
          subst (λ (z : ℕ × ℕ). (z.0 < 2 ^ suc w) × BitsAre i (bits_of (suc w) z.0) z.1) (same _ y e)
          (field_small (suc w) i, field-holds (suc w) i (le_test _ _ q))
      read i y false q e = absurd (never CutSheet y e)

  -- A field is judged, and has the value f, where g is the field of a value.
  field-code : {A : Type 0} (w : ℕ) (why : Refusal) (t : ℕ → Bool) (f : ℕ → A) (g : A → ℕ) → ((n : ℕ) → n < 2 ^ suc w → t n ≡ true → g (f n) ≡ n)
      → Code (bits b (suc w) >>= λ n. judge why (t n) >> done (f n)) (λ x. bits_of (suc w) (g x)) (λ x. (t (g x) ≡ true) × (g x < 2 ^ suc w) × (f (g x) ≡ x))
  unfolding done
  field-code {A} w why t f g back = record {
    reads = λ i y e.
        let h = bound_by (bits b (suc w)) _ i y e in
        let n = h.0.0 in
        let r = (bits-code w).reads i h.0 h.1 in
        let j = judge-then why (done (f n)) h.0.1 (t n) y h.2 in
        let q = back n r.0 j.0 in
        subst (λ (z : A × ℕ). ((t (g z.0) ≡ true) × (g z.0 < 2 ^ suc w) × (f (g z.0) ≡ z.0)) × BitsAre i (bits_of (suc w) (g z.0)) z.1) (same _ y j.1)
        (rw q ((j.0, r.0, refl), r.1));
    writes = λ i y p h.
        bind_on (bits b (suc w)) (λ n. judge why (t n) >> done (f n)) i (g y.0, y.1) ((bits-code w).writes i (g y.0, y.1) p.1 h)
        ∙ judge_on why (done (f (g y.0))) y.1 (t (g y.0)) p.0
        ∙ ap (λ (a : A). Ok (a, y.1)) p.2;
  }

  -- The same reader goes n times.
  module _ {A : Type 0} (m : Reader A) (k : A → List ℕ) (P : A → Type 0) (c : Code m k P) where
    EachRead : ℕ → List A → Type 0
    EachRead n l = (length l ≡ n) × ((x : A) → In x l → P x)

    times_reads : (n i : ℕ) (y : List A × ℕ) → times n m i ≡ Ok y → EachRead n y.0 × BitsAre i (join (map k y.0)) y.1
    unfolding times done BitsAre EachRead join
    times_reads zero i y e = subst (λ (z : List A × ℕ). EachRead 0 z.0 × BitsAre i (join (map k z.0)) z.1) (same ([], i) y e) ((refl, λ x h. absurd h), refl)
    times_reads (suc n) i y e =
        let h₁ = bound_by m _ i y e in
        let h₂ = bound_by (times n m) _ _ y h₁.2 in
        let r₁ = c.reads i h₁.0 h₁.1 in
        let r₂ = times_reads n h₁.0.1 h₂.0 h₂.1 in
        subst (λ (z : List A × ℕ). EachRead (suc n) z.0 × BitsAre i (join (map k z.0)) z.1) (same _ y h₂.2)
        ((ap suc r₂.0.0, λ x q. one_or P x h₁.0.0 h₂.0.0 q r₁.0 (r₂.0.1 x)), holds-join (k h₁.0.0) (join (map k h₂.0.0)) i h₁.0.1 h₂.0.1 r₁.1 r₂.1)

    times_writes : (n i : ℕ) (l : List A) (j : ℕ) → EachRead n l → BitsAre i (join (map k l)) j → times n m i ≡ Ok (l, j)
    unfolding times done BitsAre EachRead join
    times_writes zero i [] j p h = rw h
    times_writes zero i (x ∷ l) j p h = absurd (omega arith)
    times_writes (suc n) i [] j p h = absurd (omega arith)
    times_writes (suc n) i (x ∷ l) j p h =
        let g = holds-part (k x) (join (map k l)) i j h in
        bind_on m _ i (x, g.0) (c.writes i (x, g.0) (p.1 x (inl refl)) g.1)
        ∙ bind_on (times n m) _ g.0 (l, j) (times_writes n g.0 l j (omega arith, λ y q. p.1 y (inr q)) g.2)

    times-code : (n : ℕ) → Code (times n m) (λ l. join (map k l)) (λ l. (length l ≡ n) × ((x : A) → In x l → P x))
    unfolding EachRead
    times-code n = record { reads = times_reads n; writes = λ i y. times_writes n i y.0 y.1 }

  -- The same values are said in another way.
  recode : {A : Type 0} (m : Reader A) (k : A → List ℕ) (P Q : A → Type 0) → ((x : A) → P x → Q x) → ((x : A) → Q x → P x) → Code m k P → Code m k Q
  recode m k P Q f g c = record {
    reads = λ i y e. let r = c.reads i y e in (f y.0 r.0, r.1);
    writes = λ i y q. c.writes i y (g y.0 q);
  }

-- ---- the fields of a sheet

and_true : (s t : Bool) → s ≡ true → t ≡ true → s && t ≡ true
and_true s t p q = rw (p, q)

not_nan : (x : Float) → in_range x ≡ true → T (not (is_nan x))
unfolding in_range finite is_nan
not_nan nan h = absurd (false≢true h)
not_nan (inf s) h = tt
not_nan (fin s m e) h = tt

module _ (b : List ℕ) where
  -- A number within a limit has a code.
  up_to_code : (w top : ℕ) → top < 2 ^ suc w → Code b (bits b (suc w) >>= λ n. judge Format (leb n top) >> done n) (bits_of (suc w)) (λ n. n ≤ top)
  up_to_code w top h =
      recode b _ (bits_of (suc w)) (λ n. (leb n top ≡ true) × (n < 2 ^ suc w) × (n ≡ n)) (λ n. n ≤ top) (λ n p. le_test n top p.0) (λ n p. (le_true n top p, omega arith, refl))
      (field-code b w Format (λ n. leb n top) (λ n. n) (λ n. n) (λ n s t. refl))

  rank-code : Code b (rank b) (bits_of 3) (λ n. n ≤ max_rank)
  unfolding rank
  rank-code = up_to_code 2 max_rank (omega arith)

  dimension-code : Code b (dimension b) (bits_of 3) (λ n. n ≤ max_dimension)
  unfolding dimension
  dimension-code = up_to_code 2 max_dimension (omega arith)

  count_code : Code b (count b) (bits_of 12) (λ n. (0 < n) × (n ≤ max_count))
  unfolding count
  count_code =
      recode b _ (bits_of 12) (λ n. (ltb 0 n && leb n max_count ≡ true) × (n < 2 ^ 12) × (n ≡ n)) (λ n. (0 < n) × (n ≤ max_count))
      (λ n p. let k = both (ltb 0 n) (leb n max_count) p.0 in (lt_test 0 n k.0, le_test n max_count k.1))
      (λ n p. (and_true (ltb 0 n) (leb n max_count) (le_true 1 n p.0) (le_true n max_count p.1), omega arith, refl))
      (field-code b 11 Format (λ n. ltb 0 n && leb n max_count) (λ n. n) (λ n. n) (λ n s t. refl))

  coordinate-code : Code b (coordinate b) (λ x. bits_of 64 (to_bits binary64 x)) AllowedCoordinate
  unfolding coordinate
  coordinate-code =
      recode b _ (λ x. bits_of 64 (to_bits binary64 x))
      (λ x. (in_range (of_bits binary64 (to_bits binary64 x)) ≡ true) × (to_bits binary64 x < 2 ^ 64) × (of_bits binary64 (to_bits binary64 x) ≡ x)) AllowedCoordinate
      (λ x p. record {
        binary = is_true (fits binary64 x) (subst (λ (z : Float). T (fits binary64 z)) p.2 (of_bits-fits binary64 (to_bits binary64 x)));
        range = rw p.2 at p.0;
      })
      (λ x p. let f : T (fits binary64 x) = subst T (sym p.binary) tt in
      let q = of_bits-to_bits binary64 x f in
      (rw q p.range, to_bits-lt binary64 x f, q))
      (field-code b 63 OffTheBoard (λ n. in_range (of_bits binary64 n)) (of_bits binary64) (to_bits binary64) (λ n s t. to_bits-of_bits binary64 n s (not_nan (of_bits binary64 n) t)))

-- ---- lists

-- A list that rises below c has at most c entries.
from-length : (low c : ℕ) (l : List ℕ) → low ≤ c → From low c l → low + length l ≤ c
unfolding From
from-length low c [] h w = omega arith
from-length low c (x ∷ l) h w = omega (arith, from-length (suc x) c l w.1 w.2, w.0)

above_from : (c x : ℕ) (l : List ℕ) → RisingAbove x l → ((y : ℕ) → In y l → y < c) → From (suc x) c l
unfolding From
above_from c x [] r h = tt
above_from c x (y ∷ l) r h = (r.0, h y (inl refl), above_from c y l r.1 (λ z q. h z (inr q)))

rising_from : (c : ℕ) (l : List ℕ) → Rising l → ((x : ℕ) → In x l → x < c) → From 0 c l
unfolding From
rising_from c [] r h = tt
rising_from c (x ∷ l) r h = (omega arith, h x (inl refl), above_from c x l r (λ z q. h z (inr q)))

module _ (b : List ℕ) (c : ℕ) (small : c ≤ max_count) where
  sub_reads : (n low i : ℕ) (y : List ℕ × ℕ) → sub_list b c n low i ≡ Ok y → BitsAre b i (join (map (bits_of 11) y.0)) y.1
  unfolding sub_list done BitsAre join
  sub_reads zero low i y e = subst (λ (z : List ℕ × ℕ). BitsAre b i (join (map (bits_of 11) z.0)) z.1) (same ([], i) y e) refl
  sub_reads (suc n) low i y e =
      let h₁ = bound_by (bits b 11) _ i y e in
      let x = h₁.0.0 in
      let h₂ = judge-then BadList _ h₁.0.1 (ltb x c && leb low x) y h₁.2 in
      let h₃ = bound_by (sub_list b c n (suc x)) _ _ y h₂.1 in
      subst (λ (z : List ℕ × ℕ). BitsAre b i (join (map (bits_of 11) z.0)) z.1) (same _ y h₃.2)
      (holds-join b (bits_of 11 x) (join (map (bits_of 11) h₃.0.0)) i h₁.0.1 h₃.0.1 ((bits-code b 10).reads i h₁.0 h₁.1).1 (sub_reads n (suc x) h₁.0.1 h₃.0 h₃.1))

  sub_writes : (n low i : ℕ) (l : List ℕ) (j : ℕ) → length l ≡ n → From low c l → BitsAre b i (join (map (bits_of 11) l)) j → sub_list b c n low i ≡ Ok (l, j)
  unfolding sub_list done BitsAre join From
  sub_writes zero low i [] j q w h = rw h
  sub_writes zero low i (x ∷ l) j q w h = absurd (omega arith)
  sub_writes (suc n) low i [] j q w h = absurd (omega arith)
  sub_writes (suc n) low i (x ∷ l) j q w h =
      let g = holds-part b (bits_of 11 x) (join (map (bits_of 11) l)) i j h in
      bind_on (bits b 11) _ i (x, g.0) ((bits-code b 10).writes i (x, g.0) (omega (arith, w.1)) g.1)
      ∙ judge_on BadList _ g.0 (ltb x c && leb low x) (and_true (ltb x c) (leb low x) (le_true (suc x) c w.1) (le_true low x w.0))
      ∙ bind_on (sub_list b c n (suc x)) _ g.0 (l, j) (sub_writes n (suc x) g.0 l j (omega arith) w.2 g.2)

  list_code : (used : ℕ) → Code b (list b c used) list_bits (λ l. (used + length l ≤ max_entries) × AllowedList c l)
  unfolding list list_bits
  list_code used = record {
    reads = λ i y e.
        let h₁ = bound_by (bits b 12) _ i y e in
        let n = h₁.0.0 in
        let h₂ = judge-then Format _ h₁.0.1 (leb (used + n) max_entries) y h₁.2 in
        let h₃ = judge-then BadList (sub_list b c n 0) h₁.0.1 (ltb 0 n) y h₂.1 in
        let r = sub_read b c n 0 h₁.0.1 y h₃.1 in
        let q = r.0 in (
          (rw q (le_test (used + n) max_entries h₂.0), record { filled = rw q (lt_test 0 n h₃.0); rising = from_rising 0 c y.0 r.1; below = from_in 0 c y.0 r.1 }),
          holds-join b (bits_of 12 (length y.0)) (join (map (bits_of 11) y.0)) i h₁.0.1 y.1 (rw q ((bits-code b 11).reads i h₁.0 h₁.1).1) (sub_reads n 0 h₁.0.1 y h₃.1),
        );
    writes = λ i y p h.
        let l = y.0 in
        let w = rising_from c l p.1.rising p.1.below in
        let g = holds-part b (bits_of 12 (length l)) (join (map (bits_of 11) l)) i y.1 h in
        bind_on (bits b 12) _ i (length l, g.0) ((bits-code b 11).writes i (length l, g.0) (omega (arith, from-length 0 c l (omega arith) w)) g.1)
        ∙ judge_on Format _ g.0 (leb (used + length l) max_entries) (le_true (used + length l) max_entries p.0)
        ∙ judge_on BadList (sub_list b c (length l) 0) g.0 (ltb 0 (length l)) (le_true 1 (length l) p.1.filled)
        ∙ sub_writes (length l) 0 g.0 l y.1 refl w g.2;
  }

  -- There are n lists of a rank, and `used` entries came before them.
  AllLists : ℕ → ℕ → List (List ℕ) → Type 0
  AllLists n used ls = (length ls ≡ n) × ((l : List ℕ) → In l ls → AllowedList c l) × (used + sum (map length ls) ≤ max_entries)

  lists_reads : (n used i : ℕ) (y : List (List ℕ) × ℕ) → used ≤ max_entries → lists_at b c n used i ≡ Ok y → AllLists n used y.0 × BitsAre b i (rank_bits y.0) y.1
  unfolding lists_at done BitsAre join rank_bits AllLists sum
  lists_reads zero used i y u e =
      subst (λ (z : List (List ℕ) × ℕ). AllLists 0 used z.0 × BitsAre b i (rank_bits z.0) z.1) (same ([], i) y e) ((refl, λ l q. absurd q, omega arith), refl)
  lists_reads (suc n) used i y u e =
      let h₁ = bound_by (list b c used) _ i y e in
      let l = h₁.0.0 in
      let r₁ = (list_code used).reads i h₁.0 h₁.1 in
      let h₂ = bound_by (lists_at b c n (used + length l)) _ _ y h₁.2 in
      let ls = h₂.0.0 in
      let r₂ = lists_reads n (used + length l) h₁.0.1 h₂.0 r₁.0.0 h₂.1 in
      subst (λ (z : List (List ℕ) × ℕ). AllLists (suc n) used z.0 × BitsAre b i (rank_bits z.0) z.1) (same _ y h₂.2) (
        (ap suc r₂.0.0, λ x q. one_or (AllowedList c) x l ls q r₁.0.1 (r₂.0.1 x), omega (arith, r₂.0.2)),
        holds-join b (list_bits l) (join (map list_bits ls)) i h₁.0.1 h₂.0.1 r₁.1 r₂.1,
      )

  lists_writes : (n used i : ℕ) (ls : List (List ℕ)) (j : ℕ) → AllLists n used ls → BitsAre b i (rank_bits ls) j → lists_at b c n used i ≡ Ok (ls, j)
  unfolding lists_at done BitsAre join rank_bits AllLists sum
  lists_writes zero used i [] j p h = rw h
  lists_writes zero used i (l ∷ ls) j p h = absurd (omega arith)
  lists_writes (suc n) used i [] j p h = absurd (omega arith)
  lists_writes (suc n) used i (l ∷ ls) j p h =
      let g = holds-part b (list_bits l) (join (map list_bits ls)) i j h in
      bind_on (list b c used) _ i (l, g.0) ((list_code used).writes i (l, g.0) (omega (arith, p.2), p.1 l (inl refl)) g.1)
      ∙ bind_on (lists_at b c n (used + length l)) _ g.0 (ls, j) (lists_writes n (used + length l) g.0 ls j (omega arith, λ x q. p.1 x (inr q), omega (arith, p.2)) g.2)

  lists-code : (n : ℕ) → Code b (lists_at b c n 0) rank_bits (AllowedRank c n)
  unfolding AllLists
  lists-code n = record {
    reads = λ i y e. let r = lists_reads n 0 i y (omega arith) e in (record { sized = r.0.0; each = r.0.1; entries = omega (arith, r.0.2) }, r.1);
    writes = λ i y p. lists_writes n 0 i y.0 y.1 (p.sized, p.each, omega (arith, p.entries));
  }

-- ---- the lists of all ranks

-- The lists go by the counts of ranks 1 to R - 1.
ListsCounted : List ℕ → List (List (List ℕ)) → Type 0
ListsCounted counts more = (length more ≡ length counts - 1) × ((r : ℕ) → suc r < length counts → AllowedRank (get_or counts r 0) (get_or counts (suc r) 0) (get_or more r []))

module _ (b : List ℕ) where
  rank-lists_reads : (counts : List ℕ) (i : ℕ) (y : List (List (List ℕ)) × ℕ) → ((n : ℕ) → In n counts → n ≤ max_count) → lists b counts i ≡ Ok y
      → ListsCounted counts y.0 × BitsAre b i (join (map rank_bits y.0)) y.1
  unfolding lists done BitsAre join ListsCounted
  rank-lists_reads [] i y s e =
      subst (λ (z : List (List (List ℕ)) × ℕ). ListsCounted [] z.0 × BitsAre b i (join (map rank_bits z.0)) z.1) (same ([], i) y e) ((refl, λ r h. absurd (omega arith)), refl)
  rank-lists_reads (c ∷ []) i y s e =
      subst (λ (z : List (List (List ℕ)) × ℕ). ListsCounted (c ∷ []) z.0 × BitsAre b i (join (map rank_bits z.0)) z.1) (same ([], i) y e) ((refl, λ r h. absurd (omega arith)), refl)
  rank-lists_reads (c ∷ d ∷ counts) i y s e =
      let h₁ = bound_by (lists_at b c d 0) _ i y e in
      let r₁ = (lists-code b c (s c (inl refl)) d).reads i h₁.0 h₁.1 in
      let h₂ = bound_by (lists b (d ∷ counts)) _ _ y h₁.2 in
      let r₂ = rank-lists_reads (d ∷ counts) h₁.0.1 h₂.0 (λ n q. s n (inr q)) h₂.1 in
      subst (λ (z : List (List (List ℕ)) × ℕ). ListsCounted (c ∷ d ∷ counts) z.0 × BitsAre b i (join (map rank_bits z.0)) z.1) (same _ y h₂.2) (
        (omega (arith, r₂.0.0), each h₁.0.0 h₂.0.0 r₁.0 r₂.0.1),
        holds-join b (rank_bits h₁.0.0) (join (map rank_bits h₂.0.0)) i h₁.0.1 h₂.0.1 r₁.1 r₂.1,
      )
    where
      each : (ls : List (List ℕ)) (more : List (List (List ℕ))) → AllowedRank c d ls
          → ((r : ℕ) → suc r < length (d ∷ counts) → AllowedRank (get_or (d ∷ counts) r 0) (get_or (d ∷ counts) (suc r) 0) (get_or more r []))
          → (r : ℕ) → suc r < length (c ∷ d ∷ counts) → AllowedRank (get_or (c ∷ d ∷ counts) r 0) (get_or (c ∷ d ∷ counts) (suc r) 0) (get_or (ls ∷ more) r [])
      each ls more a f zero h = a
      each ls more a f (suc r) h = f r (omega arith)

  rank-lists_writes : (counts : List ℕ) (i : ℕ) (more : List (List (List ℕ))) (j : ℕ) → ((n : ℕ) → In n counts → n ≤ max_count)
      → ListsCounted counts more → BitsAre b i (join (map rank_bits more)) j → lists b counts i ≡ Ok (more, j)
  unfolding lists done BitsAre join ListsCounted
  rank-lists_writes [] i [] j s p h = rw h
  rank-lists_writes [] i (ls ∷ more) j s p h = absurd (omega (arith, p.0))
  rank-lists_writes (c ∷ []) i [] j s p h = rw h
  rank-lists_writes (c ∷ []) i (ls ∷ more) j s p h = absurd (omega (arith, p.0))
  rank-lists_writes (c ∷ d ∷ counts) i [] j s p h = absurd (omega (arith, p.0))
  rank-lists_writes (c ∷ d ∷ counts) i (ls ∷ more) j s p h =
      let g = holds-part b (rank_bits ls) (join (map rank_bits more)) i j h in
      bind_on (lists_at b c d 0) _ i (ls, g.0) ((lists-code b c (s c (inl refl)) d).writes i (ls, g.0) (p.1 0 (omega arith)) g.1)
      ∙ bind_on (lists b (d ∷ counts)) _ g.0 (more, j)
      (rank-lists_writes (d ∷ counts) g.0 more j (λ n q. s n (inr q)) (omega (arith, p.0), λ r k. p.1 (suc r) (omega arith)) g.2)

  -- ---- the whole sheet

  point-code : (D : ℕ) → Code b (times D (coordinate b)) point_bits (AllowedPoint D)
  unfolding point_bits
  point-code D =
      recode b (times D (coordinate b)) point_bits (λ v. (length v ≡ D) × ((x : Float) → In x v → AllowedCoordinate x)) (AllowedPoint D)
      (λ v p. record { wide = p.0; coordinates = p.1 }) (λ v p. (p.wide, p.coordinates))
      (times-code b (coordinate b) (λ x. bits_of 64 (to_bits binary64 x)) AllowedCoordinate (coordinate-code b) D)

  points-code : (D n : ℕ) → Code b (times n (times D (coordinate b))) (λ vs. join (map point_bits vs)) (λ vs. (length vs ≡ n) × ((v : List Float) → In v vs → AllowedPoint D v))
  points-code D n = times-code b (times D (coordinate b)) point_bits (AllowedPoint D) (point-code D) n

  counts-code : (n : ℕ) → Code b (times n (count b)) (λ l. join (map (bits_of 12) l)) (λ l. (length l ≡ n) × ((c : ℕ) → In c l → (0 < c) × (c ≤ max_count)))
  counts-code n = times-code b (count b) (bits_of 12) (λ c. (0 < c) × (c ≤ max_count)) (count_code b) n

  -- Fewer than eight bits are left, and they are 0.
  pub record BitsEnded (j : ℕ) : Type 0 where
    pub short : 8 * length b - j < 8
    pub zeros : field b j (8 * length b - j) ≡ 0

  end_test : ℕ → Bool
  end_test i = ltb (8 * length b - i) 8 && eqb (field b i (8 * length b - i)) 0

  end_reads : {A : Type 0} (k : Reader A) (i : ℕ) (y : A × ℕ) → (end b >> k) i ≡ Ok y → BitsEnded i × (k i ≡ Ok y)
  unfolding end end_test ◌>>◌
  end_reads k i y e =
      let h = judge-then CutSheet k i (end_test i) y e in
      let t = both (ltb (8 * length b - i) 8) (eqb (field b i (8 * length b - i)) 0) h.0 in
      (record { short = lt_test (8 * length b - i) 8 t.0; zeros = eqb→eq (field b i (8 * length b - i)) 0 (subst T (sym t.1) tt) }, h.1)

  end_writes : {A : Type 0} (k : Reader A) (i : ℕ) → BitsEnded i → (end b >> k) i ≡ k i
  unfolding end end_test ◌>>◌
  end_writes k i w =
      judge_on CutSheet k i (end_test i)
      (and_true (ltb (8 * length b - i) 8) (eqb (field b i (8 * length b - i)) 0) (le_true (suc (8 * length b - i)) 8 w.short) (rw w.zeros))

  pub sheet_reads : (y : Parsed × ℕ) → sheet b 0 ≡ Ok y → Allowed y.0 × BitsAre b 0 (pack_bits y.0) y.1 × BitsEnded y.1
  unfolding sheet done pack_bits ListsCounted
  sheet_reads y e =
      let h₁ = bound_by (rank b) _ 0 y e in
      let R = h₁.0.0 in
      let r₁ = (rank-code b).reads 0 h₁.0 h₁.1 in
      let h₂ = bound_by (dimension b) _ _ y h₁.2 in
      let D = h₂.0.0 in
      let r₂ = (dimension-code b).reads h₁.0.1 h₂.0 h₂.1 in
      let h₃ = bound_by (times (R - 1) (count b)) _ _ y h₂.2 in
      let counts = h₃.0.0 in
      let r₃ = (counts-code (R - 1)).reads h₂.0.1 h₃.0 h₃.1 in
      let h₄ = bound_by (times (vertex_count R counts) (times D (coordinate b))) _ _ y h₃.2 in
      let points = h₄.0.0 in
      let r₄ = (points-code D (vertex_count R counts)).reads h₃.0.1 h₄.0 h₄.1 in
      let h₅ = bound_by (lists b counts) _ _ y h₄.2 in
      let more = h₅.0.0 in
      let r₅ = rank-lists_reads counts h₄.0.1 h₅.0 (λ n q. (r₃.0.1 n q).1) h₅.1 in
      let h₆ = end_reads _ h₅.0.1 y h₅.2 in
      subst (λ (z : Parsed × ℕ). Allowed z.0 × BitsAre b 0 (pack_bits z.0) z.1 × BitsEnded z.1) (same _ y h₆.1) (
        record { tall = r₁.0; wide = r₂.0; counted = r₃.0.0; counts = r₃.0.1; pointed = r₄.0.0; points = r₄.0.1; listed = r₅.0.0; lists = r₅.0.1 },
        holds-join b (bits_of 3 R) (bits_of 3 D ++ (join (map (bits_of 12) counts) ++ (join (map point_bits points) ++ join (map rank_bits more)))) 0 h₁.0.1 h₅.0.1 r₁.1
            (holds-join b (bits_of 3 D) (join (map (bits_of 12) counts) ++ (join (map point_bits points) ++ join (map rank_bits more))) h₁.0.1 h₂.0.1 h₅.0.1 r₂.1
            (holds-join b (join (map (bits_of 12) counts)) (join (map point_bits points) ++ join (map rank_bits more)) h₂.0.1 h₃.0.1 h₅.0.1 r₃.1
            (holds-join b (join (map point_bits points)) (join (map rank_bits more)) h₃.0.1 h₄.0.1 h₅.0.1 r₄.1 r₅.1))),
        h₆.0,
      )

  pub sheet_writes : (p : Parsed) (j : ℕ) → Allowed p → BitsAre b 0 (pack_bits p) j → BitsEnded j → sheet b 0 ≡ Ok (p, j)
  unfolding sheet done pack_bits ListsCounted
  sheet_writes p j w h z =
      let R = p.rank in
      let D = p.dimension in
      let counts = p.counts in
      let points = p.points in
      let more = p.lists in
      let g₁ = holds-part b (bits_of 3 R) (bits_of 3 D ++ (join (map (bits_of 12) counts) ++ (join (map point_bits points) ++ join (map rank_bits more)))) 0 j h in
      let g₂ = holds-part b (bits_of 3 D) (join (map (bits_of 12) counts) ++ (join (map point_bits points) ++ join (map rank_bits more))) g₁.0 j g₁.2 in
      let g₃ = holds-part b (join (map (bits_of 12) counts)) (join (map point_bits points) ++ join (map rank_bits more)) g₂.0 j g₂.2 in
      let g₄ = holds-part b (join (map point_bits points)) (join (map rank_bits more)) g₃.0 j g₃.2 in
      bind_on (rank b) _ 0 (R, g₁.0) ((rank-code b).writes 0 (R, g₁.0) w.tall g₁.1)
      ∙ bind_on (dimension b) _ g₁.0 (D, g₂.0) ((dimension-code b).writes g₁.0 (D, g₂.0) w.wide g₂.1)
      ∙ bind_on (times (R - 1) (count b)) _ g₂.0 (counts, g₃.0) ((counts-code (R - 1)).writes g₂.0 (counts, g₃.0) (w.counted, w.counts) g₃.1)
      ∙ bind_on (times (vertex_count R counts) (times D (coordinate b))) _ g₃.0 (points, g₄.0)
      ((points-code D (vertex_count R counts)).writes g₃.0 (points, g₄.0) (w.pointed, w.points) g₄.1)
      ∙ bind_on (lists b counts) _ g₄.0 (more, j) (rank-lists_writes counts g₄.0 more j (λ n q. (w.counts n q).1) (w.listed, w.lists) g₄.2)
      ∙ end_writes _ j z
